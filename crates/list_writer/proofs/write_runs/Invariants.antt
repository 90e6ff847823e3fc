-- The loop's invariant in `write_runs`: the iterator walks over the set's runs; `written` are written, and those that it has left lie
-- from where it stands on (`Writing`). Assumes nothing.
use Rattle.list_writer.proofs.Kit.{◌+◌, ◌*◌, ◌≡◌}
use Rattle.saved_list.specs.Format.{run_bytes}
use Rattle.set_runs.proofs.RunWalks.{Along, Writing}
use Rattle.list_writer.proofs.write_runs.Given as goal

abbrev pub invariant-loop-run : goal.invariant-loop-run
invariant-loop-run l = let r = l.fn.runs in record {
  walks : Along r.set r.storage.now r.end r.value l.run-iterator.iter;
  room : l.written + l.run-iterator.n ≡ l.most;
  writing : Writing run_bytes r.set r.storage.now r.from r.end r.value 11 l.fn.file l.file l.written (11 + 8 * l.written) l.run-iterator.iter.from;
}
