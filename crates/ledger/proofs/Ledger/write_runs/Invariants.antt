-- `write_runs`'s loop. The invariant: the iterator walks over the runs; `written` are written, and those that it has left lie from where
-- it stands on (`Writing`). Assumes nothing.
use Rattle.set_runs.proofs.RunWalks.{Along, Writing}
use Rattle.ledger.specs.Journal.{pair}
use Rattle.ledger.proofs.Kit.{◌+◌, ◌*◌, ◌≡◌}
use Rattle.ledger.proofs.Ledger.write_runs.Given as goal

abbrev pub invariant-loop-run : goal.invariant-loop-run
invariant-loop-run l =
    let r = l.fn.runs in
    record {
      walks : Along r.set r.storage.now r.end r.value l.run-iterator.iter;
      room : l.written + l.run-iterator.n ≡ l.most;
      writing : Writing pair r.set r.storage.now r.from r.end r.value l.used l.fn.journal l.journal l.written (l.used + 2 * l.written) l.run-iterator.iter.from;
    }
