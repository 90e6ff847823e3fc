-- `ledger::Ledger::assign_runs`'s loop. The invariant: the runs that were yielded are assigned, and the pairs that are left stand behind
-- theirs in the journal. Assumes nothing.
use Rattle.ledger.proofs.Kit.{◌≡◌, ◌<◌, length}
use Rattle.ledger.specs.Inner.{read_runs, AssignsRuns}
use Rattle.ledger.proofs.ReassignedRuns.{PairsLeft}
use Rattle.ledger.proofs.Ledger.assign_runs.Given as goal

abbrev pub invariant-loop-run : goal.invariant-loop-run
invariant-loop-run l = record {
  long : length l.storage ≡ length l.fn.storage;
  fits : l.all.answer < 4294967296;
  by_two : l.run-iterator.size ≡ 2;
  left : PairsLeft l.journal l.first l.runs (length l.yielded) l.run-iterator.rest.now;
  passed : AssignsRuns l.fn.set l.fn.storage (read_runs l.journal l.first (length l.yielded)) l.value l.all.answer l.all.head l.storage;
}
