-- `ledger::Ledger::assign_file`'s loop. The invariant: the runs that the reader has passed are set. Assumes nothing.
use Rattle.ledger.proofs.Kit.{◌≡◌, ◌≤◌, length, true}
use Rattle.saved_list.specs.Format.{held_count}
use Rattle.ledger.specs.Inner.{file_runs, Reassigns}
use Rattle.ledger.proofs.Ledger.assign_file.Given as goal

abbrev pub invariant-loop-run : goal.invariant-loop-run
invariant-loop-run l = record {
  long : length l.storage ≡ length l.fn.storage;
  file_is : l.run-iterator.file.now ≡ l.file;
  held : l.run-iterator.at ≤ held_count l.file;
  passed : Reassigns l.fn.set l.fn.storage (file_runs l.file l.run-iterator.at) true l.head l.storage;
}
