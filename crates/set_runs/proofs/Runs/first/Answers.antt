-- `first` meets its contract: the answer of the search for the value that the runs lack. Assumes nothing.
use Rattle.std.proofs.Common.{true, false}
use Rattle.set_runs.proofs.RunWalks.{found_run}
use Rattle.set_runs.proofs.Runs.first.Goals as goal
use Rattle.set_runs.proofs.Runs.first.Goals.{then-self, else-self}

pub returns : goal.returns
returns c =
    elim c.if-self.branch [
      | then-self w ↦ rw (c.unwrap_or.ensures, w.found-is, w.if-self.true) (found_run _ _ _ _ true _ w.next_zero-found.ensures)
      | else-self w ↦ rw (c.unwrap_or.ensures, w.found-is, w.if-self.false) (found_run _ _ _ _ false _ w.next_one-found.ensures)
    ]
