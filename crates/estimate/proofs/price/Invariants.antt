-- The loop's invariant in `price`: the clear positions up to the runs that are left are priced (`Walking`). Assumes nothing.
use Rattle.estimate.proofs.EstimateReturns.{Walking}
use Rattle.estimate.proofs.price.Given as goal

abbrev pub invariant-loop-run : goal.invariant-loop-run
invariant-loop-run l = Walking l.fn.set l.fn.storage l.fn.edges l.fn.start l.fn.end l.run-iterator l.order
