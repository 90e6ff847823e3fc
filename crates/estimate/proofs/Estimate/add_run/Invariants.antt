-- The loop's invariant in `add_run`: the sheets up to where it stands are added. Assumes nothing.
use Rattle.estimate.specs.Inner.{Adds}
use Rattle.estimate.proofs.Estimate.add_run.Given as goal

abbrev pub invariant-loop-i : goal.invariant-loop-i
invariant-loop-i l = Adds l.edges l.start l.i l.fn.self l.order
