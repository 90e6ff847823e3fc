-- `fit` meets its contract: a short range by its length, a long one by the count. Assumes nothing.
use Rattle.set_runs.proofs.RunWalks.{fits_short}
use Rattle.set_runs.proofs.Kit.{arith, le-leb}
use Rattle.set_runs.proofs.Runs.fit.Goals as goal

pub returns-then-length-most : goal.returns-then-length-most
returns-then-length-most c = rw (le-leb _ _ c.if-length-most.true) (fits_short _ _ _ _ _ _ (omega (arith, c.saturating_sub-length.ensures)))
