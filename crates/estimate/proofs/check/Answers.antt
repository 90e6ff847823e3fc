-- `check` meets its contract: each test stops, or passes to the next. Assumes nothing.
use Rattle.estimate.proofs.Kit.{refl, sym, lt-ltb, le-ltb}
use Rattle.answers.proofs.Numbers.{passed_on}
use Rattle.range_bitset.proofs.RefusalChains.{stop}
use Rattle.estimate.specs.Entry.{estimate_refusal}
use Rattle.estimate.proofs.check.Goals as goal

pub returns-in_err-check_range : goal.returns-in_err-check_range
unfolding estimate_refusal
returns-in_err-check_range c = rw (passed_on _ c.from_residual.ensures.1) (stop _ _ _ c.in_err-check_range.ensures)

pub returns-then-edges-set : goal.returns-then-edges-set
unfolding estimate_refusal
returns-then-edges-set c = rw (sym c.in_ok-check_range.ensures, lt-ltb _ _ c.if-edges-set.true) refl

pub returns : goal.returns
unfolding estimate_refusal
returns c = rw (sym c.in_ok-check_range.ensures, le-ltb _ _ c.if-edges-set.false) refl
