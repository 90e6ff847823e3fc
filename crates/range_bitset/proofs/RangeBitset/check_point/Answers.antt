-- `range_bitset::RangeBitset::check_point` meets its contract. Assumes nothing.
use Rattle.range_bitset.specs.Answers.{point_refusal}
use Rattle.range_bitset.proofs.AcceptedHeads.{point_first}
use Rattle.range_bitset.proofs.Kit.{lt-ltb, le-ltb, sym}
use Rattle.answers.proofs.Numbers.{passed_on}
use Rattle.range_bitset.proofs.RangeBitset.check_point.Goals as goal

pub returns-in_err-check_storage : goal.returns-in_err-check_storage
returns-in_err-check_storage c = rw (passed_on _ c.from_residual.ensures.1) (point_first _ _ _ _ c.in_err-check_storage.ensures)

pub returns-then-index-self : goal.returns-then-index-self
unfolding point_refusal
returns-then-index-self c = rw (sym c.in_ok-check_storage.ensures, le-ltb _ _ c.if-index-self.true)

pub returns : goal.returns
unfolding point_refusal
returns c = rw (sym c.in_ok-check_storage.ensures, lt-ltb _ _ c.if-index-self.false)
