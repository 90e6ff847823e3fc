-- `range_bitset::RangeBitset::check_range` meets its contract. Assumes nothing.
use Rattle.range_bitset.specs.Answers.{range_refusal}
use Rattle.range_bitset.proofs.AcceptedHeads.{range_first}
use Rattle.range_bitset.proofs.Kit.{lt-leb, le-leb, sym}
use Rattle.answers.proofs.Numbers.{passed_on}
use Rattle.range_bitset.proofs.RangeBitset.check_range.Goals as goal

pub returns-in_err-check_storage : goal.returns-in_err-check_storage
returns-in_err-check_storage c = rw (passed_on _ c.from_residual.ensures.1) (range_first _ _ _ _ c.in_err-check_storage.ensures)

pub returns-then-end-self : goal.returns-then-end-self
unfolding range_refusal
returns-then-end-self c = rw (sym c.in_ok-check_storage.ensures, lt-leb _ _ c.if-end-self.true)

pub returns : goal.returns
unfolding range_refusal
returns c = rw (sym c.in_ok-check_storage.ensures, le-leb _ _ c.if-end-self.false)
