-- `range_bitset::RangeBitset::capacity` meets its contract. Assumes nothing.
use Rattle.range_bitset.proofs.AcceptedHeads.{good_bounds, head_accepted, head_refused}
use Rattle.range_bitset.specs.Entries.{of_head}
use Rattle.positions.specs.Replies.{number}
use Rattle.range_bitset.proofs.Kit.{mul_comm, arith, sym, ap}
use Rattle.answers.proofs.Numbers.{passed_on}
use Rattle.range_bitset.proofs.RangeBitset.capacity.Goals as goal

pub returns-in_err-check_head : goal.returns-in_err-check_head
returns-in_err-check_head c = rw (passed_on _ c.from_residual.ensures.1) (head_refused _ _ _ c.in_err-check_head.ensures)

pub overflow_mul-result : goal.overflow_mul-result
overflow_mul-result c = omega (arith, (good_bounds _ (head_accepted _ (sym c.in_ok-check_head.ensures))).1)

pub returns : goal.returns
unfolding of_head
returns c = rw (head_accepted _ (sym c.in_ok-check_head.ensures)) (ap number (mul_comm _ 64))
