-- `range_bitset::RangeBitset::len` meets its contract. Assumes nothing.
use Rattle.range_bitset.proofs.AcceptedHeads.{head_accepted, head_refused}
use Rattle.range_bitset.specs.Entries.{of_head}
use Rattle.range_bitset.proofs.Kit.{sym}
use Rattle.answers.proofs.Numbers.{passed_on}
use Rattle.range_bitset.proofs.RangeBitset.len.Goals as goal

pub returns-in_err-check_head : goal.returns-in_err-check_head
returns-in_err-check_head c = rw (passed_on _ c.from_residual.ensures.1) (head_refused _ _ _ c.in_err-check_head.ensures)

pub returns : goal.returns
unfolding of_head
returns c = rw (head_accepted _ (sym c.in_ok-check_head.ensures))
