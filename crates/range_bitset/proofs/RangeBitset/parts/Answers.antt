-- `parts` meets its contract. Assumes nothing.
use Rattle.range_bitset.proofs.Kit.{sym}
use Rattle.range_bitset.proofs.AcceptedHeads.{head_accepted, good_bounds}
use Rattle.range_bitset.proofs.RangeBitset.parts.Goals as goal

pub blocks-blocks-requires : goal.blocks-blocks-requires
blocks-blocks-requires c = (good_bounds c.args.self (head_accepted c.args.self (sym c.in_ok-check_head.ensures))).1
