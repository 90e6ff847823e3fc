-- `range_bitset::View::next_from` meets its contract. Assumes nothing.
use Rattle.range_bitset.proofs.View.next_from.Goals as goal

pub returns : goal.returns
returns c = c.end_after.ensures (c.bits_from-bits.ensures.none c.if-bits-ne0.false)
