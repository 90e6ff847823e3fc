-- `range_bitset::View::mixed_word` meets its contract. Assumes nothing.
use Rattle.range_bitset.specs.Read.{mixed_read}
use Rattle.range_bitset.proofs.Slots.{read_bit}
use Rattle.range_bitset.proofs.View.mixed_word.Goals as goal

pub returns-then-has_bit : goal.returns-then-has_bit
unfolding mixed_read
returns-then-has_bit c = rw (read_bit _ _ c.full_slot.ensures c.has_bit.ensures c.if-has_bit.true)

pub returns-then-not-has_bit : goal.returns-then-not-has_bit
unfolding mixed_read
returns-then-not-has_bit c =
    rw
    (read_bit _ _ c.full_slot.ensures c.has_bit.ensures c.if-has_bit.false, read_bit _ _ c.nonzero_slot.ensures c.has_bit-else-has_bit.ensures c.if-not-has_bit.true)

pub returns-else-not-has_bit : goal.returns-else-not-has_bit
unfolding mixed_read
returns-else-not-has_bit c =
    rw
    (read_bit _ _ c.full_slot.ensures c.has_bit.ensures c.if-has_bit.false, read_bit _ _ c.nonzero_slot.ensures c.has_bit-else-has_bit.ensures c.if-not-has_bit.false)
