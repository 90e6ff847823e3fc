-- `range_bitset::View::candidate_words` meets its contract. Assumes nothing.
use Rattle.range_bitset.proofs.Candidates.{empty_ones, empty_zeros, full_ones, full_zeros, mixed_ones, mixed_zeros}
use Rattle.range_bitset.proofs.Slots.{read_at_lem}
use Rattle.range_bitset.proofs.Kit.{refl, sym}
use Rattle.range_bitset.proofs.View.candidate_words.Goals as goal

pub returns-then-value : goal.returns-then-value
returns-then-value c = empty_ones _ _ _ c.requires _ c.if-value.true (sym c.in-Empty.ensures)

pub returns-else-value : goal.returns-else-value
returns-else-value c = empty_zeros _ _ _ c.requires _ c.valid_words-valid.ensures _ c.if-value.false (sym c.in-Empty.ensures)

pub returns-then-value-2 : goal.returns-then-value-2
returns-then-value-2 c = full_ones _ _ _ c.requires _ c.valid_words-valid.ensures _ c.if-value-2.true (sym c.in-Full.ensures)

pub returns-else-value-2 : goal.returns-else-value-2
returns-else-value-2 c = full_zeros _ _ _ c.requires _ c.if-value-2.false (sym c.in-Full.ensures)

pub returns-then-value-3 : goal.returns-then-value-3
returns-then-value-3 c = mixed_ones _ _ _ c.requires _ c.valid_words-valid.ensures _ _ c.if-value-3.true (sym c.in-Mixed.ensures) (read_at_lem c.args.self.storage.now c.nonzero_slot.ensures refl)

pub returns-else-value-3 : goal.returns-else-value-3
returns-else-value-3 c = mixed_zeros _ _ _ c.requires _ c.valid_words-valid.ensures _ _ c.if-value-3.false (sym c.in-Mixed.ensures) (read_at_lem c.args.self.storage.now c.full_slot.ensures refl)
