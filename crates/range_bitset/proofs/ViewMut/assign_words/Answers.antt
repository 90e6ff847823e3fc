-- `range_bitset::ViewMut::assign_words` meets its contract. Assumes nothing.
use Rattle.range_bitset.proofs.Kit.{◌∙◌}
use Rattle.range_bitset.specs.Represents.{only}
use Rattle.range_bitset.proofs.Populations.{mixed_count_lem}
use Rattle.range_bitset.proofs.OpenBlocks.{open_here}
use Rattle.range_bitset.specs.Layout.{nonzero, full}
use Rattle.range_bitset.proofs.Slots.{masks_at}
use Rattle.range_bitset.proofs.WholeWords.{words_assigned}
use Rattle.range_bitset.proofs.ViewMut.assign_words.Goals as goal

pub returns-clause-assigned : goal.returns-clause-assigned
returns-clause-assigned c =
    λ a b sp l u.
    let w₁ = c.open_block.ensures.loan.0 in
    let w₂ = c.write_masks.ensures.loan.0 ∙ w₁ in
    let w₃ = c.apply_population-changed.ensures.loan.0 ∙ w₂ in
    let v = c.view-view.ensures.0 ∙ w₁ in
    words_assigned _ _ _ a b _ c.requires.0 c.requires.1 sp l u _ c.open_block.new.self.storage.now c.write_masks.new.self.storage.now c.apply_population-changed.new.self.storage.now _ c.mixed_words_population-old.result c.size_if-new.result _
    (rw w₁ at c.open_block.new.self.room)
    c.open_block.ensures.opened
    (λ s t. (rw (v, c.view-view.ensures.1) at c.mixed_words_population-old.ensures.0) ∙ mixed_count_lem _ _ s (only c.args.block) t _ _ a b sp l u (open_here _ s c.args.block))
    c.size_if-new.ensures
    (masks_at _ _ (nonzero c.args.block) (full c.args.block) c.args.mask c.args.value (rw v at c.nonzero_slot-nonzero.ensures) (rw v at c.full_slot-full.ensures) c.write_masks.ensures.written)
    (rw w₂ at c.apply_population-changed.ensures.written)
    c.apply_population-changed.ensures.changed
    (rw w₃ at c.close_block.ensures.closed)
