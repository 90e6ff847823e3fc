-- `range_bitset::ViewMut::assign_in_word` meets its contract. Assumes nothing.
use Rattle.range_bitset.proofs.AssignedWord.{word_assigned}
use Rattle.range_bitset.proofs.Kit.{◌∙◌}
use Rattle.range_bitset.proofs.ViewMut.assign_in_word.Goals as goal

pub returns-clause-assigned : goal.returns-clause-assigned
returns-clause-assigned c =
    let w₁ = c.open_block.ensures.loan.0 in
    let w₂ = c.write_word.ensures.loan.0 ∙ w₁ in
    let w₃ = c.apply_population-changed.ensures.loan.0 ∙ w₂ in
    word_assigned _ _ _ _ _ c.open_block.new.self.storage.now c.write_word.new.self.storage.now c.apply_population-changed.new.self.storage.now _ c.mixed_word-old.result c.combined-new.result _
    (rw w₁ at c.open_block.new.self.room)
    c.requires
    c.ranges.mask.fits
    c.open_block.ensures.opened
    (rw (c.view.ensures.0, c.view.ensures.1, w₁) at c.mixed_word-old.ensures)
    c.combined-new.ensures
    (rw w₁ at c.write_word.ensures.written)
    (rw w₂ at c.apply_population-changed.ensures.written)
    c.apply_population-changed.ensures.changed
    (rw w₃ at c.close_block.ensures.closed)
