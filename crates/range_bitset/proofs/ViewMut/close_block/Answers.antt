-- `range_bitset::ViewMut::close_block` meets its contract. Assumes nothing.
use Rattle.range_bitset.proofs.OpenBlocks.{closes_clear, closes_all, closes_mixed}
use Rattle.range_bitset.proofs.Slots.{read_at_lem}
use Rattle.range_bitset.proofs.Kit.{refl, sym, ◌∙◌}
use Rattle.range_bitset.proofs.ViewMut.close_block.Goals as goal

pub returns-then-self-nonzero_slot-eq0-clause-closed : goal.returns-then-self-nonzero_slot-eq0-clause-closed
returns-then-self-nonzero_slot-eq0-clause-closed c =
    closes_clear _ _ _ _ c.args.self.now.room c.requires
    (read_at_lem c.args.self.now.storage.now (rw c.view-view.ensures.0 at c.nonzero_slot.ensures) c.if-self-nonzero_slot-eq0.true)
    (rw (c.top_nonzero_slot-top_nonzero.ensures, c.single-bit.ensures, c.view-view.ensures.0))

pub returns-then-self-full_slot-clause-closed : goal.returns-then-self-full_slot-clause-closed
returns-then-self-full_slot-clause-closed c =
    closes_all _ _ _ _ c.args.self.now.room c.requires
    (λ z. c.if-self-nonzero_slot-eq0.false (read_at_lem c.args.self.now.storage.now (sym (rw c.view-view.ensures.0 at c.nonzero_slot.ensures)) z))
    (read_at_lem c.args.self.now.storage.now (rw c.view-view.ensures.0 at c.full_slot.ensures) c.if-self-full_slot.true ∙ (rw c.view-view.ensures.0 at c.valid_words.ensures))
    (rw (c.top_full_slot-top_full.ensures, c.single-bit.ensures, c.view-view.ensures.0))

pub returns-else-self-full_slot-clause-closed : goal.returns-else-self-full_slot-clause-closed
returns-else-self-full_slot-clause-closed c =
    closes_mixed _ _ _ _ c.args.self.now.room c.requires
    (λ z. c.if-self-nonzero_slot-eq0.false (read_at_lem c.args.self.now.storage.now (sym (rw c.view-view.ensures.0 at c.nonzero_slot.ensures)) z))
    (λ z. c.if-self-full_slot.false (read_at_lem c.args.self.now.storage.now (sym (rw c.view-view.ensures.0 at c.full_slot.ensures)) z ∙ sym (rw c.view-view.ensures.0 at c.valid_words.ensures)))
    refl
