-- `range_bitset::ViewMut::assign_blocks` meets its contract. Assumes nothing.
use Rattle.range_bitset.proofs.Kit.{◌∙◌}
use Rattle.range_bitset.specs.Represents.{closed}
use Rattle.range_bitset.proofs.Populations.{blocks_count_lem}
use Rattle.range_bitset.specs.Layout.{top_nonzero, top_full}
use Rattle.range_bitset.proofs.Slots.{masks_at}
use Rattle.range_bitset.proofs.WholeWords.{blocks_assigned}
use Rattle.range_bitset.proofs.ViewMut.assign_blocks.Goals as goal

pub returns-clause-assigned : goal.returns-clause-assigned
returns-clause-assigned c =
    λ a b sp l u.
    let v = c.view-view.ensures.0 in
    let room = c.args.self.now.room in
    blocks_assigned _ _ a b _ c.requires sp l u _ _ room c.blocks_population-old.result c.size_if-new.result _
    (λ s t. (rw (v, c.view-view.ensures.1) at c.blocks_population-old.ensures) ∙ blocks_count_lem _ _ s closed t _ a b sp l u room.most)
    c.size_if-new.ensures
    (masks_at _ _ top_nonzero top_full c.args.mask c.args.value (rw v at c.top_nonzero_slot-top_nonzero.ensures) (rw v at c.top_full_slot-top_full.ensures) c.write_masks.ensures.written)
    c.abs_diff.ensures
