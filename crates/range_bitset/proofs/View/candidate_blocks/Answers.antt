-- `range_bitset::View::candidate_blocks` meets its contract. Assumes nothing.
use Rattle.range_bitset.proofs.Candidates.{top_ones, top_zeros}
use Rattle.range_bitset.proofs.Slots.{read_at_lem}
use Rattle.positions.specs.Positions.{within}
use Rattle.range_bitset.proofs.Kit.{ℕ, refl, ap, ◌∙◌}
use Rattle.range_bitset.proofs.View.candidate_blocks.Goals as goal

pub returns-then-value : goal.returns-then-value
returns-then-value c = top_ones _ _ c.args.self.room.most _ c.span-valid.type_inv (λ i. c.span-valid.ensures i ∙ ap (λ (x : ℕ). within 0 x i) c.blocks-2.ensures) _ _ c.if-value.true (read_at_lem c.args.self.storage.now c.top_nonzero_slot.ensures refl)

pub returns-else-value : goal.returns-else-value
returns-else-value c = top_zeros _ _ c.args.self.room.most _ c.span-valid.type_inv (λ i. c.span-valid.ensures i ∙ ap (λ (x : ℕ). within 0 x i) c.blocks-2.ensures) _ _ c.if-value.false (read_at_lem c.args.self.storage.now c.top_full_slot.ensures refl)
