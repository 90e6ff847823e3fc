-- `Source::masks` meets its contract. Assumes nothing.
use Rattle.combine.proofs.Kit.{◌∙◌, ap, arith, ℕ, ◌-◌, ◌^◌}
use Rattle.combine.proofs.RuleMasks.{bit_set, bit_clear}
use Rattle.combine.proofs.Sides.{laid_nonzero, laid_full, masks_full, masks_none, masks_own}
use Rattle.combine.proofs.source.Source.masks.Goals as goal

pub returns-then-self-bit-ne0 : goal.returns-then-self-bit-ne0
returns-then-self-bit-ne0 c =
    let most = c.args.self.room.most in
    masks_full c.args.self c.args.block _ (bit_set _ c.args.block (omega (arith, c.requires)) c.if-self-bit-ne0.true)
    (c.first-all.ensures ∙ ap (λ (n : ℕ). 2 ^ n - 1) c.words_of.ensures)

pub returns-then-self-bit-eq0 : goal.returns-then-self-bit-eq0
returns-then-self-bit-eq0 c =
    let most = c.args.self.room.most in
    masks_none c.args.self c.args.block (bit_clear _ c.args.block (omega (arith, c.requires)) c.if-self-bit-ne0.false)
    (bit_clear _ c.args.block (omega (arith, c.requires)) c.if-self-bit-eq0.true)

pub returns-else-self-bit-eq0 : goal.returns-else-self-bit-eq0
returns-else-self-bit-eq0 c =
    let most = c.args.self.room.most in
    masks_own c.args.self c.args.block _ _ (bit_clear _ c.args.block (omega (arith, c.requires)) c.if-self-bit-ne0.false)
    (bit_set _ c.args.block (omega (arith, c.requires)) c.if-self-bit-eq0.false)
    (laid_nonzero c.args.self.at c.args.self.laid c.args.block) (laid_full c.args.self.at c.args.self.laid c.args.block)
