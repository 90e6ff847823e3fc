-- `audit::Accepted::blocks_audit` meets its contract. Assumes nothing.
use Rattle.audit.proofs.Audits.{blocks_first, blocks_next, reach_first, reach_next, reach_most}
use Rattle.range_bitset.proofs.AcceptedHeads.{accepted}
use Rattle.range_bitset.proofs.SetWords.{block_most}
use Rattle.range_bitset.specs.Layout.{blocks}
use Rattle.audit.proofs.Kit.{refl, ◌∙◌, ap₂, arith, ◌+◌, ◌<◌}
use Rattle.audit.specs.Sound.{plain}
use Rattle.audit.proofs.Accepted.blocks_audit.Goals as goal

pub loop-block-init : goal.loop-block-init
loop-block-init c = (blocks_first _ _, reach_first _ _)

pub overflow_add-population : goal.overflow_add-population
overflow_add-population c =
    let args = c.args in
    let told = c.in_ok-population.ensures.yes _ refl in
    let most = (accepted args.self.head args.self.storage.now c.args.self.taken).most in
    omega (
      arith,
      told.1,
      c.loop-block.invariant.1,
      reach_most args.self.head.words (plain args.self.head.words args.self.storage.now) c.loop-block.block,
      block_most args.self.head.words (plain args.self.head.words args.self.storage.now) c.loop-block.block,
    )

pub loop-block-preserved : goal.loop-block-preserved
loop-block-preserved c =
    let inv = c.loop-block.invariant in
    let told = c.in_ok-population.ensures.yes _ refl in
    let h : c.loop-block.block < blocks c.args.self.head.words = omega (arith, c.div_ceil-block-end.ensures) in (
      blocks_next _ _ c.loop-block.block inv.0 told.0,
      ap₂ ◌+◌ inv.1 told.1 ∙ reach_next _ _ _ h,
    )
