-- `audit::mixed_block_audit` meets its contract. Assumes nothing.
use Rattle.audit.proofs.AuditBlocks.{stored_in}
use Rattle.audit.proofs.Kit.{arith, ones-le}
use Rattle.audit.proofs.mixed_block_audit.Goals as goal

pub stored_words_audit-requires : goal.stored_words_audit-requires
stored_words_audit-requires c =
    let args = c.args in
    let pre = c.requires in
    let masks = c.masks_sound.ensures.yes (c.if-not-masks_sound.false) in
    (pre.0, stored_in _ _ _ _ _ masks.fits pre.1, omega (arith, ones-le 64 args.mixed.full (omega arith)))
