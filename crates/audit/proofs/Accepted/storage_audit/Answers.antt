-- `audit::Accepted::storage_audit` meets its contract. Assumes nothing.
use Rattle.audit.proofs.AuditBlocks.{unsound}
use Rattle.audit.proofs.Audits.{tops_stop, storage_told}
use Rattle.audit.proofs.Accepted.storage_audit.Goals as goal

pub returns-then-not-masks_sound : goal.returns-then-not-masks_sound
returns-then-not-masks_sound c = unsound (tops_stop _ _ c.args.self.taken _ c.in-Ok.ensures c.masks_sound.ensures c.if-not-masks_sound.true)

pub returns : goal.returns
returns c =
    storage_told _ _ c.args.self.taken _ c.args.self.words c.in-Ok.ensures c.masks_sound.ensures c.if-not-masks_sound.false c.blocks_audit.ensures
