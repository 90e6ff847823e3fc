-- `audit::Accepted::block_audit` meets its contract: one law of Audits for each case that is shown. Assumes nothing.
use Rattle.audit.proofs.Audits.{empty_told, full_told, block_words, mixed_block_told, block_not_refused}
use Rattle.audit.proofs.AuditBlocks.{unsound}
use Rattle.range_bitset.proofs.AcceptedHeads.{accepted}
use Rattle.audit.proofs.Kit.{arith}
use Rattle.audit.proofs.Accepted.block_audit.Goals as goal

pub mixed_block_audit-requires : goal.mixed_block_audit-requires
mixed_block_audit-requires c =
    let most = (accepted c.args.self.head c.args.self.storage.now c.args.self.taken).most in
    (omega (arith, c.requires, most), block_words c.args.self.head c.args.self.storage.now c.args.block c.args.self.taken c.requires _ (rw c.in-Ok-Mixed.field-0-is at c.in-Ok-Mixed.ensures))

pub returns-in-Ok-Empty : goal.returns-in-Ok-Empty
returns-in-Ok-Empty c = empty_told c.args.self.head c.args.self.storage.now c.args.block c.args.self.taken c.requires (rw c.in-Ok-Empty.field-0-is at c.in-Ok-Empty.ensures)

pub returns-in-Ok-Full : goal.returns-in-Ok-Full
returns-in-Ok-Full c = full_told c.args.self.head c.args.self.storage.now c.args.block c.args.self.taken c.requires _ (rw c.in-Ok-Full.field-0-is at c.in-Ok-Full.ensures)

pub returns-in-Ok-Mixed : goal.returns-in-Ok-Mixed
returns-in-Ok-Mixed c =
    mixed_block_told c.args.self.head c.args.self.storage.now c.args.block c.args.self.taken c.requires _ (rw c.in-Ok-Mixed.field-0-is at c.in-Ok-Mixed.ensures) c.args.self.words c.mixed_block_audit.ensures

pub returns-in-Err : goal.returns-in-Err
returns-in-Err c = unsound (λ o. absurd (block_not_refused c.args.self.head c.args.self.storage.now c.args.block c.args.self.taken c.requires _ c.in-Err.ensures))
