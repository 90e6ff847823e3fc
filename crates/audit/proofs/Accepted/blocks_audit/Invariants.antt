-- `audit::Accepted::blocks_audit` meets its contract. The invariant: the blocks past meet the rules, and the sum is the count up to where
-- they end. Assumes nothing.
use Rattle.audit.proofs.Audits.{reach}
use Rattle.positions.specs.Positions.{count}
use Rattle.audit.proofs.Kit.{◌≡◌}
use Rattle.audit.specs.Sound.{plain}
use Rattle.audit.specs.Inner.{SoundBlocks}
use Rattle.audit.proofs.Accepted.blocks_audit.Given as goal

abbrev pub invariant-loop-block : goal.invariant-loop-block
invariant-loop-block l =
    SoundBlocks l.self.head.words l.self.storage.now l.block × (l.population ≡ count (plain l.self.head.words l.self.storage.now) 0 (reach l.self.head.words l.block))
