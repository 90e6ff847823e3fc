-- `seek` meets its contract: either walk's ordinal is the one asked for. Assumes nothing.
use Rattle.range_bitset.proofs.Kit.{arith}
use Rattle.range_bitset.proofs.LevelReturns.{asked_so}
use Rattle.range_bitset.proofs.level.Level.seek.Goals as goal

pub returns-else-n-total : goal.returns-else-n-total
returns-else-n-total g c = asked_so c.seek_down.ensures (λ m k w. omega (arith, w.0, w.1, c.requires))
