-- `last_before` meets its contract, by `last_bit` of LevelMasks. Assumes nothing.
use Rattle.range_bitset.proofs.LevelMasks.{last_bit}
use Rattle.range_bitset.proofs.LevelReturns.{wide}
use Rattle.range_bitset.proofs.level.Level.last_before.Goals as goal

pub returns : goal.returns
returns g c = let l = c.args.self in last_bit l.others c.span.result _ (wide l l.others l.others_fit) c.span.ensures
