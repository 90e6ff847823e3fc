-- `first_from` meets its contract, by `first_bit` of LevelMasks. Assumes nothing.
use Rattle.range_bitset.proofs.LevelMasks.{first_bit}
use Rattle.range_bitset.proofs.LevelReturns.{wide}
use Rattle.range_bitset.proofs.level.Level.first_from.Goals as goal

pub returns : goal.returns
returns g c = let l = c.args.self in first_bit l.others c.rest.result c.args.from (wide l l.others l.others_fit) c.requires c.rest.ensures
