-- The population of positions of one data word. Assumes nothing.
use Rattle.range_bitset.proofs.Kit.{◌+◌, ◌-◌, ◌/◌, ◌%◌, arith}
use Rattle.range_bitset.proofs.CountPieces.{word_piece}
use Rattle.range_bitset.proofs.unit.PositionsUnit.part_population.Goals as goal

pub returns : goal.returns
returns c =
    let a = c.args in
    word_piece _ _ (a.from / 64) c.mask_of.result (a.from % 64) ((a.to - 1) % 64 + 1) _ _ _ (omega arith) c.mask_of.ensures (omega arith) (omega arith) (omega arith) (omega arith) c.masked_ones.ensures
