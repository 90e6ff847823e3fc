-- The population of whole blocks. Assumes nothing.
use Rattle.range_bitset.proofs.Kit.{arith}
use Rattle.range_bitset.proofs.SpanMasks.{spans_lt}
use Rattle.range_bitset.proofs.CountPieces.{blocks_piece}
use Rattle.range_bitset.proofs.unit.WordsUnit.whole_population.Goals as goal

pub blocks_population-requires : goal.blocks_population-requires
blocks_population-requires c = spans_lt _ _ _ _ c.span.type_inv c.span.ensures (omega (arith, c.requires))

pub returns : goal.returns
returns c =
    blocks_piece _ _ c.span.result c.args.from c.args.to _ _ _ c.span.ensures (omega arith) (omega arith) (omega (arith, c.args.view.room.most)) (omega arith) (omega arith) c.blocks_population.ensures
