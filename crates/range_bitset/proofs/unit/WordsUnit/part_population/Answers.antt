-- The population of words of one block. Assumes nothing.
use Rattle.range_bitset.proofs.Kit.{◌+◌, ◌-◌, ◌/◌, ◌%◌, arith}
use Rattle.range_bitset.proofs.SpanMasks.{spans_lt}
use Rattle.range_bitset.proofs.CountPieces.{words_piece}
use Rattle.range_bitset.proofs.unit.WordsUnit.part_population.Goals as goal

pub words_population-requires : goal.words_population-requires
words_population-requires c = (omega arith, spans_lt _ _ _ _ c.mask_of.type_inv c.mask_of.ensures (omega (arith, c.requires)))

pub returns : goal.returns
returns c =
    let a = c.args in
    words_piece _ _ (a.from / 64) c.mask_of.result (a.from % 64) ((a.to - 1) % 64 + 1) _ _ _ c.mask_of.ensures (omega arith) (omega (arith, c.requires)) (omega arith) (omega arith)
    c.words_population.ensures.0
