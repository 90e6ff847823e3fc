-- Words of one block set or cleared. Assumes nothing.
use Rattle.range_bitset.proofs.Kit.{arith}
use Rattle.range_bitset.proofs.SpanMasks.{spans_lt}
use Rattle.range_bitset.proofs.Pieces.{assigns_at}
use Rattle.range_bitset.proofs.unit.WordsUnit.assign_part.Goals as goal

pub assign_words-requires : goal.assign_words-requires
assign_words-requires c = (omega arith, spans_lt _ _ _ _ c.mask_of.type_inv c.mask_of.ensures (omega (arith, c.requires)))

pub returns-clause-assigned : goal.returns-clause-assigned
returns-clause-assigned c = assigns_at _ _ _ _ _ (omega arith) (omega arith) (c.assign_words.ensures.assigned _ _ c.mask_of.ensures (omega arith) (omega (arith, c.requires)))
