-- Whole blocks set or cleared. Assumes nothing.
use Rattle.range_bitset.proofs.Kit.{arith}
use Rattle.range_bitset.proofs.SpanMasks.{spans_lt}
use Rattle.range_bitset.proofs.Pieces.{assigns_at}
use Rattle.range_bitset.proofs.unit.WordsUnit.assign_whole.Goals as goal

pub assign_blocks-requires : goal.assign_blocks-requires
assign_blocks-requires c = spans_lt _ _ _ _ c.span.type_inv c.span.ensures (omega (arith, c.requires))

pub returns-clause-assigned : goal.returns-clause-assigned
returns-clause-assigned c = assigns_at _ _ _ _ _ (omega arith) (omega arith) (c.assign_blocks.ensures.assigned _ _ c.span.ensures (omega arith) (omega arith))
