-- Positions of one data word set or cleared. Assumes nothing.
use Rattle.range_bitset.proofs.Kit.{arith}
use Rattle.range_bitset.proofs.Pieces.{assigns_at}
use Rattle.range_bitset.proofs.unit.PositionsUnit.assign_part.Goals as goal

pub returns-clause-assigned : goal.returns-clause-assigned
returns-clause-assigned c = assigns_at _ _ _ _ _ (omega arith) (omega arith) (c.assign_in_word.ensures.assigned _ _ c.mask_of.ensures (omega arith) (omega arith))
