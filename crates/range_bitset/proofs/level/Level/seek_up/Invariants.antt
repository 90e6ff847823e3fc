-- `seek_up` meets its contract: one law of LevelReturns for each step and return. The measure is the mask of the parts that are left.
-- Assumes nothing.
use Rattle.range_bitset.proofs.LevelReturns.{AtUp}
use Rattle.range_bitset.proofs.level.Level.seek_up.Given as goal

abbrev pub invariant-loop-left : goal.invariant-loop-left
invariant-loop-left g l =
    AtUp l.self l.fn.n l.left l.n

abbrev pub decreases-loop-left : goal.decreases-loop-left
decreases-loop-left g l =
    l.left
