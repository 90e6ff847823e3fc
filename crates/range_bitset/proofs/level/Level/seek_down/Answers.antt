-- `seek_down` meets its contract: one law of LevelReturns for each step and return. The measure is the mask of the parts that are left.
-- Assumes nothing.
use Rattle.range_bitset.proofs.Kit.{arith}
use Rattle.range_bitset.proofs.LevelWalks.{starts_up}
use Rattle.range_bitset.proofs.LevelReturns.{down_first, down_there, down_start, down_in_whole, down_less_whole, down_past_whole, down_in_part, down_less_part, down_past_part, down_last}
use Rattle.range_bitset.proofs.level.Level.seek_down.Goals as goal

pub loop-left-init : goal.loop-left-init
loop-left-init g c = down_first c.args.self

pub overflow_sub-size : goal.overflow_sub-size
overflow_sub-size g c =
    let l = c.args.self in
    omega (
      arith,
      down_start l c.loop-left.invariant c.loop-left-test.true c.last_before-from.ensures _ c.if-from-last.true c.start_of.ensures,
      c.start_of.ensures,
      starts_up l _ _ c.last_before-from.ensures.high,
    )

pub returns-then-back-size : goal.returns-then-back-size
returns-then-back-size g c =
    down_in_whole c.args.self c.loop-left.invariant c.loop-left-test.true c.last_before-from.ensures _ c.if-from-last.true c.start_of.ensures c.if-back-size.true

pub loop-left-smaller-then-from-last : goal.loop-left-smaller-then-from-last
loop-left-smaller-then-from-last g c =
    down_less_whole c.args.self c.loop-left.invariant c.loop-left-test.true c.last_before-from.ensures _ c.if-from-last.true c.start_of.ensures _ c.low-left.ensures

pub loop-left-preserved-then-from-last : goal.loop-left-preserved-then-from-last
loop-left-preserved-then-from-last g c =
    down_past_whole c.args.self c.loop-left.invariant c.loop-left-test.true c.last_before-from.ensures _ c.if-from-last.true c.start_of.ensures _ c.low-left.ensures c.if-back-size.false

pub size_of-size-requires : goal.size_of-size-requires
size_of-size-requires g c = (omega arith, down_there c.args.self c.loop-left.invariant c.loop-left-test.true)

pub returns-then-back-size-2 : goal.returns-then-back-size-2
returns-then-back-size-2 g c =
    down_in_part c.args.self c.loop-left.invariant c.loop-left-test.true c.last_before-from.ensures _ c.if-from-last.false c.size_of-size.ensures c.if-back-size-2.true

pub loop-left-smaller : goal.loop-left-smaller
loop-left-smaller g c =
    down_less_part c.args.self c.loop-left.invariant c.loop-left-test.true c.last_before-from.ensures _ c.if-from-last.false c.size_of-size.ensures _ c.low-left-else-from-last.ensures

pub loop-left-preserved : goal.loop-left-preserved
loop-left-preserved g c =
    down_past_part c.args.self c.loop-left.invariant c.loop-left-test.true c.last_before-from.ensures _ c.if-from-last.false c.size_of-size.ensures _ c.low-left-else-from-last.ensures c.if-back-size-2.false

pub returns : goal.returns
returns g c = down_last c.args.self c.loop-left.invariant c.loop-left-test.false
