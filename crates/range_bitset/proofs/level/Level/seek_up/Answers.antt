-- `seek_up` meets its contract: one law of LevelReturns for each step and return. The measure is the mask of the parts that are left.
-- Assumes nothing.
use Rattle.range_bitset.proofs.Kit.{arith}
use Rattle.range_bitset.proofs.LevelWalks.{starts_up}
use Rattle.range_bitset.proofs.LevelReturns.{up_first, up_there, up_start, up_in_whole, up_less_whole, up_past_whole, up_in_part, up_past_part, up_last}
use Rattle.range_bitset.proofs.level.Level.seek_up.Goals as goal

pub loop-left-init : goal.loop-left-init
loop-left-init g c = up_first c.args.self

pub overflow_sub-size : goal.overflow_sub-size
overflow_sub-size g c =
    let l = c.args.self in
    omega (arith, up_start l c.loop-left.invariant c.loop-left-test.true, c.start_of.ensures, starts_up l _ _ c.first_from-to.ensures.low)

pub returns-then-n-size : goal.returns-then-n-size
returns-then-n-size g c =
    up_in_whole c.args.self c.loop-left.invariant c.loop-left-test.true c.first_from-to.ensures _ c.if-part-to.true c.start_of.ensures c.if-n-size.true

pub loop-left-smaller-then-part-to : goal.loop-left-smaller-then-part-to
loop-left-smaller-then-part-to g c =
    up_less_whole c.args.self c.loop-left.invariant c.loop-left-test.true c.first_from-to.ensures _ c.if-part-to.true c.start_of.ensures _ c.above-left.ensures

pub loop-left-preserved-then-part-to : goal.loop-left-preserved-then-part-to
loop-left-preserved-then-part-to g c =
    up_past_whole c.args.self c.loop-left.invariant c.loop-left-test.true c.first_from-to.ensures _ c.if-part-to.true c.start_of.ensures _ c.above-left.ensures c.if-n-size.false

pub size_of-size-requires : goal.size_of-size-requires
size_of-size-requires g c = (omega arith, up_there c.args.self c.loop-left.invariant c.loop-left-test.true)

pub returns-then-n-size-2 : goal.returns-then-n-size-2
returns-then-n-size-2 g c =
    up_in_part c.args.self c.loop-left.invariant c.loop-left-test.true c.first_from-to.ensures _ c.if-part-to.false c.size_of-size.ensures c.if-n-size-2.true

pub loop-left-preserved : goal.loop-left-preserved
loop-left-preserved g c =
    up_past_part c.args.self c.loop-left.invariant c.loop-left-test.true c.first_from-to.ensures _ c.if-part-to.false c.size_of-size.ensures c.if-n-size-2.false

pub returns : goal.returns
returns g c = up_last c.args.self c.loop-left.invariant c.loop-left-test.false
