-- `combine_pairs` meets its contract, by its loop's invariant. Assumes nothing.
use Rattle.combine.proofs.Kit.{ap, arith, ones, ◌<◌, eqb}
use Rattle.range_bitset.specs.Read.{ALL}
use Rattle.combine.proofs.StoredWords.{pair_lt, along_first, gathers_first, along_in, along_most, along_next, gathers_next, along_puts, along_counted, along_few, gathers_last}
use Rattle.combine.proofs.block.combine_pairs.Goals as goal

pub loop-i-init : goal.loop-i-init
loop-i-init g c =
    rw c.into_iter-i-iterator.ensures.into_iter_gives
    (along_first _ _ _ (omega arith), gathers_first _ _ c.args.third.now (λ w. eqb w 0), gathers_first _ _ c.args.third.now (λ w. eqb w ALL))

pub bounds-x-i : goal.bounds-x-i
bounds-x-i g c = omega (arith, c.requires.0, along_in c.args.mask _ c.args.third.now c.loop-i.invariant.0 c.in-Some.ensures.steps _ c.requires.3)

pub bounds-y-i : goal.bounds-y-i
bounds-y-i g c = omega (arith, c.requires.1, along_in c.args.mask _ c.args.third.now c.loop-i.invariant.0 c.in-Some.ensures.steps _ c.requires.3)

pub bounds-third-i : goal.bounds-third-i
bounds-third-i g c =
    omega (arith, c.loop-i.invariant.0.same_length, along_in c.args.mask _ c.args.third.now c.loop-i.invariant.0 c.in-Some.ensures.steps _ c.requires.3)

pub overflow_add-population : goal.overflow_add-population
overflow_add-population g c =
    let most = along_most c.args.mask _ c.args.third.now c.loop-i.invariant.0 c.in-Some.ensures.steps (pair_lt g.R.Rule.of c.args.x.now c.args.y.now) in
    omega (arith, most, ap ones c.word-word.ensures)

pub loop-i-preserved : goal.loop-i-preserved
loop-i-preserved g c =
    let inv = c.loop-i.invariant in
    let q = c.in-Some.ensures.steps in
    let l = along_in c.args.mask _ c.args.third.now inv.0 q _ c.requires.3 in
    let few : c.in-Some.i < 64 = omega (arith, l, c.requires.2) in (
      along_next c.args.mask _ c.args.third.now inv.0 q _ c.word-word.ensures l,
      gathers_next c.args.mask _ c.args.third.now inv.0 q (λ w. eqb w 0) _ _ _ c.word-word.ensures few inv.1 c.and-even.ensures.0,
      gathers_next c.args.mask _ c.args.third.now inv.0 q (λ w. eqb w ALL) _ _ _ c.word-word.ensures few inv.2 c.and-even.ensures.1,
    )

pub returns : goal.returns
returns g c =
    let inv = c.loop-i.invariant in
    let z = c.in-None.ensures.steps.0 in
    record {
      puts = along_puts _ _ _ inv.0 z;
      empty_is = gathers_last _ _ c.args.third.now (λ w. eqb w 0) _ _ z inv.1;
      full_is = gathers_last _ _ c.args.third.now (λ w. eqb w ALL) _ _ z inv.2;
      counted = along_counted _ _ _ inv.0 z;
      few = along_few _ _ _ inv.0 z (pair_lt g.R.Rule.of c.args.x.now c.args.y.now);
    }
