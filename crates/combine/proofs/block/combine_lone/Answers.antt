-- `combine_lone` meets its contract, by its loop's invariant. Assumes nothing.
use Rattle.combine.proofs.Kit.{ap, arith, ones, ℕ, ◌<◌, ◌^◌, get_or}
use Rattle.combine.proofs.StoredWords.{lone_lt, turned_is, along_first, along_in, along_most, along_next, along_puts, along_counted, along_few}
use Rattle.combine.proofs.block.combine_lone.Goals as goal

pub loop-i-init : goal.loop-i-init
loop-i-init c = rw c.into_iter-i-iterator.ensures.into_iter_gives (along_first _ _ _ (omega arith))

pub bounds-stored-i : goal.bounds-stored-i
bounds-stored-i c = omega (arith, c.requires.0, along_in c.args.mask _ c.args.third.now c.loop-i.invariant c.in-Some.ensures.steps _ c.requires.2)

pub bounds-third-i : goal.bounds-third-i
bounds-third-i c =
    let a = c.loop-i.invariant in
    omega (arith, a.same_length, along_in c.args.mask _ c.args.third.now a c.in-Some.ensures.steps _ c.requires.2)

pub overflow_add-population : goal.overflow_add-population
overflow_add-population c =
    let a = c.loop-i.invariant in
    let q = c.in-Some.ensures.steps in
    let few : c.in-Some.i < 64 = omega (arith, along_in c.args.mask _ c.args.third.now a q _ c.requires.2, c.requires.1) in
    let most = along_most c.args.mask _ c.args.third.now a q (lone_lt c.args.stored.now c.args.over (λ k. omega (arith, c.type_inv.stored k))) in
    omega (arith, most, ap ones (turned_is c.args.stored.now c.args.over _ few _ c.turned-word.ensures))

pub loop-i-preserved : goal.loop-i-preserved
loop-i-preserved c =
    let a = c.loop-i.invariant in
    let q = c.in-Some.ensures.steps in
    let l = along_in c.args.mask _ c.args.third.now a q _ c.requires.2 in
    let few : c.in-Some.i < 64 = omega (arith, l, c.requires.1) in
    along_next c.args.mask _ c.args.third.now a q _ (turned_is c.args.stored.now c.args.over _ few _ c.turned-word.ensures) l

pub returns : goal.returns
returns c =
    let a = c.loop-i.invariant in
    let z = c.in-None.ensures.steps.0 in
    let known : (k : ℕ) → get_or c.args.stored.now k 0 < 2 ^ 64 = λ k. omega (arith, c.type_inv.stored k) in
    record {
      known = known;
      puts = along_puts _ _ _ a z;
      counted = along_counted _ _ _ a z;
      few = along_few _ _ _ a z (lone_lt c.args.stored.now c.args.over known);
    }
