-- `stored_population` meets its contract. Assumes nothing.
use Rattle.range_bitset.proofs.Kit.{◌≡◌, ap, arith, lt_of_lt_of_le, ones, get_or, pow_mono}
use Rattle.bits.proofs.Walks.{left_lt, taken, walk_none}
use Rattle.range_bitset.proofs.Walked.{lowest_lt, stored_count, stored_most, ones_most}
use Rattle.range_bitset.proofs.RangeBitset.stored_population.Goals as goal

pub bounds-data-word : goal.bounds-data-word
bounds-data-word c =
    let q = c.in-Some.ensures.steps in
    omega (arith, q.1, lowest_lt _ c.loop-word.word-iterator.0 q.0 c.requires.0 c.loop-word.invariant.1)

pub overflow_add-population : goal.overflow_add-population
overflow_add-population c =
    let d = c.args.data.now in
    omega (
      arith,
      taken c.in-Some.ensures.steps (λ k. ones (get_or d k 0)) (lt_of_lt_of_le c.loop-word.invariant.1 (pow_mono c.requires.0)),
      ones_most c.args.explicit (λ k. get_or d k 0) (λ k. omega (arith, c.type_inv.data k)),
      c.loop-word.invariant.0,
    )

pub loop-word-preserved : goal.loop-word-preserved
loop-word-preserved c =
    let d = c.args.data.now in
    let q = c.in-Some.ensures.steps in
    (omega (arith, taken q (λ k. ones (get_or d k 0)) (lt_of_lt_of_le c.loop-word.invariant.1 (pow_mono c.requires.0)), c.loop-word.invariant.0), left_lt q _ c.loop-word.invariant.1)

pub returns : goal.returns
returns c =
    let d = c.args.data.now in
    let e : c.loop-word.population ≡ stored_count d c.args.explicit =
    omega (arith, c.loop-word.invariant.0, ap (stored_count d) c.in-None.ensures.steps.0, walk_none 64 (λ k. ones (get_or d k 0))) in
    (e, omega (arith, e, stored_most d c.args.explicit (lt_of_lt_of_le c.requires.1 (pow_mono c.requires.0)) (λ k. omega (arith, c.type_inv.data k))))
