-- `count` meets its contract: one law of QueryReturns for each return. Assumes nothing.
use Rattle.range_bitset.proofs.Kit.{⊎_elim, sym, arith, one-mul}
use Rattle.range_bitset.proofs.AcceptedHeads.{range_accepted}
use Rattle.range_bitset.proofs.QueryReturns.{count_nothing, count_empty_set, count_begun}
use Rattle.range_bitset.proofs.RangeBitset.count.Goals as goal

pub returns-then-start-end : goal.returns-then-start-end
returns-then-start-end c =
    let ok = sym c.in_ok-check_range.ensures in
    ⊎_elim (λ w. count_nothing _ _ _ _ ok w) (λ w. count_empty_set _ _ _ _ ok w.1) c.then-start-end.either

pub invariant_of-view : goal.invariant_of-view
invariant_of-view c = record { room = (range_accepted c.args.self c.args.storage.now c.args.end (sym c.in_ok-check_range.ensures)).0 }

pub count_units-requires : goal.count_units-requires
count_units-requires c =
    let a = c.args in
    let q = range_accepted a.self a.storage.now a.end (sym c.in_ok-check_range.ensures) in
    (omega (arith, c.if-start-end.false), rw (one-mul a.end) q.1)

pub returns : goal.returns
returns c =
    count_begun _ _ _ _ (sym c.in_ok-check_range.ensures) _ c.if-self-eq0.false (simp one-mul at c.count_units.ensures)
