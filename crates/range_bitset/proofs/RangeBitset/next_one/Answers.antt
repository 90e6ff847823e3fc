-- `range_bitset::RangeBitset::next_one` meets its contract. Assumes nothing.
use Rattle.range_bitset.proofs.AcceptedHeads.{range_accepted}
use Rattle.range_bitset.proofs.QueryReturns.{next_empty, next_none_set, next_one}
use Rattle.range_bitset.proofs.Kit.{⊎_elim, sym}
use Rattle.range_bitset.proofs.RangeBitset.next_one.Goals as goal

pub returns-then-from-end : goal.returns-then-from-end
returns-then-from-end c =
    let ok = sym c.in_ok-check_range.ensures in
    ⊎_elim (λ w. next_empty _ _ _ _ ok _ w) (λ w. next_none_set _ _ _ _ ok w.1) c.then-from-end.either

pub invariant_of-view : goal.invariant_of-view
invariant_of-view c = record { room = (range_accepted _ _ _ (sym c.in_ok-check_range.ensures)).0 }

pub run_from-requires : goal.run_from-requires
run_from-requires c = (c.if-from-end.false, (range_accepted _ _ _ (sym c.in_ok-check_range.ensures)).1)

pub returns : goal.returns
returns c = next_one _ _ _ _ (sym c.in_ok-check_range.ensures) _ _ c.cut.result c.if-self-eq0.false c.run_from.ensures c.cut.ensures
