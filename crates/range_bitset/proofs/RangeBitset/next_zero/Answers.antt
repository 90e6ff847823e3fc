-- `range_bitset::RangeBitset::next_zero` meets its contract. Assumes nothing.
use Rattle.range_bitset.proofs.AcceptedHeads.{range_accepted}
use Rattle.range_bitset.proofs.QueryReturns.{next_empty, next_fresh, next_zero}
use Rattle.range_bitset.proofs.Kit.{not-true, not-false, sym}
use Rattle.range_bitset.proofs.RangeBitset.next_zero.Goals as goal

pub returns-then-from-end : goal.returns-then-from-end
returns-then-from-end c = next_empty _ _ _ _ (sym c.in_ok-check_range.ensures) _ c.if-from-end.true

pub returns-then-not-self : goal.returns-then-not-self
returns-then-not-self c =
    next_fresh _ _ _ _ (sym c.in_ok-check_range.ensures) c.if-from-end.false (not-true _ c.if-not-self.true)

pub invariant_of-view : goal.invariant_of-view
invariant_of-view c = record { room = (range_accepted _ _ _ (sym c.in_ok-check_range.ensures)).0 }

pub run_from-requires : goal.run_from-requires
run_from-requires c = (c.if-from-end.false, (range_accepted _ _ _ (sym c.in_ok-check_range.ensures)).1)

pub returns : goal.returns
returns c = next_zero _ _ _ _ (sym c.in_ok-check_range.ensures) _ _ c.cut.result (not-false _ c.if-not-self.false) c.run_from.ensures c.cut.ensures
