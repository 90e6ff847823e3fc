-- `range_bitset::RangeBitset::get` meets its contract. Assumes nothing.
use Rattle.range_bitset.proofs.QueryReturns.{get_fresh, get_begun}
use Rattle.range_bitset.proofs.AcceptedHeads.{point_accepted}
use Rattle.range_bitset.proofs.Kit.{not-true, not-false, arith, sym}
use Rattle.range_bitset.proofs.RangeBitset.get.Goals as goal

pub returns-then-not-self : goal.returns-then-not-self
returns-then-not-self c = get_fresh _ _ _ (sym c.in_ok-check_point.ensures) (not-true _ c.if-not-self.true)

pub invariant_of-view : goal.invariant_of-view
invariant_of-view c = record { room = (point_accepted c.args.self c.args.storage.now c.args.index (sym c.in_ok-check_point.ensures)).0 }

pub word-bits-requires : goal.word-bits-requires
word-bits-requires c =
    let q = point_accepted c.args.self c.args.storage.now c.args.index (sym c.in_ok-check_point.ensures) in
    omega arith

pub returns : goal.returns
returns c =
    get_begun _ _ _ _ _ (sym c.in_ok-check_point.ensures) (not-false _ c.if-not-self.false) c.word-bits.ensures c.has_bit.ensures
