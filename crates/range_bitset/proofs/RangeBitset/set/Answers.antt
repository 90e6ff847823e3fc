-- `range_bitset::RangeBitset::set` meets its contract. Assumes nothing.
use Rattle.range_bitset.proofs.ChangeReturns.{set_idle, set_done}
use Rattle.range_bitset.proofs.AcceptedHeads.{point_accepted}
use Rattle.range_bitset.proofs.Pieces.{assigns_held}
use Rattle.range_bitset.proofs.Kit.{arith, true≢false, ⊎_elim, sym, ◌∙◌}
use Rattle.std.proofs.Common.{rules}
use Rattle.range_bitset.proofs.RangeBitset.set.Goals as goal

pub returns-then-self-eq0 : goal.returns-then-self-eq0
returns-then-self-eq0 c = set_idle _ _ _ _ (sym c.in_ok-check_point.ensures) (c.if-not-value.true) c.if-self-eq0.true

pub invariant_of-view : goal.invariant_of-view
invariant_of-view c = record { room = (point_accepted _ _ _ (sym c.in_ok-check_point.ensures)).0 }

pub assign_in_word-changed-requires : goal.assign_in_word-changed-requires
assign_in_word-changed-requires c =
    let q = point_accepted c.args.self c.args.storage.now c.args.index (sym c.in_ok-check_point.ensures) in
    rw c.ensure_storage.ensures.loan.0 (omega arith)

pub returns : goal.returns
returns c =
    set_done _ _ _ _ (sym c.in_ok-check_point.ensures) c.ensure_storage.new.self.storage.now _ c.assign_in_word-changed.result c.shifted.result c.single-bit.result
    (λ f z. ⊎_elim (λ w. w.1 z) (λ w. true≢false (sym w ∙ f)) c.else-not-value.either)
    c.ensure_storage.ensures.begun
    c.single-bit.ensures
    (λ a b sp h u. assigns_held _ _ _ _ _ _ (search rules) ((rw c.ensure_storage.ensures.loan.0 at c.assign_in_word-changed.ensures.assigned) a b sp h u))
    c.shifted.ensures
