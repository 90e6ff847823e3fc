-- `range_bitset::RangeBitset::assign` meets its contract. Assumes nothing.
use Rattle.range_bitset.proofs.ChangeReturns.{assign_empty, assign_idle, assign_done}
use Rattle.range_bitset.proofs.AcceptedHeads.{range_accepted}
use Rattle.range_bitset.proofs.Pieces.{assigns_held}
use Rattle.range_bitset.proofs.Kit.{true≢false, ⊎_elim, sym, ◌∙◌, one-mul}
use Rattle.std.proofs.Common.{rules}
use Rattle.range_bitset.proofs.RangeBitset.assign.Goals as goal
use Rattle.range_bitset.proofs.RangeBitset.assign.Goals.{then-start-end-via-then-start-end, then-start-end-via-else-start-end+then-self-eq0}

pub returns-then-start-end : goal.returns-then-start-end
returns-then-start-end c =
    let ok = sym c.in_ok-check_range.ensures in
    elim c.then-start-end.branch [
      | then-start-end-via-then-start-end w ↦ assign_empty _ _ _ _ _ ok w.if-start-end.true
      | then-start-end-via-else-start-end+then-self-eq0 w ↦ assign_idle _ _ _ _ _ ok w.if-self-eq0.true.0 w.if-self-eq0.true.1
    ]

pub invariant_of-view : goal.invariant_of-view
invariant_of-view c = record { room = (range_accepted _ _ _ (sym c.in_ok-check_range.ensures)).0 }

pub assign_units-changed-requires : goal.assign_units-changed-requires
assign_units-changed-requires c =
    let q = range_accepted c.args.self c.args.storage.now c.args.end (sym c.in_ok-check_range.ensures) in
    (c.if-start-end.false, rw (c.ensure_storage.ensures.loan.0, one-mul c.args.end) q.1)

pub returns : goal.returns
returns c =
    assign_done _ _ _ _ _ (sym c.in_ok-check_range.ensures) c.ensure_storage.new.self.storage.now _ c.assign_units-changed.result c.shifted.result
    c.if-start-end.false
    (λ f z. ⊎_elim (λ w. w.1 z) (λ w. true≢false (sym w ∙ f)) c.if-self-eq0.either)
    c.ensure_storage.ensures.begun
    (assigns_held _ _ _ _ _ _ (search rules) (simp one-mul at (rw c.ensure_storage.ensures.loan.0 at c.assign_units-changed.ensures.assigned)))
    c.shifted.ensures
