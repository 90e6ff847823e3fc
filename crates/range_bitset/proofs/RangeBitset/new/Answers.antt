-- `range_bitset::RangeBitset::new` meets its contract. Assumes nothing.
use Rattle.range_bitset.proofs.AcceptedHeads.{allowed_bounds}
use Rattle.range_bitset.specs.Entries.{new_of}
use Rattle.range_bitset.specs.Answers.{allowed_capacity}
use Rattle.range_bitset.specs.Layout.{allowed}
use Rattle.range_bitset.proofs.Kit.{ne_eqb, eq-eqb, ◌/◌, arith, true, false, ◌≡◌, sym, ◌∙◌}
use Rattle.range_bitset.proofs.RangeBitset.new.Goals as goal
use Rattle.range_bitset.proofs.RangeBitset.new.Goals.{then-capacity-ne0-via-then-capacity-ne0, then-capacity-ne0-via-else-capacity-ne0+then-not-allowed}

pub returns-then-capacity-ne0 : goal.returns-then-capacity-ne0
unfolding new_of allowed_capacity
returns-then-capacity-ne0 c =
    elim c.then-capacity-ne0.branch [
      | then-capacity-ne0-via-then-capacity-ne0 w ↦ rw (ne_eqb _ _ w.if-capacity-ne0.true)
      | then-capacity-ne0-via-else-capacity-ne0+then-not-allowed w ↦
          let e : allowed (c.args.capacity / 64) ≡ false = sym w.allowed.ensures ∙ w.if-not-allowed.true in
          rw (eq-eqb _ _ w.if-capacity-ne0.false, e)
    ]

pub overflow_cast-result : goal.overflow_cast-result
overflow_cast-result c =
    let e : allowed (c.args.capacity / 64) ≡ true = sym c.allowed.ensures ∙ c.if-not-allowed.false in
    omega (arith, (allowed_bounds _ e).1)

pub returns : goal.returns
unfolding new_of allowed_capacity
returns c =
    let e : allowed (c.args.capacity / 64) ≡ true = sym c.allowed.ensures ∙ c.if-not-allowed.false in
    rw (eq-eqb _ _ c.if-capacity-ne0.false, e)
