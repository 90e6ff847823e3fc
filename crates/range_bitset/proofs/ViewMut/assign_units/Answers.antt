-- `assign_units` meets its contract: the two partial parts at the ends, and the whole parts between. Assumes nothing.
use Rattle.range_bitset.proofs.Kit.{◌*◌, ◌≡◌, ◌∙◌, ap, arith}
use Rattle.range_bitset.specs.Inner.{Assigns}
use Rattle.range_bitset.specs.declared.ViewMut.{ViewMut}
use Rattle.range_bitset.proofs.Pieces.{LowEnd, HighEnd, assigns_no_units, assigns_units}
use Rattle.range_bitset.proofs.ViewMut.assign_units.Goals as goal
use Rattle.range_bitset.proofs.ViewMut.assign_units.Goals.{then-from-ne0, else-from-ne0, then-to-ne0, else-to-ne0, then-whole_from-whole_to, else-whole_from-whole_to}

held : {v w : ViewMut} → v ≡ w → v.storage.now ≡ w.storage.now
held e = ap (λ (v : ViewMut). v.storage.now) e

size : {v w : ViewMut} → v ≡ w → v.words ≡ w.words
size e = ap (λ (v : ViewMut). v.words) e

pub returns-clause-assigned : goal.returns-clause-assigned
returns-clause-assigned g c =
    let a = c.args in
    let u = g.U.Unit.each in
    let W = a.self.now.words in
    let v = a.value in
    let f = c.if-from-ne0.whole_from in
    let t = c.if-to-ne0.whole_to in
    let st = a.self.now.storage.now in
    let st₁ = c.if-from-ne0.self.storage.now in
    let st₂ = c.if-to-ne0.self.storage.now in
    let st₃ = c.if-whole_from-whole_to.self.storage.now in
    let w₁ : c.if-from-ne0.self.words ≡ W = elim c.if-from-ne0.branch [ then-from-ne0 w ↦ size w.self-is ∙ w.assign_part-changed.ensures.loan.0 | else-from-ne0 w ↦ size w.self-is ] in
    let w₂ : c.if-to-ne0.self.words ≡ W = elim c.if-to-ne0.branch [ then-to-ne0 w ↦ size w.self-is ∙ w.assign_part-more.ensures.loan.0 ∙ w₁ | else-to-ne0 w ↦ size w.self-is ∙ w₁ ] in
    let low : LowEnd a.from f c.if-from-ne0.changed (Assigns W (u * a.from) (u * (64 * f)) v st st₁ c.if-from-ne0.changed) =
    elim c.if-from-ne0.branch [
      | then-from-ne0 w ↦
          record {
            low = omega arith;
            near = omega arith;
            fits = rw w.changed-is w.assign_part-changed.type_inv;
            done = rw (held w.self-is, w.changed-is, w.whole_from-is) w.assign_part-changed.ensures.assigned;
          }
      | else-from-ne0 w ↦ record { low = omega arith; near = omega arith; fits = omega arith; done = rw (held w.self-is, w.changed-is) (assigns_no_units W u v _ _ _ (omega arith)) }
    ]
    in
    let high : HighEnd t a.to c.if-from-ne0.changed c.if-to-ne0.changed (Assigns W (u * (64 * t)) (u * a.to) v st₁ st₂) =
    elim c.if-to-ne0.branch [
      | then-to-ne0 w ↦
          record {
            more = w.assign_part-more.result;
            high = omega arith;
            near = omega arith;
            sum = w.changed-is;
            done = rw (held w.self-is, w.whole_to-is) (rw w₁ at w.assign_part-more.ensures.assigned);
          }
      | else-to-ne0 w ↦ record { more = 0; high = omega arith; near = omega arith; sum = omega (arith, low.fits); done = rw (held w.self-is) (assigns_no_units W u v _ _ _ (omega arith)) }
    ]
    in
    let whole : Assigns W (u * (64 * f)) (u * (64 * t)) v st₂ st₃ c.if-whole_from-whole_to.whole =
    elim c.if-whole_from-whole_to.branch [
      | then-whole_from-whole_to w ↦ rw (held w.self-is, w.whole-is) (rw w₂ at w.assign_whole-whole.ensures.assigned)
      | else-whole_from-whole_to w ↦ rw (held w.self-is, w.whole-is) (assigns_no_units W u v _ _ _ (omega arith))
    ]
    in
    assigns_units W u v a.from (64 * f) (64 * t) a.to st st₁ st₂ st₃ _ high.more _ _ low.low (omega (arith, low.near, high.near)) high.high c.requires.1 c.args.self.now.room.most
    low.done high.done whole (omega (arith, high.sum))
