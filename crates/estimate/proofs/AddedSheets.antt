-- Laws of `add_run`: one sheet added to an order, and the sheets of a run. Assumes nothing.
use Rattle.estimate.proofs.Kit.{◌≡◌, refl, sym, ◌∙◌, Bool, true, false, List, subst, ℕ, suc, ◌+◌, ◌*◌, ◌-◌, ◌≤◌, ◌<◌, length, get_or, set, get_or-set_same, get_or-set_other, length-set, add-zero, arith, eqb, eqb-true, eqb-false, dec_lt}
use Rattle.std.specs.Prelude.{slice_index}
use Rattle.std.proofs.Common.{Some, None}
use Rattle.positions.specs.Positions.{one, total}
use Rattle.positions.proofs.Totals.{total_zero, total_last}
use Rattle.estimate.specs.declared.Estimate.{Estimate}
use Rattle.estimate.specs.declared.class.Class.{Class}
use Rattle.estimate.specs.declared.class.Class.TheVariants.{A3, A2, A1, A0, Oversize}
use Rattle.estimate.specs.Prices.{class_of, price_of, place_of, over_classes, is_of, class_at}
use Rattle.estimate.specs.Entry.{AddsUp, sheets_of}
use Rattle.estimate.specs.Inner.{Measured, Adds, FirstUnmeasured}
use Rattle.estimate.proofs.Laws.{no_class, no_zero}

-- ---- one sheet of class k

pub place_five : (k : Class) → place_of k < 5
place_five A3 = omega arith
place_five A2 = omega arith
place_five A1 = omega arith
place_five A0 = omega arith
place_five Oversize = omega arith

-- x with it, where the table gives p for the class, at the class's place i
abbrev pub with_sheet : Estimate → ℕ → ℕ → Estimate
with_sheet x p i = record { pence = x.pence + p; sheets = x.sheets + 1; classes = set x.classes i (get_or x.classes i 0 + 1) }

-- its class has one sheet more, and no other
class_more : (x : Estimate) (p : ℕ) (k c : Class) → length x.classes ≡ 5 → sheets_of (with_sheet x p (place_of k)) c ≡ sheets_of x c + one (is_of c (Some k))
class_more x p k c l = by (eqb (place_of c) (place_of k)) refl
  where
    by : (b : Bool) → eqb (place_of c) (place_of k) ≡ b → get_or (set x.classes (place_of k) (get_or x.classes (place_of k) 0 + 1)) (place_of c) 0 ≡ get_or x.classes (place_of c) 0 + one b
    by true z = rw (eqb-true _ _ z) (get_or-set_same x.classes (place_of k) _ 0 (omega (arith, l, place_five k)))
    by false z = omega (arith, get_or-set_other x.classes (place_of k) (place_of c) (get_or x.classes (place_of k) 0 + 1) 0 (eqb-false _ _ z))

-- so that all classes together have one more, and cost its price more
module _ (f g : Class → ℕ) where
  one_more : (k : Class) → ((c : Class) → f c ≡ g c + one (is_of c (Some k))) → (over_classes f ≡ over_classes g + 1)
      × (over_classes (λ c. price_of c * f c) ≡ over_classes (λ c. price_of c * g c) + price_of k)
  one_more A3 h = (omega (arith, h A3, h A2, h A1, h A0, h Oversize), omega (arith, h A3, h A2, h A1, h A0, h Oversize))
  one_more A2 h = (omega (arith, h A3, h A2, h A1, h A0, h Oversize), omega (arith, h A3, h A2, h A1, h A0, h Oversize))
  one_more A1 h = (omega (arith, h A3, h A2, h A1, h A0, h Oversize), omega (arith, h A3, h A2, h A1, h A0, h Oversize))
  one_more A0 h = (omega (arith, h A3, h A2, h A1, h A0, h Oversize), omega (arith, h A3, h A2, h A1, h A0, h Oversize))
  one_more Oversize h = (omega (arith, h A3, h A2, h A1, h A0, h Oversize), omega (arith, h A3, h A2, h A1, h A0, h Oversize))

-- ---- the sheets of a..i, and then that of i

pub added_none : (edges : List ℕ) (a : ℕ) (x : Estimate) → AddsUp x → Adds edges a a x x
added_none edges a x u =
    let n : a - a ≡ 0 = omega arith in
    record {
      adds_up = u;
      sheets_are = omega arith;
      classes_are = λ c. rw (n, total_zero (class_at edges c) a) (sym (add-zero (sheets_of x c)));
      measured = λ i l h. absurd (omega arith);
    }

module _ (edges : List ℕ) (a : ℕ) (x y : Estimate) where
  at_its_place : (i : ℕ) (k : Class) → a ≤ i → class_of (slice_index edges i) ≡ Some k → Adds edges a i x y
      → Adds edges a (i + 1) x (with_sheet y (price_of k) (place_of k))
  at_its_place i k l e u =
      let more = λ (c : Class). class_more y (price_of k) k c u.adds_up.five in
      let both = one_more (sheets_of (with_sheet y (price_of k) (place_of k))) (sheets_of y) k more in
      record {
        adds_up =
            record {
              five = length-set y.classes (place_of k) (get_or y.classes (place_of k) 0 + 1) ∙ u.adds_up.five;
              sheets_are = omega (arith, both.0, u.adds_up.sheets_are);
              pence_are = omega (arith, both.1, u.adds_up.pence_are);
            };
        sheets_are = omega (arith, u.sheets_are);
        classes_are = λ c. omega (arith, more c, u.classes_are c, last c);
        measured = rest;
      }
    where
      last : (c : Class) → total (class_at edges c) a (i + 1 - a) ≡ total (class_at edges c) a (i - a) + one (is_of c (Some k))
      last c =
          let n : i + 1 - a ≡ suc (i - a) = omega arith in
          let here : a + (i - a) ≡ i = omega arith in
          rw (n, total_last (class_at edges c) a (i - a), here, e) refl

      rest : Measured edges a (i + 1)
      rest j v w z = by (dec_lt j i)
        where
          by : Dec (j < i) → ⊥
          by (yes p) = u.measured j v p z
          by (no p) =
              let here : j ≡ i = omega arith in
              no_zero (slice_index edges i) k (subst (λ (n : ℕ). slice_index edges n ≡ 0) here z) e

  pub added_one : (i : ℕ) (k : Class) (p j : ℕ) → p ≡ price_of k → j ≡ place_of k → a ≤ i → class_of (slice_index edges i) ≡ Some k → Adds edges a i x y
      → Adds edges a (i + 1) x (with_sheet y p j)
  added_one i k p j q r l e u =
      rw (q, r) (at_its_place i k l e u)

-- a walk that stands at the end has all of the run
pub ended : (edges : List ℕ) (a e i : ℕ) (x y : Estimate) → i ≡ e → Adds edges a i x y → Adds edges a e x y
ended edges a e i x y h u = subst (λ (n : ℕ). Adds edges a n x y) h u

-- where no class is found for the edge of i, it is the first without one
pub unmeasured_first : (edges : List ℕ) (a e i : ℕ) (x y : Estimate) → a ≤ i → i < e → class_of (slice_index edges i) ≡ None → Adds edges a i x y
    → FirstUnmeasured edges a e i
unmeasured_first edges a e i x y l h k u = record { low = l; high = h; no_edge = no_class _ k; before = u.measured }
