-- What 02 says of an estimate, as laws of its definitions: every edge has one class, the number of sheets, the three answers among each other, the first
-- sheet without an edge, and how large the sum can be. Assumes nothing.
use Rattle.estimate.proofs.Kit.{◌≡◌, refl, sym, ap, ◌∙◌, subst, Bool, true, false, not, ◌&&◌, cond, false≢true, ℕ, zero, suc, ◌+◌, ◌*◌, ◌-◌, ◌≤◌, ◌<◌, List, mul-add, arith, le-leb, lt-leb, leb, eqb, ne_eqb, eqb-true, eq-eqb, dec_le}
use Rattle.std.specs.Prelude.{slice_index}
use Rattle.std.proofs.Common.{Option, Some, None}
use Rattle.positions.specs.Positions.{Positions, lacking, differ, only_if, one, sum_over, count, count_from, Place, found_at, first}
use Rattle.positions.proofs.Sums.{over_zero, over_first, over_bound, over_ext}
use Rattle.positions.proofs.Selects.{count_having}
use Rattle.positions.specs.Walks.{having}
use Rattle.positions.proofs.Searches.{IsFirst, Searched, hit, miss, first_means}
use Rattle.estimate.specs.declared.class.Class.{Class}
use Rattle.estimate.specs.declared.class.Class.TheVariants.{A3, A2, A1, A0, Oversize}
use Rattle.estimate.specs.Prices.{class_of, price_of, over_classes, price_in, is_of, price_at, sheet_at, class_at, over_clear, unmeasured, lowest, highest}

-- ---- classes

-- the borders by computation
pub borders : (class_of 1 ≡ Some A3) × (class_of 420 ≡ Some A3) × (class_of 421 ≡ Some A2) × (class_of 594 ≡ Some A2) × (class_of 595 ≡ Some A1)
    × (class_of 841 ≡ Some A1) × (class_of 842 ≡ Some A0) × (class_of 1189 ≡ Some A0) × (class_of 1190 ≡ Some Oversize) × (class_of 65535 ≡ Some Oversize)
unfolding class_of
borders = (refl, refl, refl, refl, refl, refl, refl, refl, refl, refl)

-- a sheet has no class where it is not measured, and only there
pub none_at_0 : class_of 0 ≡ None
unfolding class_of
none_at_0 = refl

-- an edge among those of a class is of that class
pub of_class : (c : Class) (e : ℕ) → lowest c ≤ e → e ≤ highest c → class_of e ≡ Some c
unfolding class_of
of_class A3 e l h = rw (ne_eqb e 0 (omega arith), le-leb e 420 h) refl
of_class A2 e l h = rw (ne_eqb e 0 (omega arith), lt-leb e 420 (omega arith), le-leb e 594 h) refl
of_class A1 e l h = rw (ne_eqb e 0 (omega arith), lt-leb e 420 (omega arith), lt-leb e 594 (omega arith), le-leb e 841 h) refl
of_class A0 e l h =
    rw (ne_eqb e 0 (omega arith), lt-leb e 420 (omega arith), lt-leb e 594 (omega arith), lt-leb e 841 (omega arith), le-leb e 1189 h) refl
of_class Oversize e l h =
    rw (ne_eqb e 0 (omega arith), lt-leb e 420 (omega arith), lt-leb e 594 (omega arith), lt-leb e 841 (omega arith), lt-leb e 1189 (omega arith)) refl

-- every other edge of 16 bits is among those of one class, which it is of, and of no other
pub record OneClass (e : ℕ) : Type 0 where
  pub class : Class
  pub is_class : class_of e ≡ Some class
  pub low : lowest class ≤ e
  pub high : e ≤ highest class
  pub alone : (c : Class) → lowest c ≤ e → e ≤ highest c → c ≡ class

pub one_class : (e : ℕ) → 1 ≤ e → e ≤ 65535 → OneClass e
one_class e l h = by (dec_le e 420) (dec_le e 594) (dec_le e 841) (dec_le e 1189)
  where
    known : (c : Class) → lowest c ≤ e → e ≤ highest c → OneClass e
    known c m k =
        record {
          class = c;
          is_class = of_class c e m k;
          low = m;
          high = k;
          alone = λ d x y. let both : Some d ≡ Some c = sym (of_class d e x y) ∙ of_class c e m k in cc;
        }

    by : Dec (e ≤ 420) → Dec (e ≤ 594) → Dec (e ≤ 841) → Dec (e ≤ 1189) → OneClass e
    by (yes p) q r t = known A3 l p
    by (no p) (yes q) r t = known A2 (omega arith) q
    by (no p) (no q) (yes r) t = known A1 (omega arith) r
    by (no p) (no q) (no r) (yes t) = known A0 (omega arith) t
    by (no p) (no q) (no r) (no t) = known Oversize (omega arith) h

-- ---- the three answers among each other

-- what one position weighs, as what all classes do: its price, and 1 where it is measured
price_one : (o : Option Class) → price_in o ≡ over_classes (λ c. price_of c * one (is_of c o))
price_one None = refl
price_one (Some A3) = refl
price_one (Some A2) = refl
price_one (Some A1) = refl
price_one (Some A0) = refl
price_one (Some Oversize) = refl

sheet_one : (o : Option Class) → (o ≡ None → ⊥) → 1 ≡ over_classes (λ c. 1 * one (is_of c o))
sheet_one None h = absurd (h refl)
sheet_one (Some A3) h = refl
sheet_one (Some A2) h = refl
sheet_one (Some A1) h = refl
sheet_one (Some A0) h = refl
sheet_one (Some Oversize) h = refl

-- an edge that has a class is not 0, and one that has none is
pub no_zero : (e : ℕ) (c : Class) → e ≡ 0 → class_of e ≡ Some c → ⊥
no_zero e c z h = let both : None ≡ Some c = sym none_at_0 ∙ (ap class_of (sym z) ∙ h) in let z : ◌≡◌ {A = ℕ} 0 1 = cc in omega arith

pub no_class : (e : ℕ) → class_of e ≡ None → e ≡ 0
unfolding class_of
no_class e h = eqb-true e 0 (by (eqb e 0) (leb e 420) (leb e 594) (leb e 841) (leb e 1189) h)
  where
    some : (c : Class) {P : Type 0} → Some c ≡ None → P
    some c k = absurd (let z : ◌≡◌ {A = ℕ} 0 1 = cc in omega arith)

    by : (z p q r t : Bool) → cond z None (cond p (Some A3) (cond q (Some A2) (cond r (Some A1) (cond t (Some A0) (Some Oversize))))) ≡ None → z ≡ true
    by true p q r t k = refl
    by false true q r t k = some A3 k
    by false false true r t k = some A2 k
    by false false false true t k = some A1 k
    by false false false false true k = some A0 k
    by false false false false false k = some Oversize k

module _ (s : Positions) (edges : List ℕ) where
  -- a sum whose weight is u of the position's class is that of each class's sheets, u each
  class_sums : (f : ℕ → ℕ) (u : Class → ℕ) (a n : ℕ)
      → ((i : ℕ) → a ≤ i → i < a + n → s i ≡ true → f i ≡ over_classes (λ c. u c * class_at edges c i))
      → sum_over s f a n ≡ over_classes (λ c. u c * sum_over s (class_at edges c) a n)
  class_sums f u a zero h =
      rw (over_zero s f a, over_zero s (class_at edges A3) a, over_zero s (class_at edges A2) a, over_zero s (class_at edges A1) a, over_zero s (class_at edges A0) a, over_zero s (class_at edges Oversize) a)
      (omega arith)
  class_sums f u a (suc n) h =
      omega (
        arith,
        over_first s f a n,
        more A3,
        more A2,
        more A1,
        more A0,
        more Oversize,
        here (s a) refl,
        class_sums f u (suc a) n (λ i l v. h i (omega arith) (omega arith)),
      )
    where
      more : (c : Class) → u c * sum_over s (class_at edges c) a (suc n) ≡ u c * only_if (s a) (class_at edges c a) + u c * sum_over s (class_at edges c) (suc a) n
      more c = ap (λ (x : ℕ). u c * x) (over_first s (class_at edges c) a n) ∙ mul-add (u c) (only_if (s a) (class_at edges c a)) (sum_over s (class_at edges c) (suc a) n)

      here : (b : Bool) → s a ≡ b → only_if b (f a) ≡ over_classes (λ c. u c * only_if b (class_at edges c a))
      here true x = h a (omega arith) (omega arith) x
      here false x = omega arith

  -- the sum is that of each class's sheets at the class's price
  pub price_classes : (a n : ℕ) → sum_over s (price_at edges) a n ≡ over_classes (λ c. price_of c * sum_over s (class_at edges c) a n)
  price_classes a n = class_sums (price_at edges) price_of a n (λ i l v x. price_one (class_of (slice_index edges i)))

  -- the classes' sheets are all the sheets, where each is measured
  pub sheet_classes : (a n : ℕ) → ((i : ℕ) → a ≤ i → i < a + n → s i ≡ true → slice_index edges i ≡ 0 → ⊥)
      → sum_over s sheet_at a n ≡ over_classes (λ c. sum_over s (class_at edges c) a n)
  sheet_classes a n h =
      omega (
        arith,
        class_sums sheet_at (λ c. 1) a n (λ i l v x. sheet_one (class_of (slice_index edges i)) (λ y. h i l v x (no_class _ y))),
      )

-- ---- the number of sheets, and the width of the sum

module _ (s : Positions) where
  clear_having : (a e : ℕ) → over_clear s sheet_at a e ≡ count (having s false) a e
  unfolding count count_from
  clear_having a e = over_ext (lacking s true) (having s false) sheet_at a (e - a) (λ i l h. clear (s i))
    where
      clear : (b : Bool) → differ b true ≡ cond false b (not b)
      clear true = refl
      clear false = refl

  -- the range's length less its count
  pub sheets_left : (a e : ℕ) → over_clear s sheet_at a e ≡ e - a - count s a e
  sheets_left a e = clear_having a e ∙ count_having s a e false

-- a range whose start is not below its end has no sheet, and costs nothing
pub nothing_left : (s : Positions) (f : ℕ → ℕ) (a e : ℕ) → e ≤ a → over_clear s f a e ≡ 0
nothing_left s f a e l = let n : e - a ≡ 0 = omega arith in rw n (over_zero (lacking s true) f a)

dearest : (o : Option Class) → price_in o ≤ 4200
dearest None = omega arith
dearest (Some A3) = omega arith
dearest (Some A2) = omega arith
dearest (Some A1) = omega arith
dearest (Some A0) = omega arith
dearest (Some Oversize) = omega arith

-- no sum within the largest capacity passes 32 bits, nor comes near them
pub sum_fits : (s : Positions) (edges : List ℕ) (a e : ℕ) → e ≤ 262144 → over_clear s (price_at edges) a e ≤ 1101004800
sum_fits s edges a e l =
    omega (arith, over_bound (lacking s true) (price_at edges) 4200 a (e - a) (λ i u v. dearest (class_of (slice_index edges i))))

-- ---- the first sheet without an edge

-- i is the least clear position of a..e whose edge is 0
pub record LeastUnmeasured (s : Positions) (edges : List ℕ) (a e i : ℕ) : Type 0 where
  pub low : a ≤ i
  pub high : i < e
  pub clear : s i ≡ false
  pub no_edge : slice_index edges i ≡ 0
  pub least : (j : ℕ) → a ≤ j → j < i → s j ≡ false → slice_index edges j ≡ 0 → ⊥

module _ (s : Positions) (edges : List ℕ) where
  pub unmeasured_at : (i : ℕ) → s i ≡ false → slice_index edges i ≡ 0 → unmeasured s edges i ≡ true
  unmeasured_at i x y = rw (x, eq-eqb _ 0 y) refl

  pub is_unmeasured : (i : ℕ) → unmeasured s edges i ≡ true → (s i ≡ false) × (slice_index edges i ≡ 0)
  is_unmeasured i h = by (s i) (eqb (slice_index edges i) 0) refl refl h
    where
      by : (b z : Bool) → s i ≡ b → eqb (slice_index edges i) 0 ≡ z → (differ b true && z) ≡ true → (s i ≡ false) × (slice_index edges i ≡ 0)
      by true z x y k = absurd (false≢true k)
      by false true x y k = (x, eqb-true _ 0 y)
      by false false x y k = absurd (false≢true k)

  pub least_unmeasured : (a e i : ℕ) → first (unmeasured s edges) true a e ≡ found_at i → LeastUnmeasured s edges a e i
  least_unmeasured a e i h = by (first (unmeasured s edges) true a e) h (first_means (unmeasured s edges) true a e)
    where
      known : IsFirst (unmeasured s edges) true a e i → LeastUnmeasured s edges a e i
      known m =
          record {
            low = m.low;
            high = m.high;
            clear = (is_unmeasured i m.value).0;
            no_edge = (is_unmeasured i m.value).1;
            least = λ j u v x y. false≢true (sym (m.none_before j u v) ∙ unmeasured_at j x y);
          }

      by : (f : Place) → f ≡ found_at i → Searched (unmeasured s edges) true a e f → LeastUnmeasured s edges a e i
      by f x (hit p m) = let y : p ≡ i = cc in known (subst (λ (k : ℕ). IsFirst (unmeasured s edges) true a e k) y m)
      by f x (miss m) = absurd (let z : ◌≡◌ {A = ℕ} 0 1 = cc in omega arith)
