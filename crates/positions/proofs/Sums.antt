-- The laws of `sum_over`, a sum over a set's positions in a range. Assumes nothing.
use Rattle.positions.proofs.Kit.{◌≡◌, refl, sym, ap, ap₂, ◌∙◌, Bool, true, false, not, ◌&&◌, and-false, ℕ, zero, suc, ◌+◌, ◌-◌, ◌*◌, ◌≤◌, ◌<◌, zero-le, add-zero, zero-add, le_of_eq, mul-zero, arith, eqb-true, eq-eqb, ne_eqb, eqb}
use Rattle.positions.specs.Positions.{within, total, only_if, sum_over}
use Rattle.positions.proofs.Ranges.{within_in, within_before}
use Rattle.positions.proofs.Totals as T

-- ---- one term

only_diff : (b c : Bool) (v : ℕ) → only_if b v ≡ only_if (b && not c) v + only_if (b && c) v
only_diff true true v = sym (zero-add v)
only_diff true false v = sym (add-zero v)
only_diff false c v = refl

pub only_at_most : (b : Bool) (v : ℕ) → only_if b v ≤ v
only_at_most true v = le_of_eq refl
only_at_most false v = zero-le

only_le : (b : Bool) (v u : ℕ) → v ≤ u → only_if b v ≤ only_if b u
only_le true v u h = h
only_le false v u h = zero-le

-- where only a set's positions matter, an equation is asked for those alone
only_ext : (b : Bool) (v u : ℕ) → (b ≡ true → v ≡ u) → only_if b v ≡ only_if b u
only_ext true v u h = h refl
only_ext false v u h = refl

-- ---- the range

module _ (s : ℕ → Bool) (f : ℕ → ℕ) where
  pub over_zero : (a : ℕ) → sum_over s f a zero ≡ zero
  unfolding sum_over
  over_zero a = T.total_zero (λ i. only_if (s i) (f i)) a

  pub over_first : (a n : ℕ) → sum_over s f a (suc n) ≡ only_if (s a) (f a) + sum_over s f (suc a) n
  unfolding sum_over
  over_first a n = T.total_first (λ i. only_if (s i) (f i)) a n

  -- split at a point
  pub over_add : (a m n : ℕ) → sum_over s f a (m + n) ≡ sum_over s f a m + sum_over s f (a + m) n
  unfolding sum_over
  over_add a m n = T.total_add (λ i. only_if (s i) (f i)) a m n

  pub over_shift : (k a n : ℕ) → sum_over s f (k + a) n ≡ sum_over (λ i. s (k + i)) (λ i. f (k + i)) a n
  unfolding sum_over
  over_shift k a n = T.total_shift (λ i. only_if (s i) (f i)) k a n

  -- one position, and those before and after it
  pub over_split : (a n i : ℕ) → a ≤ i → i < a + n → sum_over s f a n ≡ sum_over s f a (i - a) + (only_if (s i) (f i) + sum_over s f (suc i) (n - suc (i - a)))
  unfolding sum_over
  over_split a n i l h = T.total_split (λ j. only_if (s j) (f j)) a n i l h

  pub over_none : (a n : ℕ) → ((i : ℕ) → a ≤ i → i < a + n → s i ≡ false) → sum_over s f a n ≡ 0
  unfolding sum_over
  over_none a n h = T.total_const (λ i. only_if (s i) (f i)) 0 a n (λ i l k. ap (λ (b : Bool). only_if b (f i)) (h i l k)) ∙ mul-zero n

  pub over_all : (a n : ℕ) → ((i : ℕ) → a ≤ i → i < a + n → s i ≡ true) → sum_over s f a n ≡ total f a n
  unfolding sum_over
  over_all a n h = T.total_ext (λ i. only_if (s i) (f i)) f a n (λ i l k. ap (λ (b : Bool). only_if b (f i)) (h i l k))

  -- one stretch p..q of the set alone, and what lies before it
  pub over_stretch : (a b p q : ℕ) → a ≤ b → b ≤ p → p ≤ q → ((i : ℕ) → b ≤ i → i < q → s i ≡ within p q i)
      → sum_over s f a (q - a) ≡ sum_over s f a (b - a) + total f p (q - p)
  over_stretch a b p q h k l own =
      let n : q - a ≡ (b - a) + ((p - b) + (q - p)) = omega arith in
      let here : a + (b - a) ≡ b = omega arith in
      let there : b + (p - b) ≡ p = omega arith in
      rw (n, over_add a (b - a) ((p - b) + (q - p)), here, over_add b (p - b) (q - p), there, before, whole) (ap (◌+◌ (sum_over s f a (b - a))) (zero-add (total f p (q - p))))
    where
      before : sum_over s f b (p - b) ≡ 0
      before = over_none b (p - b) (λ i u v. own i u (omega arith) ∙ within_before p q i (omega arith))

      whole : sum_over s f p (q - p) ≡ total f p (q - p)
      whole = over_all p (q - p) (λ i u v. own i (omega arith) (omega arith) ∙ within_in p q i u (omega arith))

-- ---- two functions, two sets

module _ (s : ℕ → Bool) (f g : ℕ → ℕ) where
  pub over_terms : (a n : ℕ) → ((i : ℕ) → a ≤ i → i < a + n → s i ≡ true → f i ≡ g i) → sum_over s f a n ≡ sum_over s g a n
  unfolding sum_over
  over_terms a n h = T.total_ext (λ i. only_if (s i) (f i)) (λ i. only_if (s i) (g i)) a n (λ i l k. only_ext (s i) (f i) (g i) (h i l k))

  pub over_le : (a n : ℕ) → ((i : ℕ) → a ≤ i → i < a + n → f i ≤ g i) → sum_over s f a n ≤ sum_over s g a n
  unfolding sum_over
  over_le a n h = T.total_le (λ i. only_if (s i) (f i)) (λ i. only_if (s i) (g i)) a n (λ i l k. only_le (s i) (f i) (g i) (h i l k))

-- every term at most v
pub over_bound : (s : ℕ → Bool) (f : ℕ → ℕ) (v a n : ℕ) → ((i : ℕ) → a ≤ i → i < a + n → f i ≤ v) → sum_over s f a n ≤ n * v
unfolding sum_over
over_bound s f v a n h =
    omega (
      arith,
      T.total_le (λ i. only_if (s i) (f i)) (λ i. v) a n (λ i l k. omega (arith, only_at_most (s i) (f i), h i l k)),
      T.total_const (λ i. v) v a n (λ i l k. refl),
    )

module _ (s t : ℕ → Bool) (f : ℕ → ℕ) where
  pub over_ext : (a n : ℕ) → ((i : ℕ) → a ≤ i → i < a + n → s i ≡ t i) → sum_over s f a n ≡ sum_over t f a n
  unfolding sum_over
  over_ext a n h = T.total_ext (λ i. only_if (s i) (f i)) (λ i. only_if (t i) (f i)) a n (λ i l k. ap (λ (b : Bool). only_if b (f i)) (h i l k))

  -- what s has outside t, and inside
  pub over_diff : (a n : ℕ) → sum_over s f a n ≡ sum_over (λ i. s i && not (t i)) f a n + sum_over (λ i. s i && t i) f a n
  unfolding sum_over
  over_diff a n =
      T.total_ext (λ i. only_if (s i) (f i)) (λ i. only_if (s i && not (t i)) (f i) + only_if (s i && t i) (f i)) a n (λ i l k. only_diff (s i) (t i) (f i))
      ∙ T.total_plus (λ i. only_if (s i && not (t i)) (f i)) (λ i. only_if (s i && t i) (f i)) a n

-- ---- one position

pub over_single : (f : ℕ → ℕ) (j a n : ℕ) → a ≤ j → j < a + n → sum_over (λ i. eqb i j) f a n ≡ f j
over_single f j a n l h =
    let s : ℕ → Bool = λ i. eqb i j in
    let before = over_none s f a (j - a) (λ i p q. ne_eqb i j (omega arith)) in
    let after = over_none s f (suc j) (n - suc (j - a)) (λ i p q. ne_eqb i j (omega arith)) in
    let here : only_if (eqb j j) (f j) ≡ f j = ap (λ (b : Bool). only_if b (f j)) (eq-eqb j j refl) in
    over_split s f a n j l h ∙ ap₂ ◌+◌ before (ap₂ ◌+◌ here after) ∙ zero-add (f j + 0) ∙ add-zero (f j)

module _ (s : ℕ → Bool) (f : ℕ → ℕ) (j a n : ℕ) (l : a ≤ j) (h : j < a + n) where
  only_j : (b : Bool) (i : ℕ) → eqb i j ≡ b → s j ≡ true → (s i && b) ≡ b
  only_j true i q e = rw (eqb-true i j q, e) refl
  only_j false i q e = and-false (s i)

  -- one position less
  pub over_remove : s j ≡ true → sum_over s f a n ≡ f j + sum_over (λ i. s i && not (eqb i j)) f a n
  over_remove e =
      omega (
        arith,
        over_diff s (λ i. eqb i j) f a n,
        over_single f j a n l h,
        over_ext (λ i. s i && eqb i j) (λ i. eqb i j) f a n (λ i p q. only_j (eqb i j) i refl e),
      )
