-- Laws of `count_from` and `count`, how many positions of a range a set has: those of `sum_over` at 1, and what holds of
-- counts alone. Assumes nothing.
use Rattle.positions.proofs.Kit.{◌≡◌, refl, sym, ap, ◌∙◌, Bool, true, false, ℕ, zero, suc, ◌+◌, ◌-◌, ◌*◌, ◌≤◌, ◌<◌, le_refl, mul-one, not-suc-le-zero, one-mul, zero-mul, arith, eqb}
use Rattle.positions.specs.Positions.{Positions, only_if, one, sum_over, count_from, count, total}
use Rattle.positions.proofs.Sums as S
use Rattle.positions.proofs.Totals as T

-- what counts 1 is in the set
pub one_is : (b : Bool) → eqb (one b) 1 ≡ b
one_is true = refl
one_is false = refl

module _ (s : ℕ → Bool) where
  pub count_from_zero : (a : ℕ) → count_from s a zero ≡ zero
  unfolding count_from
  count_from_zero a = S.over_zero s (λ i. 1) a

  pub count_from_first : (a n : ℕ) → count_from s a (suc n) ≡ only_if (s a) 1 + count_from s (suc a) n
  unfolding count_from
  count_from_first a n = S.over_first s (λ i. 1) a n

  -- split at a point
  pub count_from_add : (a m n : ℕ) → count_from s a (m + n) ≡ count_from s a m + count_from s (a + m) n
  unfolding count_from
  count_from_add a m n = S.over_add s (λ i. 1) a m n

  pub count_from_shift : (k a n : ℕ) → count_from s (k + a) n ≡ count_from (λ i. s (k + i)) a n
  unfolding count_from
  count_from_shift k a n = S.over_shift s (λ i. 1) k a n

  pub count_from_le : (a n : ℕ) → count_from s a n ≤ n
  unfolding count_from
  count_from_le a n = omega (arith, S.over_bound s (λ i. 1) 1 a n (λ i l h. le_refl 1))

  pub count_from_none : (a n : ℕ) → ((i : ℕ) → a ≤ i → i < a + n → s i ≡ false) → count_from s a n ≡ 0
  unfolding count_from
  count_from_none a n h = S.over_none s (λ i. 1) a n h

  pub count_from_all : (a n : ℕ) → ((i : ℕ) → a ≤ i → i < a + n → s i ≡ true) → count_from s a n ≡ n
  unfolding count_from sum_over
  count_from_all a n h = T.total_const (λ i. only_if (s i) 1) 1 a n (λ i l k. ap (λ (b : Bool). only_if b 1) (h i l k)) ∙ mul-one n

  none_kept : (b : Bool) → only_if b 1 ≤ 0 → b ≡ false
  none_kept true h = absurd (not-suc-le-zero h)
  none_kept false h = refl

  -- a count of 0: the set has none of the range
  pub count_from_empty : (a n : ℕ) → count_from s a n ≡ 0 → (i : ℕ) → a ≤ i → i < a + n → s i ≡ false
  unfolding count_from sum_over
  count_from_empty a n e i l h = none_kept (s i) (omega (arith, T.total_at (λ j. only_if (s j) 1) a n i l h, e))

module _ (s t : ℕ → Bool) where
  pub count_from_ext : (a n : ℕ) → ((i : ℕ) → a ≤ i → i < a + n → s i ≡ t i) → count_from s a n ≡ count_from t a n
  unfolding count_from
  count_from_ext a n h = S.over_ext s t (λ i. 1) a n h

-- terms that are all v on the set
only_const : (b : Bool) (u v : ℕ) → (b ≡ true → u ≡ v) → only_if b u ≡ only_if b 1 * v
only_const true u v h = h refl ∙ sym (one-mul v)
only_const false u v h = sym (zero-mul v)

pub over_const : (s : ℕ → Bool) (f : ℕ → ℕ) (v a n : ℕ) → ((i : ℕ) → a ≤ i → i < a + n → s i ≡ true → f i ≡ v) → sum_over s f a n ≡ count_from s a n * v
unfolding count_from sum_over
over_const s f v a n h =
    T.total_ext (λ i. only_if (s i) (f i)) (λ i. only_if (s i) 1 * v) a n (λ i l k. only_const (s i) (f i) v (h i l k)) ∙ T.total_scale (λ i. only_if (s i) 1) v a n

-- terms that balance one by one
pub count_from_balance : (s t p q : Positions) (a n : ℕ) → ((i : ℕ) → one (t i) + one (p i) ≡ one (s i) + one (q i))
    → count_from t a n + count_from p a n ≡ count_from s a n + count_from q a n
unfolding count_from sum_over total
count_from_balance s t p q a zero h = refl
count_from_balance s t p q a (suc n) h = omega (arith, h a, count_from_balance s t p q (suc a) n h)

-- ---- the same from a start to an end

module _ (s : Positions) where
  pub count_le : (a e : ℕ) → count s a e ≤ e - a
  unfolding count
  count_le a e = count_from_le s a (e - a)

  pub count_split : (a b e : ℕ) → a ≤ b → b ≤ e → count s a e ≡ count s a b + count s b e
  unfolding count
  count_split a b e h k =
      let p : e - a ≡ (b - a) + (e - b) = omega arith in
      let q : a + (b - a) ≡ b = omega arith in
      rw (p, count_from_add s a (b - a) (e - b), q)

  pub count_none : (a e : ℕ) → ((i : ℕ) → a ≤ i → i < e → s i ≡ false) → count s a e ≡ 0
  unfolding count
  count_none a e h = count_from_none s a (e - a) (λ i p q. h i p (omega arith))

  pub count_all : (a e : ℕ) → ((i : ℕ) → a ≤ i → i < e → s i ≡ true) → count s a e ≡ e - a
  unfolding count
  count_all a e h = count_from_all s a (e - a) (λ i p q. h i p (omega arith))

  pub count_empty : (a e : ℕ) → e ≤ a → count s a e ≡ 0
  count_empty a e h = count_none a e (λ i p q. absurd (omega arith))

  -- a count of 0: the set has none of the range
  pub count_zero : (a e : ℕ) → count s a e ≡ 0 → (i : ℕ) → a ≤ i → i < e → s i ≡ false
  unfolding count
  count_zero a e h i u w = count_from_empty s a (e - a) h i u (omega arith)

  pub count_from_lem : (a n : ℕ) → count s a (a + n) ≡ count_from s a n
  unfolding count
  count_from_lem a n = let e : a + n - a ≡ n = omega arith in ap (count_from s a) e

pub count_same : (s t : Positions) (a e : ℕ) → ((i : ℕ) → a ≤ i → i < e → s i ≡ t i) → count s a e ≡ count t a e
unfolding count
count_same s t a e h = count_from_ext s t a (e - a) (λ i p q. h i p (omega arith))

-- sets that agree in x..y but for a..e: what they differ by there is what they differ by in all
pub count_swap : (s t : Positions) (x a e y : ℕ) → x ≤ a → a ≤ e → e ≤ y
    → ((i : ℕ) → x ≤ i → i < a → t i ≡ s i) → ((i : ℕ) → e ≤ i → i < y → t i ≡ s i)
    → count t x y + count s a e ≡ count s x y + count t a e
count_swap s t x a e y h k l low high =
    omega (
      arith,
      count_split s x a y h (omega arith),
      count_split s a e y k l,
      count_split t x a y h (omega arith),
      count_split t a e y k l,
      count_same t s x a low,
      count_same t s e y high,
    )
