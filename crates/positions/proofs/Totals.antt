-- The laws of `total`, a sum over a range. Assumes nothing.
use Rattle.positions.proofs.Kit.{◌≡◌, refl, sym, ap, ap₂, ◌∙◌, ℕ, zero, suc, ◌+◌, ◌-◌, ◌*◌, ◌≤◌, ◌<◌, zero-le, add-zero, add-suc, suc-add, zero-add, add_assoc, add_comm, add-le-add, add-mul, le_refl, suc-mul, zero-mul, add-one, arith}
use Rattle.positions.specs.Positions.{total}

module _ (f : ℕ → ℕ) where
  pub total_zero : (a : ℕ) → total f a zero ≡ zero
  unfolding total
  total_zero a = refl

  pub total_first : (a n : ℕ) → total f a (suc n) ≡ f a + total f (suc a) n
  unfolding total
  total_first a n = refl

  -- split at a point
  pub total_add : (a m n : ℕ) → total f a (m + n) ≡ total f a m + total f (a + m) n
  unfolding total
  total_add a zero n = rw (zero-add n, add-zero a) (sym (zero-add (total f a n)))
  total_add a (suc m) n =
      ap (total f a) (suc-add m n) ∙ ap (λ (x : ℕ). f a + x) (total_add (suc a) m n)
      ∙ ap (λ (x : ℕ). f a + (total f (suc a) m + total f x n)) (suc-add a m ∙ sym (add-suc a m))
      ∙ sym (add_assoc (f a) (total f (suc a) m) (total f (a + suc m) n))

  pub total_one : (a : ℕ) → total f a 1 ≡ f a
  unfolding total
  total_one a = add-zero (f a)

  pub total_last : (a n : ℕ) → total f a (suc n) ≡ total f a n + f (a + n)
  total_last a n = ap (total f a) (sym (add-one n)) ∙ total_add a n 1 ∙ ap (λ (x : ℕ). total f a n + x) (total_one (a + n))

  pub total_shift : (k a n : ℕ) → total f (k + a) n ≡ total (λ i. f (k + i)) a n
  unfolding total
  total_shift k a zero = refl
  total_shift k a (suc n) = ap (λ (x : ℕ). f (k + a) + x) (ap (λ (x : ℕ). total f x n) (sym (add-suc k a)) ∙ total_shift k (suc a) n)

  -- every term the same
  pub total_const : (v a n : ℕ) → ((i : ℕ) → a ≤ i → i < a + n → f i ≡ v) → total f a n ≡ n * v
  unfolding total
  total_const v a zero h = sym (zero-mul v)
  total_const v a (suc n) h =
      ap₂ ◌+◌ (h a (le_refl a) (omega arith)) (total_const v (suc a) n (λ i l k. h i (omega arith) (omega arith))) ∙ sym (suc-mul n v ∙ add_comm (n * v) v)

  pub total_scale : (v a n : ℕ) → total (λ i. f i * v) a n ≡ total f a n * v
  unfolding total
  total_scale v a zero = sym (zero-mul v)
  total_scale v a (suc n) = ap (λ (x : ℕ). f a * v + x) (total_scale v (suc a) n) ∙ sym (add-mul (f a) (total f (suc a) n) v)

module _ (f g : ℕ → ℕ) where
  pub total_ext : (a n : ℕ) → ((i : ℕ) → a ≤ i → i < a + n → f i ≡ g i) → total f a n ≡ total g a n
  unfolding total
  total_ext a zero h = refl
  total_ext a (suc n) h = ap₂ ◌+◌ (h a (le_refl a) (omega arith)) (total_ext (suc a) n (λ i l k. h i (omega arith) (omega arith)))

  pub total_le : (a n : ℕ) → ((i : ℕ) → a ≤ i → i < a + n → f i ≤ g i) → total f a n ≤ total g a n
  unfolding total
  total_le a zero h = zero-le
  total_le a (suc n) h = add-le-add (h a (le_refl a) (omega arith)) (total_le (suc a) n (λ i l k. h i (omega arith) (omega arith)))

  pub total_plus : (a n : ℕ) → total (λ i. f i + g i) a n ≡ total f a n + total g a n
  unfolding total
  total_plus a zero = refl
  total_plus a (suc n) = rw (total_plus (suc a) n) (omega arith)

-- one term, and those before and after it
pub total_split : (f : ℕ → ℕ) (a n i : ℕ) → a ≤ i → i < a + n → total f a n ≡ total f a (i - a) + (f i + total f (suc i) (n - suc (i - a)))
total_split f a n i l h =
    let e : n ≡ (i - a) + suc (n - suc (i - a)) = omega arith in
    let c : a + (i - a) ≡ i = omega arith in
    ap (total f a) e ∙ total_add f a (i - a) (suc (n - suc (i - a)))
    ∙ ap (λ (x : ℕ). total f a (i - a) + x) (ap (λ (x : ℕ). total f x (suc (n - suc (i - a)))) c ∙ total_first f i (n - suc (i - a)))

-- one term is no more than the sum
pub total_at : (f : ℕ → ℕ) (a n i : ℕ) → a ≤ i → i < a + n → f i ≤ total f a n
total_at f a n i l h = omega (arith, total_split f a n i l h)
