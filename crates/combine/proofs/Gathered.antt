-- Masks gathered in a walk over the parts that are to be looked into, and sums over the parts: the same laws serve words and blocks. Assumes nothing.
use Rattle.combine.proofs.Kit.{◌≡◌, refl, ap, ap₂, sym, ◌∙◌, ◌≢◌, Bool, true, false, not, ◌&&◌, ◌||◌, cond, dec_lt, le-ltb, ltb-true, not-true, pow_mono, ℕ, ◌+◌, ◌-◌, ◌/◌, ◌^◌, ◌<◌, ◌≤◌, arith, eqb, ltb, eqb-true, lt-ltb, pow-lt, ones_lt, bit_and, bit_or, or_lt, count_trailing_zeros, lt_of_le_of_lt}
use Rattle.std.proofs.Math.Nat.{div-le_self, mul-zero}
use Rattle.positions.specs.Positions.{sum_over}
use Rattle.positions.proofs.Bools.{and_left, and_right, same₁, same₂}
use Rattle.positions.proofs.Counts.{over_const}
use Rattle.positions.proofs.Sums.{over_diff, over_ext, over_terms}
use Rattle.bits.specs.Bit.{bit, mask}
use Rattle.bits.proofs.Bits.{bit_shr, bit_ones, bit_of_or, bit_pow, bit_ext}
use Rattle.bits.proofs.Ones.{tz_set, bit_drop_lowest}
use Rattle.bits.proofs.Words.{mask_lt, mask_at, mask_of}
use Rattle.combine.specs.Rules.{Rule}
use Rattle.combine.specs.Inner.{unsettled_at, full_at, Splits}
use Rattle.combine.specs.declared.rule.Masks.{Masks}
use Rattle.combine.specs.declared.rule.Split.{Split}

-- the mask of the first n parts
pub first_is : (n : ℕ) → n ≤ 64 → (2 ^ 64 - 1) / 2 ^ (64 - n) ≡ 2 ^ n - 1
first_is n h =
    bit_ext 64 _ _ (lt_of_le_of_lt (div-le_self (2 ^ 64 - 1) (2 ^ (64 - n))) (omega arith)) (omega (arith, ones_lt n, small))
    (λ i l. bit_shr (2 ^ 64 - 1) (64 - n) i ∙ bit_ones 64 (64 - n + i) ∙ by (dec_lt i n) ∙ sym (bit_ones n i))
  where
    small : 2 ^ n ≤ 2 ^ 64
    small = pow_mono h

    by : {i : ℕ} → Dec (i < n) → ltb (64 - n + i) 64 ≡ ltb i n
    by {i} (yes l) = lt-ltb (64 - n + i) 64 (omega arith) ∙ sym (lt-ltb i n l)
    by {i} (no l) = le-ltb (64 - n + i) 64 (omega arith) ∙ sym (le-ltb i n (omega arith))

-- ---- one step of a walk over the parts m, of which `left` are yet to come

-- those that are past
abbrev pub past : (ℕ → Bool) → ℕ → ℕ → Bool
past m left j = m j && not (bit left j)

module _ {left i left' : ℕ} (q : (left ≢ 0) × (i ≡ count_trailing_zeros 64 left) × (left' ≡ bit_and left (left - 1))) (h : left < 2 ^ 64) where
  pub here : bit left i ≡ true
  here = ap (bit left) q.1 ∙ tz_set 64 left q.0 h

  pub left_bit : (j : ℕ) → bit left' j ≡ (bit left j && not (eqb j i))
  left_bit j = ap (λ (x : ℕ). bit x j) q.2 ∙ bit_drop_lowest 64 left q.0 h j ∙ ap (λ (x : ℕ). bit left j && not (eqb j x)) (sym q.1)

  pub still_left : (j : ℕ) → bit left' j ≡ true → bit left j ≡ true
  still_left j e = and_left (bit left j) _ (sym (left_bit j) ∙ e)

  pub past_more : (m : ℕ → Bool) → m i ≡ true → (j : ℕ) → past m left' j ≡ (past m left j || eqb j i)
  past_more m t j = ap (λ (x : Bool). m j && not x) (left_bit j) ∙ by (eqb j i) refl
    where
      by : (b : Bool) → eqb j i ≡ b → (m j && not (bit left j && not b)) ≡ ((m j && not (bit left j)) || b)
      by true e = let k = eqb-true j i e in rw (k, here, t) refl
      by false e = same₂ (λ x y. x && not (y && not false)) (λ x y. (x && not y) || false) tt (m j) (bit left j)

-- ---- a mask gathered part by part: those of the parts p that g holds of, and then of one more

module _ (n : ℕ) (g p p' : ℕ → Bool) (i : ℕ) (more : (j : ℕ) → p' j ≡ (p j || eqb j i)) where
  pub gathered_next : (m r : ℕ) → i < n → m ≡ mask n (λ j. p j && g j) → r ≡ cond (g i) (bit_or m (2 ^ i)) m → r ≡ mask n (λ j. p' j && g j)
  gathered_next m r l e d = d ∙ by (g i) refl
    where
      m_lt : m < 2 ^ n
      m_lt = rw e (mask_lt n _)

      m_at : (j : ℕ) → j < n → bit m j ≡ (p j && g j)
      m_at j k = ap (λ (x : ℕ). bit x j) e ∙ mask_at n _ j k

      added : (j : ℕ) (b : Bool) → eqb j i ≡ b → g i ≡ true → ((p j && g j) || b) ≡ ((p j || b) && g j)
      added j true z t = let k = eqb-true j i z in rw (k, t) (same₁ (λ x. (x && true) || true) (λ x. (x || true) && true) tt (p i))
      added j false z t = same₂ (λ x y. (x && y) || false) (λ x y. (x || false) && y) tt (p j) (g j)

      left_out : (j : ℕ) (b : Bool) → eqb j i ≡ b → g i ≡ false → (p j && g j) ≡ ((p j || b) && g j)
      left_out j true z t = let k = eqb-true j i z in rw (k, t) (same₁ (λ x. x && false) (λ x. (x || true) && false) tt (p i))
      left_out j false z t = same₂ (λ x y. x && y) (λ x y. (x || false) && y) tt (p j) (g j)

      by : (b : Bool) → g i ≡ b → cond b (bit_or m (2 ^ i)) m ≡ mask n (λ j. p' j && g j)
      by true t =
          mask_of n _ _ (or_lt n m (2 ^ i) m_lt (pow-lt l))
          (λ j k. bit_of_or m (2 ^ i) j ∙ ap₂ ◌||◌ (m_at j k) (bit_pow i j) ∙ added j (eqb j i) refl t ∙ ap (λ (x : Bool). x && g j) (sym (more j)))
      by false t = mask_of n _ _ m_lt (λ j k. m_at j k ∙ left_out j (eqb j i) refl t ∙ ap (λ (x : Bool). x && g j) (sym (more j)))

-- ---- the parts split

module _ (f : Rule) (x y : Masks) (n : ℕ) (r : Split) (k : Splits f x y (2 ^ n - 1) r) where
  pub valid_at : (i : ℕ) → i < n → bit (2 ^ n - 1) i ≡ true
  valid_at i l = bit_ones n i ∙ lt-ltb i n l

  pub unsettled_in : (i : ℕ) → bit r.unsettled i ≡ true → (i < n) × (unsettled_at f x y i ≡ true)
  unsettled_in i e =
      let p = sym (k.unsettled_is i) ∙ e in
      (ltb-true i n (sym (bit_ones n i) ∙ and_left (bit (2 ^ n - 1) i) _ p), and_right (bit (2 ^ n - 1) i) _ p)

  pub unsettled_here : (i : ℕ) → i < n → bit r.unsettled i ≡ unsettled_at f x y i
  unsettled_here i l = k.unsettled_is i ∙ ap (λ (z : Bool). z && unsettled_at f x y i) (valid_at i l)

  -- the mask of those that are settled and full is what is gathered before the walk, where g is a truth of the settled parts
  pub gathered_first : (g : ℕ → Bool) → r.full < 2 ^ n → ((i : ℕ) → i < n → unsettled_at f x y i ≡ false → g i ≡ full_at f x y i)
      → r.full ≡ mask n (λ i. not (bit r.unsettled i) && g i)
  gathered_first g fit h =
      mask_of n _ _ fit
      (λ i l.
      k.full_is i ∙ ap (λ (z : Bool). (z && not (unsettled_at f x y i)) && full_at f x y i) (valid_at i l)
      ∙ by i l (unsettled_at f x y i) refl ∙ ap (λ (z : Bool). not z && g i) (sym (unsettled_here i l)))
    where
      by : (i : ℕ) → i < n → (b : Bool) → unsettled_at f x y i ≡ b → (not b && full_at f x y i) ≡ (not b && g i)
      by i l true e = refl
      by i l false e = sym (h i l e)

  -- a sum over the parts: of those that are settled only the full ones count
  pub split_sum : (t v : ℕ → ℕ) → ((i : ℕ) → i < n → unsettled_at f x y i ≡ false → t i ≡ cond (full_at f x y i) (v i) 0)
      → sum_over (bit (2 ^ n - 1)) t 0 64 ≡ sum_over (bit r.full) v 0 64 + sum_over (bit r.unsettled) t 0 64
  split_sum t v h =
      let V : ℕ → Bool = bit (2 ^ n - 1) in
      let U : ℕ → Bool = unsettled_at f x y in
      let G : ℕ → Bool = full_at f x y in
      let rest : ℕ → Bool = λ i. V i && not (U i) in
      let term : (i : ℕ) → rest i ≡ true → t i ≡ cond (G i) (v i) 0 = λ i e.
      h i (ltb-true i n (sym (bit_ones n i) ∙ and_left (V i) (not (U i)) e)) (not-true (U i) (and_right (V i) (not (U i)) e))
      in
      let looked : sum_over (λ i. V i && U i) t 0 64 ≡ sum_over (bit r.unsettled) t 0 64 =
      over_ext (λ i. V i && U i) (bit r.unsettled) t 0 64 (λ i p q. sym (k.unsettled_is i))
      in
      let none : sum_over (λ i. rest i && not (G i)) t 0 64 ≡ 0 =
      over_const (λ i. rest i && not (G i)) t 0 0 64
      (λ i p q e.
      term i (and_left (rest i) (not (G i)) e) ∙ ap (λ (b : Bool). cond b (v i) 0) (not-true (G i) (and_right (rest i) (not (G i)) e)))
      ∙ mul-zero _
      in
      let full : sum_over (λ i. rest i && G i) t 0 64 ≡ sum_over (bit r.full) v 0 64 =
      over_terms (λ i. rest i && G i) t v 0 64
      (λ i p q e. term i (and_left (rest i) (G i) e) ∙ ap (λ (b : Bool). cond b (v i) 0) (and_right (rest i) (G i) e))
      ∙ over_ext (λ i. rest i && G i) (bit r.full) v 0 64 (λ i p q. sym (k.full_is i))
      in
      omega (arith, over_diff V U t 0 64, over_diff rest G t 0 64, looked, none, full)
