-- The counts of a word's bits: `count_ones` is how many of its bits are set, `trailing_zeros` is the place of its lowest bit, `leading_zeros` tells that of its
-- highest, and `n & (n - 1)` clears the lowest. Assumes nothing.
use Rattle.bits.proofs.Kit.{◌≡◌, refl, sym, ap, ap₂, ◌∙◌, subst, ◌≢◌, Bool, true, false, true≢false, not, ◌&&◌, and-true, and_self, ℕ, zero, suc, ◌+◌, ◌-◌, ◌*◌, ◌/◌, ◌%◌, ◌^◌, ◌≤◌, ◌<◌, count_leading_zeros, leading_top, lt_of_le-ne, lt_of_lt_of_le, le_refl, le_of_suc-le-suc, not-suc-le-zero, mod-lt, div-add-mod', pow-suc, pos_of_ne-zero, lt_irrefl, dec_lt, one-add, arith, eq-eqb, eqb, eqb·suc_suc, eqb·suc_zero, lt-one, le-zero, digits_div, digits_mod, bit_and, ones, ones_step, ones-le, count_trailing_zeros, trailing_le, under}
use Rattle.bits.specs.Bit.{bit}
use Rattle.positions.specs.Positions.{only_if, count_from}
use Rattle.bits.proofs.Bits.{two_pos, bit_0, bit_suc, bit_of_and, bit_none, bit_below, bit_beyond, bits_fit}
use Rattle.positions.proofs.Counts.{count_from_zero, count_from_first, count_from_shift, count_from_ext}

-- ---- `count_ones`

digit_kept : (d : ℕ) → d < 2 → d ≡ only_if (eqb d 1) 1
digit_kept zero h = refl
digit_kept (suc zero) h = refl
digit_kept (suc (suc d)) h = absurd (not-suc-le-zero (le_of_suc-le-suc (le_of_suc-le-suc h)))

pub ones_count_from : (w n : ℕ) → n < 2 ^ w → ones n ≡ count_from (bit n) 0 w
ones_count_from zero n h = le-zero (ones-le zero n h) ∙ sym (count_from_zero (bit n) 0)
ones_count_from (suc w) n h =
    ones_step n
    ∙ ap₂ ◌+◌ (digit_kept (n % 2) (mod-lt n two_pos) ∙ ap (λ (b : Bool). only_if b 1) (sym (bit_0 n)))
    (ones_count_from w (n / 2) (omega (arith, div-add-mod' n 2, pow-suc 2 w))
    ∙ count_from_ext (bit (n / 2)) (λ i. bit n (1 + i)) 0 w (λ i l k. sym (bit_suc n i) ∙ ap (bit n) (sym (one-add i)))
    ∙ sym (count_from_shift (bit n) 1 0 w))
    ∙ sym (count_from_first (bit n) 0 w)

-- ---- `trailing_zeros`

-- every bit below it is clear
pub tz_below : (k n i : ℕ) → i < count_trailing_zeros k n → bit n i ≡ false
unfolding count_trailing_zeros
tz_below zero n i h = absurd (not-suc-le-zero h)
tz_below (suc k) n i h = go (tz_below k (n / 2)) (n % 2) refl i h
  where
    go : ((i : ℕ) → i < count_trailing_zeros k (n / 2) → bit (n / 2) i ≡ false)
        → (d : ℕ) → n % 2 ≡ d → (i : ℕ) → i < under d (count_trailing_zeros k (n / 2)) → bit n i ≡ false
    go rest zero e zero h = bit_0 n ∙ ap (λ (x : ℕ). eqb x 1) e
    go rest zero e (suc i) h = bit_suc n i ∙ rest i (le_of_suc-le-suc h)
    go rest (suc d) e i h = absurd (not-suc-le-zero h)

-- the bit there is set, if it is one of the k
pub tz_bit : (k n : ℕ) → count_trailing_zeros k n < k → bit n (count_trailing_zeros k n) ≡ true
unfolding count_trailing_zeros
tz_bit zero n h = absurd (not-suc-le-zero h)
tz_bit (suc k) n h = go (tz_bit k (n / 2)) (n % 2) refl h
  where
    go : (count_trailing_zeros k (n / 2) < k → bit (n / 2) (count_trailing_zeros k (n / 2)) ≡ true)
        → (d : ℕ) → n % 2 ≡ d → under d (count_trailing_zeros k (n / 2)) < suc k → bit n (under d (count_trailing_zeros k (n / 2))) ≡ true
    go rest zero e h = bit_suc n (count_trailing_zeros k (n / 2)) ∙ rest (le_of_suc-le-suc h)
    go rest (suc d) e h = bit_0 n ∙ eq-eqb (n % 2) 1 (omega (arith, mod-lt n two_pos))

module _ (k n : ℕ) where
  module _ (ne : n ≢ 0) (h : n < 2 ^ k) where
    pub tz_lt : count_trailing_zeros k n < k
    tz_lt = go (dec_lt (count_trailing_zeros k n) k)
      where
        go : Dec (count_trailing_zeros k n < k) → count_trailing_zeros k n < k
        go (yes l) = l
        go (no l) = absurd (ne (bit_none k n h (λ i q. tz_below k n i (omega (arith, trailing_le k n)))))

    pub tz_set : bit n (count_trailing_zeros k n) ≡ true
    tz_set = tz_bit k n tz_lt

-- ---- `leading_zeros`

-- the highest set bit: the zeros above it and the places up to it make k
pub record Highest (k n i : ℕ) : Type 0 where
  pub place : count_leading_zeros k n + suc i ≡ k
  pub set : bit n i ≡ true
  pub clear : (j : ℕ) → i < j → bit n j ≡ false

pub lz_highest : (k n : ℕ) → n ≢ 0 → n < 2 ^ k → (i : ℕ) × Highest k n i
lz_highest k n ne h =
    let t = leading_top k n (pos_of_ne-zero ne) h in
    let i = t.0 in (
      i,
      record {
        place = t.1;
        set = by i t.2 t.3 (bit n i) refl;
        clear = λ j l. bit_beyond (suc i) n j t.3 l;
      },
    )
  where
    under : (i j : ℕ) → n < 2 ^ suc i → bit n i ≡ false → bit n j ≡ true → j < i
    under i j u e s = lt_of_le-ne (le_of_suc-le-suc (bit_below (suc i) n j u s)) (λ q. true≢false (sym s ∙ ap (bit n) q ∙ e))

    by : (i : ℕ) → 2 ^ i ≤ n → n < 2 ^ suc i → (b : Bool) → bit n i ≡ b → b ≡ true
    by i l u true e = refl
    by i l u false e = absurd (lt_irrefl n (lt_of_lt_of_le (bits_fit (suc i) i n u (λ j s. under i j u e s)) l))

-- ---- `n & (n - 1)`

module _ (n : ℕ) (p : zero < n) where
  even_pred : n % 2 ≡ zero → n - 1 ≡ (n / 2 - 1) * 2 + 1
  even_pred e = omega (arith, div-add-mod' n 2)

  odd_pred : (d : ℕ) → n % 2 ≡ suc d → n - 1 ≡ n / 2 * 2 + 0
  odd_pred d e = omega (arith, div-add-mod' n 2, mod-lt n two_pos)

lowest : (k n i : ℕ) → zero < n → n < 2 ^ k → (bit n i && bit (n - 1) i) ≡ (bit n i && not (eqb i (count_trailing_zeros k n)))
unfolding count_trailing_zeros
lowest zero n i p h = absurd (lt_irrefl zero (subst (λ (x : ℕ). zero < x) (lt-one h) p))
lowest (suc k) n i p h = go (λ i. lowest k (n / 2) i) (n % 2) refl i
  where
    go : ((i : ℕ) → zero < n / 2 → n / 2 < 2 ^ k → (bit (n / 2) i && bit (n / 2 - 1) i) ≡ (bit (n / 2) i && not (eqb i (count_trailing_zeros k (n / 2)))))
        → (d : ℕ) → n % 2 ≡ d → (i : ℕ) → (bit n i && bit (n - 1) i) ≡ (bit n i && not (eqb i (under d (count_trailing_zeros k (n / 2)))))
    go rest zero e zero = rw (bit_0 n, e) refl
    go rest zero e (suc i) =
        ap₂ ◌&&◌ (bit_suc n i) (bit_suc (n - 1) i ∙ ap (λ (x : ℕ). bit x i) (ap (λ (x : ℕ). x / 2) (even_pred n p e) ∙ digits_div (n / 2 - 1) (le_refl 2)))
        ∙ rest i (omega (arith, div-add-mod' n 2)) (omega (arith, div-add-mod' n 2, pow-suc 2 k))
        ∙ ap₂ (λ (x y : Bool). x && not y) (sym (bit_suc n i)) (sym (eqb·suc_suc i (count_trailing_zeros k (n / 2))))
    go rest (suc d) e zero =
        ap (λ (x : Bool). bit n zero && x)
        (bit_0 (n - 1) ∙ ap (λ (x : ℕ). eqb (x % 2) 1) (odd_pred n p d e) ∙ ap (λ (x : ℕ). eqb x 1) (digits_mod (n / 2) two_pos))
    go rest (suc d) e (suc i) =
        ap (λ (x : Bool). bit n (suc i) && x)
        (bit_suc (n - 1) i ∙ ap (λ (x : ℕ). bit x i) (ap (λ (x : ℕ). x / 2) (odd_pred n p d e) ∙ digits_div (n / 2) two_pos) ∙ sym (bit_suc n i))
        ∙ and_self (bit n (suc i)) ∙ sym (and-true (bit n (suc i)))
        ∙ ap (λ (x : Bool). bit n (suc i) && not x) (sym (eqb·suc_zero i))

module _ (k n : ℕ) (ne : n ≢ 0) (h : n < 2 ^ k) where
  -- the bits of n but the lowest
  pub bit_drop_lowest : (i : ℕ) → bit (bit_and n (n - 1)) i ≡ (bit n i && not (eqb i (count_trailing_zeros k n)))
  bit_drop_lowest i = bit_of_and n (n - 1) i ∙ lowest k n i (pos_of_ne-zero ne) h
