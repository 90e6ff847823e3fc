-- Laws of `mask`, the word with given bits, and of `put`, a word with some bits given a value. Assumes nothing.
use Rattle.bits.proofs.Kit.{◌≡◌, refl, ap, sym, ◌∙◌, ap₂, Bool, true, false, not, ◌&&◌, ◌||◌, cond, ℕ, zero, suc, ◌+◌, ◌*◌, ◌-◌, ◌/◌, ◌%◌, ◌^◌, ◌≤◌, ◌<◌, pow-succ', lt_of_le_of_lt, lt_of_lt_of_le, arith, eqb, ltb, leb·suc_suc, leb·suc_zero, or_lt, and_le_l, ones, pow-lt, pow_mono, pow_pos, lt-ltb, ltb-true}
use Rattle.positions.specs.Positions.{Positions, one, count_from}
use Rattle.positions.proofs.Bools.{and_left, and_right, same₂}
use Rattle.positions.proofs.Counts.{count_from_ext, one_is}
use Rattle.bits.specs.Bit.{bit, mask, put}
use Rattle.bits.proofs.Bits.{bit_0, bit_suc, bit_zero, bit_of_and, bit_of_or, bit_not, bit_ext, bit_pow}
use Rattle.bits.proofs.Ones.{ones_count_from}

-- ---- `mask`

one_lt : (b : Bool) → one b < 2
one_lt true = omega arith
one_lt false = omega arith

pub mask_lt : (n : ℕ) (f : Positions) → mask n f < 2 ^ n
unfolding mask
mask_lt zero f = omega arith
mask_lt (suc n) f =
    let p : 2 ^ suc n ≡ 2 * 2 ^ n = pow-succ' 2 n in
    let h = mask_lt n (λ i. f (suc i)) in
    let d : one (f 0) < 2 = one_lt (f 0) in
    omega arith

one_odd : (b : Bool) (x : ℕ) → ((one b + x * 2) % 2 ≡ one b) × ((one b + x * 2) / 2 ≡ x)
one_odd true x = omega arith
one_odd false x = omega arith

pub mask_bit : (n : ℕ) (f : Positions) (i : ℕ) → bit (mask n f) i ≡ (ltb i n && f i)
unfolding mask
mask_bit zero f i = bit_zero i ∙ ap (λ (x : Bool). x && f i) (sym (leb·suc_zero i))
mask_bit (suc n) f zero =
    bit_0 _ ∙ ap (λ (x : ℕ). eqb x 1) (one_odd (f 0) (mask n (λ i. f (suc i)))).0 ∙ one_is (f 0)
    ∙ ap (λ (x : Bool). x && f 0) (sym (lt-ltb 0 (suc n) (omega arith)))
mask_bit (suc n) f (suc i) =
    bit_suc _ i ∙ ap (λ (x : ℕ). bit x i) (one_odd (f 0) (mask n (λ j. f (suc j)))).1 ∙ mask_bit n (λ j. f (suc j)) i
    ∙ ap (λ (x : Bool). x && f (suc i)) (sym (leb·suc_suc (suc i) n))

pub mask_at : (n : ℕ) (f : Positions) (j : ℕ) → j < n → bit (mask n f) j ≡ f j
mask_at n f j h = mask_bit n f j ∙ ap (λ (x : Bool). x && f j) (lt-ltb j n h)

-- a set bit is one of the n, and has its value
pub mask_true : (n : ℕ) (f : Positions) (j : ℕ) → bit (mask n f) j ≡ true → (j < n) × (f j ≡ true)
mask_true n f j e =
    let p = sym (mask_bit n f j) ∙ e in
    (ltb-true j n (and_left (ltb j n) (f j) p), and_right (ltb j n) (f j) p)

pub mask_ext : (n : ℕ) (f g : Positions) → ((j : ℕ) → j < n → f j ≡ g j) → mask n f ≡ mask n g
unfolding mask
mask_ext zero f g e = refl
mask_ext (suc n) f g e =
    ap₂ (λ (x : Bool) (y : ℕ). one x + y * 2) (e 0 (omega arith))
    (mask_ext n (λ i. f (suc i)) (λ i. g (suc i)) (λ j l. e (suc j) (omega arith)))

-- a number is the mask of its own bits
pub mask_of : (n x : ℕ) (f : Positions) → x < 2 ^ n → ((j : ℕ) → j < n → bit x j ≡ f j) → x ≡ mask n f
mask_of n x f h e = bit_ext n x (mask n f) h (mask_lt n f) (λ j l. e j l ∙ sym (mask_at n f j l))

pub mask_none : (n : ℕ) → mask n (λ j. false) ≡ 0
unfolding mask
mask_none zero = refl
mask_none (suc n) = let e = mask_none n in omega arith

pub mask_all : (n : ℕ) → mask n (λ j. true) ≡ 2 ^ n - 1
unfolding mask
mask_all zero = refl
mask_all (suc n) =
    let e = mask_all n in
    let p : 2 ^ suc n ≡ 2 * 2 ^ n = pow-succ' 2 n in
    let q = pow_pos n in
    omega arith

pub mask_ones : (n : ℕ) (f : Positions) → ones (mask n f) ≡ count_from f 0 n
mask_ones n f =
    ones_count_from n (mask n f) (mask_lt n f) ∙ count_from_ext (bit (mask n f)) f 0 n (λ j l h. mask_at n f j (omega arith))

-- ---- `put`

module _ (w : ℕ) where
  pub put_lt : (n old m : ℕ) (v : Bool) → old < 2 ^ n → m < 2 ^ n → put w old m v < 2 ^ n
  put_lt n old m true h g = or_lt n old m h g
  put_lt n old m false h g = lt_of_le_of_lt (and_le_l old ((2 ^ w - 1) - m)) h

  pub put_bit : (old m i : ℕ) (v : Bool) → m < 2 ^ w → i < w → bit (put w old m v) i ≡ cond (bit m i) v (bit old i)
  put_bit old m i true h l = bit_of_or old m i ∙ same₂ (λ x y. x || y) (λ x y. cond y true x) tt (bit old i) (bit m i)
  put_bit old m i false h l =
      bit_of_and old ((2 ^ w - 1) - m) i ∙ ap (λ (x : Bool). bit old i && x) (bit_not w m i h l)
      ∙ same₂ (λ x y. x && not y) (λ x y. cond y false x) tt (bit old i) (bit m i)

  -- some bits of a mask given a value
  pub put_mask : (n : ℕ) (f : Positions) (m : ℕ) (v : Bool) → n ≤ w → m < 2 ^ n
      → put w (mask n f) m v ≡ mask n (λ j. cond (bit m j) v (f j))
  put_mask n f m v h g =
      mask_of n _ _ (put_lt n (mask n f) m v (mask_lt n f) g)
      (λ j l. put_bit (mask n f) m j v (lt_of_lt_of_le g (pow_mono h)) (omega arith) ∙ ap (cond (bit m j) v) (mask_at n f j l))

  -- one bit of a mask given a value
  pub put_one : (n : ℕ) (f : Positions) (i : ℕ) (v : Bool) → n ≤ w → i < n
      → put w (mask n f) (2 ^ i) v ≡ mask n (λ j. cond (eqb j i) v (f j))
  put_one n f i v h l =
      put_mask n f (2 ^ i) v h (pow-lt l) ∙ mask_ext n _ _ (λ j k. ap (λ (x : Bool). cond x v (f j)) (bit_pow i j))
