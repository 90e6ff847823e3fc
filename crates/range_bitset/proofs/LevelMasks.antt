-- What `first_from` and `last_before` give back, and the masks by which a walk goes on. Assumes nothing.
use Rattle.range_bitset.proofs.Kit.{◌≡◌, refl, sym, ap, ◌∙◌, ◌≢◌, Bool, true, false, true≢false, not, ◌&&◌, and-false, and-true, ℕ, suc, zero-le, ◌-◌, ◌^◌, ◌≤◌, ◌<◌, lt_of_le_of_lt, lt_of_le-ne, dec_lt, arith, eqb, leb, ltb, lt-ltb, le-ltb, ltb-true, eq-eqb, ne_eqb, bit_and, and_le_l, count_trailing_zeros, trailing_of_zero, count_leading_zeros, leading_of_zero}
use Rattle.positions.proofs.Bools.{and_left, and_right}
use Rattle.positions.proofs.Ranges.{within_in, within_before}
use Rattle.bits.specs.Bit.{bit}
use Rattle.bits.proofs.Bits.{bit_zero, bit_of_and, bit_ones, bit_beyond}
use Rattle.bits.proofs.Ones.{lz_highest, bit_drop_lowest, tz_below}
use Rattle.range_bitset.specs.Inner.{Spans}
use Rattle.range_bitset.specs.Levels.{FirstFrom, LastBefore}
use Rattle.range_bitset.proofs.SearchReturns.{lowest_masked, none_masked, and_clear}

-- ---- `first_from` and `last_before`

pub first_bit : (m y a : ℕ) → m < 2 ^ 64 → a < 64 → Spans y a 64 → FirstFrom m a (count_trailing_zeros 64 (bit_and m y))
first_bit m y a f l s = by (dec_lt 0 (bit_and m y))
  where
    by : Dec (0 < bit_and m y) → FirstFrom m a (count_trailing_zeros 64 (bit_and m y))
    by (yes w) =
        let o = lowest_masked m y a f s (λ z. omega arith) in
        record { low = o.low; high = omega (arith, o.high); none = o.clear; set = λ q. o.set }
    by (no w) =
        let z : bit_and m y ≡ 0 = omega arith in
        let e : count_trailing_zeros 64 (bit_and m y) ≡ 64 = ap (count_trailing_zeros 64) z ∙ trailing_of_zero 64 in
        record {
          low = omega arith;
          high = omega arith;
          none = λ i p q. none_masked m y a f s z i p (omega arith);
          set = λ q. absurd (omega arith);
        }

pub last_bit : (m y e : ℕ) → m < 2 ^ 64 → Spans y 0 e → LastBefore m e (64 - count_leading_zeros 64 (bit_and m y))
last_bit m y e f s = by (dec_lt 0 (bit_and m y))
  where
    -- a place that neither has
    neither : (i : ℕ) → i < e → bit (bit_and m y) i ≡ false → bit m i ≡ false
    neither i h z = and_clear (bit m i) (bit y i) (sym (bit_of_and m y i) ∙ z) (s i ∙ within_in 0 e i zero-le h)

    by : Dec (0 < bit_and m y) → LastBefore m e (64 - count_leading_zeros 64 (bit_and m y))
    by (yes w) =
        let t = lz_highest 64 (bit_and m y) (λ z. omega arith) (lt_of_le_of_lt (and_le_l m y) f) in
        let h = t.0 in
        let p = t.1.place in
        let b : (bit m h && bit y h) ≡ true = sym (bit_of_and m y h) ∙ t.1.set in
        let u : h < e = ltb-true h e (and_right (leb 0 h) (ltb h e) (sym (s h) ∙ and_right (bit m h) (bit y h) b)) in
        record {
          high = omega arith;
          none = λ i q z. neither i z (t.1.clear i (omega arith));
          set = λ i q. let g : i ≡ h = omega arith in ap (bit m) g ∙ and_left (bit m h) (bit y h) b;
        }
    by (no w) =
        let z : bit_and m y ≡ 0 = omega arith in
        let n : count_leading_zeros 64 (bit_and m y) ≡ 64 = ap (count_leading_zeros 64) z ∙ leading_of_zero 64 in
        record {
          high = omega arith;
          none = λ i q u. neither i u (ap (λ (x : ℕ). bit x i) z ∙ bit_zero i);
          set = λ i q. absurd (omega arith);
        }

-- ---- what is left: the bits from j on, or those before it

pub from_gone : (x y j i : ℕ) → Spans y j 64 → i < j → bit (bit_and x y) i ≡ false
from_gone x y j i s h = bit_of_and x y i ∙ ap (λ (b : Bool). bit x i && b) (s i ∙ within_before j 64 i h) ∙ and-false (bit x i)

pub from_kept : (x y j i : ℕ) → Spans y j 64 → x < 2 ^ 64 → j ≤ i → bit (bit_and x y) i ≡ bit x i
from_kept x y j i s f h = bit_of_and x y i ∙ by (dec_lt i 64)
  where
    by : Dec (i < 64) → (bit x i && bit y i) ≡ bit x i
    by (yes l) = rw (s i ∙ within_in j 64 i h l) (and-true (bit x i))
    by (no l) = rw (bit_beyond 64 x i f (omega arith)) refl

pub before_gone : (x y j i : ℕ) → y ≡ 2 ^ j - 1 → j ≤ i → bit (bit_and x y) i ≡ false
before_gone x y j i e h =
    bit_of_and x y i ∙ ap (λ (b : Bool). bit x i && b) (ap (λ (z : ℕ). bit z i) e ∙ bit_ones j i ∙ le-ltb i j h) ∙ and-false (bit x i)

pub before_kept : (x y j i : ℕ) → y ≡ 2 ^ j - 1 → i < j → bit (bit_and x y) i ≡ bit x i
before_kept x y j i e h =
    bit_of_and x y i ∙ ap (λ (b : Bool). bit x i && b) (ap (λ (z : ℕ). bit z i) e ∙ bit_ones j i ∙ lt-ltb i j h) ∙ and-true (bit x i)

-- the lowest bit taken away
module _ (x : ℕ) (ne : x ≢ 0) (f : x < 2 ^ 64) where
  drop : (i : ℕ) (b : Bool) → eqb i (count_trailing_zeros 64 x) ≡ b → bit (bit_and x (x - 1)) i ≡ (bit x i && not b)
  drop i b e = bit_drop_lowest 64 x ne f i ∙ ap (λ (c : Bool). bit x i && not c) e

  pub drop_gone : (i : ℕ) → i < suc (count_trailing_zeros 64 x) → bit (bit_and x (x - 1)) i ≡ false
  drop_gone i h = by (dec_lt i (count_trailing_zeros 64 x))
    where
      by : Dec (i < count_trailing_zeros 64 x) → bit (bit_and x (x - 1)) i ≡ false
      by (yes l) = bit_drop_lowest 64 x ne f i ∙ ap (λ (b : Bool). b && not (eqb i (count_trailing_zeros 64 x))) (tz_below 64 x i l)
      by (no l) = drop i true (eq-eqb i (count_trailing_zeros 64 x) (omega arith)) ∙ and-false (bit x i)

  pub drop_kept : (i : ℕ) → suc (count_trailing_zeros 64 x) ≤ i → bit (bit_and x (x - 1)) i ≡ bit x i
  drop_kept i h = drop i false (ne_eqb i (count_trailing_zeros 64 x) (λ z. omega arith)) ∙ and-true (bit x i)

-- a mask without a bit that x has
pub less_bit : (x y i : ℕ) → bit x i ≡ true → bit (bit_and x y) i ≡ false → bit_and x y < x
less_bit x y i t z = lt_of_le-ne (and_le_l x y) (λ e. true≢false (sym t ∙ ap (λ (w : ℕ). bit w i) (sym e) ∙ z))
