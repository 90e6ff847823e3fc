-- The n-th bit of a word: where it lies when a range of the word's bits is halved, and that it is found in a range of one bit.
-- Assumes nothing.
use Rattle.range_bitset.proofs.Kit.{◌≡◌, refl, sym, ones, ap, ◌∙◌, true, false, Bool, ℕ, suc, ◌+◌, ◌-◌, ◌*◌, ◌/◌, ◌%◌, ◌^◌, ◌≤◌, ◌<◌, zero-le, arith, bit_and, add-mul, mul-add, mul-suc, lt_of_mul-lt-mul_left, and_mask}
use Rattle.positions.specs.Positions.{only_if, count_from}
use Rattle.positions.specs.Walks.{Nth}
use Rattle.positions.proofs.Counts.{count_empty, count_from_lem, count_split, count_from_add, count_from_first, count_from_zero}
use Rattle.bits.specs.Bit.{bit}
use Rattle.bits.specs.Fields.{field_sums}
use Rattle.bits.proofs.Bits.{single}
use Rattle.bits.proofs.Ones.{ones_count_from}
use Rattle.bits.proofs.Fields.{field_at}
use Rattle.range_bitset.specs.Inner.{Among, Narrows}

-- before any halving: all 64 bits
pub among_all : (x n : ℕ) → x < 2 ^ 64 → n < ones x → Among x n 64 0 n
among_all x n h l =
    record { index = 0; aligned = refl; before = omega (arith, count_empty (bit x) 0 0 zero-le); inside = omega (arith, ones_count_from 64 x h) }

module _ (sums w a m : ℕ) (h : w < 64) (g : a < 64) where
  -- the field at a, as the code reads it
  abbrev lower : ℕ
  lower = bit_and (sums / 2 ^ a) (1 * 2 ^ w % 2 ^ 64 - 1)

  -- a is a multiple of w too, so there is a field at it
  module _ (x n k : ℕ) (e : sums ≡ field_sums w k x) (f : w * k ≡ 64) (p : Among x n (w + w) a m) where
    abbrev i : ℕ
    i = p.index + p.index

    even : a ≡ w * i
    even = p.aligned ∙ add-mul w w p.index ∙ sym (mul-add w p.index p.index)

    lower_counts : lower ≡ count_from (bit x) a w
    lower_counts =
        let l : i < k = lt_of_mul-lt-mul_left w (omega (arith, even)) in
        rw (single 64 w h, and_mask, e, even) (field_at w k i x l)

    among_lower : m < lower → Among x n w a m
    among_lower l = record { index = i; aligned = even; before = p.before; inside = omega (arith, lower_counts) }

    among_upper : lower ≤ m → Among x n w (a + w) (m - lower)
    among_upper l =
        record {
          index = suc i;
          aligned = ap (λ (y : ℕ). y + w) even ∙ sym (mul-suc w i);
          before = omega (arith, lower_counts, count_split (bit x) 0 a (a + w) zero-le (omega arith), count_from_lem (bit x) a w);
          inside = omega (arith, lower_counts, count_from_add (bit x) a w w);
        }

  pub lower_half : m < lower → Narrows sums w a m a m
  lower_half l = record { high = omega arith; among = λ x n k e f p. among_lower x n k e f p l }

  pub upper_half : lower ≤ m → Narrows sums w a m (a + w) (m - lower)
  upper_half l = record { high = omega arith; among = λ x n k e f p. among_upper x n k e f p l }

-- a range of one bit has the bit itself
pub among_one : (x n a m : ℕ) → Among x n 1 a m → Nth (bit x) 0 n a
among_one x n a m p = by (bit x a) refl (count_from_first (bit x) a 0)
  where
    by : (b : Bool) → bit x a ≡ b → count_from (bit x) a 1 ≡ only_if b 1 + count_from (bit x) (suc a) 0 → Nth (bit x) 0 n a
    by true t q = record { low = zero-le; member = t; before = omega (arith, count_from_zero (bit x) (suc a)) }
    by false t q = absurd (omega (arith, count_from_zero (bit x) (suc a)))
