-- A mask that spans a range, in a word, in a block's words and in the blocks: how many bits it has, below what it lies, and
-- what giving the range a value does to each word. Assumes nothing.
use Rattle.range_bitset.proofs.Kit.{◌≡◌, refl, ap, sym, ◌∙◌, Bool, true, false, cond, ℕ, zero-le, ◌+◌, ◌*◌, ◌-◌, ◌^◌, ◌≤◌, ◌<◌, le_refl, lt_of_lt_of_le, arith, ones, leb, ltb, ltb-true}
use Rattle.positions.specs.Positions.{Positions, within, assigned, count}
use Rattle.positions.proofs.Bools.{and_right}
use Rattle.positions.proofs.Ranges.{Place, inside, before, behind, place, within_in, within_before, within_behind, within_shift}
use Rattle.positions.proofs.Counts.{count_split, count_none, count_all, count_from_lem, count_from_ext}
use Rattle.positions.proofs.Assigned.{assigned_in, assigned_before, assigned_behind}
use Rattle.bits.specs.Bit.{bit, mask, put}
use Rattle.bits.proofs.Bits.{bits_fit, bit_all}
use Rattle.bits.proofs.Ones.{ones_count_from}
use Rattle.bits.proofs.Words.{mask_of, mask_ext, mask_none, mask_all, put_lt, put_bit}
use Rattle.range_bitset.specs.Read.{ALL}
use Rattle.range_bitset.specs.Represents.{word_of}
use Rattle.range_bitset.specs.Inner.{Spans}
use Rattle.range_bitset.proofs.SetWords.{word_lt, word_bit, word_same}

-- the positions of a..b, counted
count_within : (a b w : ℕ) → a ≤ b → b ≤ w → count (within a b) 0 w ≡ b - a
count_within a b w h l =
    omega (
      arith,
      count_split (within a b) 0 a w (omega arith) (omega arith),
      count_split (within a b) a b w h l,
      count_none (within a b) 0 a (λ i p q. within_before a b i q),
      count_all (within a b) a b (λ i p q. within_in a b i p q),
      count_none (within a b) b w (λ i p q. within_behind a b i p),
    )

pub spans_ones : (m a b : ℕ) → m < 2 ^ 64 → Spans m a b → a ≤ b → b ≤ 64 → ones m ≡ b - a
spans_ones m a b fit sp h l =
    ones_count_from 64 m fit ∙ count_from_ext (bit m) (within a b) 0 64 (λ i p q. sp i) ∙ sym (count_from_lem (within a b) 0 64)
    ∙ count_within a b 64 h l

-- a range with one value, counted
pub count_value : (s : Positions) (a e : ℕ) (v : Bool) → count (assigned s a e v) a e ≡ cond v (e - a) 0
count_value s a e v = by v refl
  where
    by : (w : Bool) → v ≡ w → count (assigned s a e v) a e ≡ cond w (e - a) 0
    by true p = count_all (assigned s a e v) a e (λ i l h. assigned_in s a e v i l h ∙ p)
    by false p = count_none (assigned s a e v) a e (λ i l h. assigned_in s a e v i l h ∙ p)

-- ---- a range within one word

module _ (s : Positions) (k a b : ℕ) (v : Bool) where
  shifted : (i : ℕ) → assigned s (64 * k + a) (64 * k + b) v (64 * k + i) ≡ cond (within a b i) v (s (64 * k + i))
  unfolding assigned
  shifted i = ap (λ (x : Bool). cond x v (s (64 * k + i))) (within_shift (64 * k) a b i)

  pub put_word : (m : ℕ) → m < 2 ^ 64 → Spans m a b → put 64 (word_of s k) m v ≡ word_of (assigned s (64 * k + a) (64 * k + b) v) k
  unfolding word_of
  put_word m fit sp =
      mask_of 64 _ _ (put_lt 64 64 (word_of s k) m v (word_lt s k) fit)
      (λ i l.
      put_bit 64 (word_of s k) m i v fit l
      ∙ ap (cond (bit m i) v) (word_bit s k i l)
      ∙ ap (λ (x : Bool). cond x v (s (64 * k + i))) (sp i)
      ∙ sym (shifted i))

-- ---- a range of whole words

all_of : (v : Bool) → mask 64 (λ i. v) ≡ cond v ALL 0
all_of true = mask_all 64
all_of false = mask_none 64

pub put_words : (s : Positions) (x y : ℕ) (v : Bool) (k : ℕ)
    → word_of (assigned s (64 * x) (64 * y) v) k ≡ cond (within x y k) (cond v ALL 0) (word_of s k)
unfolding word_of
put_words s x y v k = go (place x y k)
  where
    go : Place x y k → word_of (assigned s (64 * x) (64 * y) v) k ≡ cond (within x y k) (cond v ALL 0) (word_of s k)
    go (inside u w e) =
        rw e
        (mask_ext 64 _ (λ i. v) (λ i l. assigned_in s (64 * x) (64 * y) v (64 * k + i) (omega arith) (omega arith)) ∙ all_of v)
    go (before u e) = rw e (word_same (assigned s (64 * x) (64 * y) v) s k (λ i l. assigned_before s (64 * x) (64 * y) v (64 * k + i) (omega arith)))
    go (behind u e) = rw e (word_same (assigned s (64 * x) (64 * y) v) s k (λ i l. assigned_behind s (64 * x) (64 * y) v (64 * k + i) (omega arith)))

-- a mask that spans a range lies below the range's end
pub spans_lt : (m a b n : ℕ) → m < 2 ^ 64 → Spans m a b → b ≤ n → m < 2 ^ n
spans_lt m a b n fit sp h =
    bits_fit 64 n m fit (λ i e. lt_of_lt_of_le (ltb-true i b (and_right (leb a i) (ltb i b) (sym (sp i) ∙ e))) h)

-- one that spans all below n
pub spans_low : (n m : ℕ) → m < 2 ^ 64 → Spans m 0 n → m ≡ 2 ^ n - 1
spans_low n m fit sp = bit_all n m (spans_lt m 0 n n fit sp (le_refl n)) (λ i l. sp i ∙ within_in 0 n i zero-le l)
