-- What 01's rules are worth: head and storage are sound exactly when they represent the set `has` that the masks read; and
-- a represented set fixes every number that is not stale, and no other. Assumes nothing.
use Rattle.audit.proofs.Kit.{◌≡◌, refl, ap, sym, ◌∙◌, subst, ap₂, fun_ext, Bool, true, false, not, ◌&&◌, cond, List, ℕ, ◌+◌, ◌*◌, ◌/◌, ◌%◌, ◌<◌, arith, not-true}
use Rattle.positions.specs.Positions.{Positions, count}
use Rattle.positions.proofs.Bools.{and_left, and_right}
use Rattle.positions.proofs.Counts.{count_none, count_same}
use Rattle.bits.specs.Bit.{bit, mask}
use Rattle.range_bitset.specs.Layout.{blocks, words_of, Slot, at, word, nonzero, full, population, top_nonzero, top_full}
use Rattle.range_bitset.specs.Read.{state_of}
use Rattle.range_bitset.specs.Represents.{word_of, any_word, all_word, nonzero_mask, full_mask, block_count, any_block, all_block, closed, masked, Stored, Represents, capacity_of}
use Rattle.audit.specs.Sound.{plain, has, Sound, Words, is_mixed, live}
use Rattle.range_bitset.specs.Inner.{In}
use Rattle.range_bitset.specs.declared.RangeBitset.{RangeBitset}
use Rattle.range_bitset.specs.declared.State.TheVariants.{Empty, Mixed, Full}
use Rattle.range_bitset.proofs.SetWords.{in_block, state_is, full_bit, nonzero_bit}
use Rattle.audit.proofs.SoundStorage.{sound_stored, stored_sound, stored_plain}

-- ---- sound exactly when represented

has_begun : (h : RangeBitset) (st : List ℕ) → h.allocated ≡ true → plain h.words st ≡ has h st
unfolding has
has_begun h st e = fun_ext (λ i. ap (λ (x : Bool). x && plain h.words st i) (sym e))

has_fresh : (h : RangeBitset) (st : List ℕ) → h.allocated ≡ false → (i : ℕ) → has h st i ≡ false
unfolding has
has_fresh h st e i = ap (λ (x : Bool). x && plain h.words st i) e

-- sound head and storage represent the set that they read
pub sound_represents : (h : RangeBitset) (st : List ℕ) → Words st → Sound h st → Represents h st (has h st)
sound_represents h st u o =
    record {
      fresh = λ e i l. has_fresh h st e i;
      begun = λ e. subst (Stored h.words st) (has_begun h st e) (sound_stored h.words st u (o.storage e));
      counted = by h.allocated refl;
    }
  where
    by : (x : Bool) → h.allocated ≡ x → h.len ≡ count (has h st) 0 (capacity_of h)
    by true e = o.whole e ∙ ap (λ (s : Positions). count s 0 (capacity_of h)) (has_begun h st e)
    by false e = o.unbegun e ∙ sym (count_none (has h st) 0 (capacity_of h) (λ i p l. has_fresh h st e i))

module _ (h : RangeBitset) (st : List ℕ) (s : Positions) (r : Represents h st s) where
  -- a represented set is the set that is read
  pub represents_has : (i : ℕ) → i < capacity_of h → has h st i ≡ s i
  represents_has i l = by h.allocated refl
    where
      by : (x : Bool) → h.allocated ≡ x → has h st i ≡ s i
      by true e = ap (λ (t : Positions). t i) (sym (has_begun h st e)) ∙ stored_plain h.words st s (r.begun e) i l
      by false e = has_fresh h st e i ∙ sym (r.fresh e i l)

  -- only sound head and storage represent a set
  pub represents_sound : Sound h st
  represents_sound =
      record {
        unbegun = λ e. r.counted ∙ count_none s 0 (capacity_of h) (λ i p l. r.fresh e i l);
        storage = λ e. stored_sound h.words st s (r.begun e);
        whole = λ e. r.counted ∙ count_same _ _ 0 (capacity_of h) (λ i p l. sym (stored_plain h.words st s (r.begun e) i l));
      }

-- and so: sound exactly when head and storage represent the set that they read
pub sound_exactly : (h : RangeBitset) (st : List ℕ) → Words st
    → (Sound h st → Represents h st (has h st)) × (Represents h st (has h st) → Sound h st)
sound_exactly h st u = (sound_represents h st u, represents_sound h st (has h st))

-- ---- the set fixes every number that is not stale

-- whether a storage of the set reads a slot, and what it then holds
pub live_of : ℕ → Positions → Slot → Bool
live_of W s (word k) = masked W s closed (k / 64) && (not (all_word s k) && any_word s k)
live_of W s (nonzero b) = masked W s closed b
live_of W s (full b) = masked W s closed b
live_of W s (population b) = masked W s closed b
live_of W s top_nonzero = true
live_of W s top_full = true

pub value_of : ℕ → Positions → Slot → ℕ
value_of W s (word k) = word_of s k
value_of W s (nonzero b) = nonzero_mask W s b
value_of W s (full b) = full_mask W s b
value_of W s (population b) = block_count W s b
value_of W s top_nonzero = mask (blocks W) (any_block W s)
value_of W s top_full = mask (blocks W) (all_block W s)

module _ (W : ℕ) (st : List ℕ) (s : Positions) (r : Stored W st s) where
  mixed_masked : (b : ℕ) → b < blocks W → is_mixed (state_of W st b) ≡ masked W s closed b
  mixed_masked b l = ap is_mixed (state_is W st s closed r b l) ∙ by (all_block W s b) (any_block W s b)
    where
      by : (f n : Bool) → is_mixed (cond f Full (cond n Mixed Empty)) ≡ (n && not f)
      by true true = refl
      by true false = refl
      by false true = refl
      by false false = refl

  word_live : (k : ℕ) → k < W → live W st (word k) ≡ live_of W s (word k)
  unfolding live_of
  word_live k h = by (masked W s closed (k / 64)) refl
    where
      i : (k / 64 < blocks W) × (k % 64 < words_of W (k / 64)) × (64 * (k / 64) + k % 64 ≡ k)
      i = in_block W k h

      by : (m : Bool) → masked W s closed (k / 64) ≡ m → live W st (word k) ≡ (m && (not (all_word s k) && any_word s k))
      by false e =
          ap (λ (x : Bool). x && (not (bit (at W st (full (k / 64))) (k % 64)) && bit (at W st (nonzero (k / 64))) (k % 64)))
          (mixed_masked (k / 64) i.0 ∙ e)
      by true e =
          ap (λ (x : Bool). x && (not (bit (at W st (full (k / 64))) (k % 64)) && bit (at W st (nonzero (k / 64))) (k % 64)))
          (mixed_masked (k / 64) i.0 ∙ e)
          ∙ ap₂ (λ (x y : Bool). not x && y)
          (full_bit W st s closed r (k / 64) (k % 64) i.0 i.1 e ∙ ap (all_word s) i.2)
          (nonzero_bit W st s closed r (k / 64) (k % 64) i.0 i.1 e ∙ ap (any_word s) i.2)

  pub live_is : (t : Slot) → In W t → live W st t ≡ live_of W s t
  unfolding live_of
  live_is (word k) i = word_live k i
  live_is (nonzero b) i = mixed_masked b i
  live_is (full b) i = mixed_masked b i
  live_is (population b) i = mixed_masked b i
  live_is top_nonzero i = refl
  live_is top_full i = refl

  pub value_is : (t : Slot) → In W t → live_of W s t ≡ true → at W st t ≡ value_of W s t
  unfolding live_of value_of
  value_is (word k) i e =
      let m = masked W s closed (k / 64) in
      let p = and_right m (not (all_word s k) && any_word s k) e in
      r.stored k i (and_left m (not (all_word s k) && any_word s k) e) (and_right (not (all_word s k)) (any_word s k) p)
      (not-true (all_word s k) (and_left (not (all_word s k)) (any_word s k) p))
  value_is (nonzero b) i e = r.nonzeros b i e
  value_is (full b) i e = r.fulls b i e
  value_is (population b) i e = r.counts b i e
  value_is top_nonzero i e = r.top_nonzero_is
  value_is top_full i e = r.top_full_is

-- two storages of one set have the same stale slots, and agree on every other
pub represented_fixes : (W : ℕ) (st st' : List ℕ) (s : Positions) → Stored W st s → Stored W st' s
    → (t : Slot) → In W t → (live W st t ≡ live W st' t) × (live W st t ≡ true → at W st t ≡ at W st' t)
represented_fixes W st st' s r r' t i = (
  live_is W st s r t i ∙ sym (live_is W st' s r' t i),
  λ e.
      let l = sym (live_is W st s r t i) ∙ e in
      value_is W st s r t i l ∙ sym (value_is W st' s r' t i l),
)

-- and a stale number may be anything: a storage that agrees on every other slot holds the same set
pub stale_free : (W : ℕ) (st st' : List ℕ) (s : Positions) → Stored W st s
    → ((t : Slot) → In W t → live W st t ≡ true → at W st' t ≡ at W st t) → Stored W st' s
unfolding live_of value_of
stale_free W st st' s r same =
    record {
      top_nonzero_is = keeps top_nonzero (omega arith) refl;
      top_full_is = keeps top_full (omega arith) refl;
      nonzeros = λ b l m. keeps (nonzero b) l m;
      fulls = λ b l m. keeps (full b) l m;
      counts = λ b l m. keeps (population b) l m;
      stored = λ k l m a f. keeps (word k) l (ap₂ ◌&&◌ m (ap₂ (λ (x y : Bool). not x && y) f a));
    }
  where
    keeps : (t : Slot) → In W t → live_of W s t ≡ true → at W st' t ≡ value_of W s t
    keeps t i e = same t i (live_is W st s r t i ∙ e) ∙ value_is W st s r t i e
