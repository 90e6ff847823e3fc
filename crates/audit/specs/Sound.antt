-- 01's "Sound" memory, rule by rule, by numbers alone, its "stale" numbers, and the set that a memory reads. Assumes nothing.
use Rattle.std.specs.Prelude.{◌≡◌, Bool, true, false, not, ◌&&◌, List, ℕ, ◌+◌, ◌*◌, ◌/◌, ◌%◌, ◌^◌, ◌<◌, get_or}
use Rattle.positions.specs.Positions.{Positions, count}
use Rattle.bits.specs.Bit.{bit}
use Rattle.range_bitset.specs.Layout.{blocks, words_of, Slot, at, word, nonzero, full, population, top_nonzero, top_full}
use Rattle.range_bitset.specs.Read.{ALL, state_of, word_read}
use Rattle.range_bitset.specs.Represents.{valid, block_count, capacity_of}
use Rattle.range_bitset.specs.declared.RangeBitset.{RangeBitset}
use Rattle.range_bitset.specs.declared.State.{State}
use Rattle.range_bitset.specs.declared.State.TheVariants.{Empty, Mixed, Full}

-- the set that the storage's words read: bit i of word k is position 64 * k + i
unfoldable pub plain : ℕ → List ℕ → Positions
plain W st i = bit (word_read W st (i / 64)) (i % 64)

-- the set that head and storage read: none of the storage is read before the head says that it was begun
unfoldable pub has : RangeBitset → List ℕ → Positions
has h st i = h.allocated && plain h.words st i

-- a mixed block: its masks lie within its words; full lies within nonzero; nonzero is not 0; full is not all its words; a
-- stored word is neither 0 nor all ones; its population is that of its words
pub record SoundBlock (W : ℕ) (st : List ℕ) (b : ℕ) : Type 0 where
  pub nonzero_fits : at W st (nonzero b) < 2 ^ words_of W b
  pub full_fits : at W st (full b) < 2 ^ words_of W b
  pub within_nonzero : (j : ℕ) → bit (at W st (full b)) j ≡ true → bit (at W st (nonzero b)) j ≡ true
  pub some : at W st (nonzero b) ≡ 0 → ⊥
  pub not_all : at W st (full b) ≡ valid W b → ⊥
  pub mixed_words : (j : ℕ) → j < words_of W b → bit (at W st (full b)) j ≡ false → bit (at W st (nonzero b)) j ≡ true
      → (at W st (word (64 * b + j)) ≡ 0 → ⊥) × (at W st (word (64 * b + j)) ≡ ALL → ⊥)
  pub counted : at W st (population b) ≡ block_count W (plain W st) b

-- the top masks have no bit at or above B, and full lies within nonzero; each mixed block is sound
pub record SoundStorage (W : ℕ) (st : List ℕ) : Type 0 where
  pub top_nonzero_fits : at W st top_nonzero < 2 ^ blocks W
  pub top_full_fits : at W st top_full < 2 ^ blocks W
  pub top_within : (b : ℕ) → bit (at W st top_full) b ≡ true → bit (at W st top_nonzero) b ≡ true
  pub block : (b : ℕ) → b < blocks W → state_of W st b ≡ Mixed → SoundBlock W st b

-- with the flag clear the population is 0 and the storage unread; with it set the storage is sound and the head's
-- population is the whole set's
pub record Sound (h : RangeBitset) (st : List ℕ) : Type 0 where
  pub unbegun : h.allocated ≡ false → h.len ≡ 0
  pub storage : h.allocated ≡ true → SoundStorage h.words st
  pub whole : h.allocated ≡ true → h.len ≡ count (plain h.words st) 0 (capacity_of h)

-- each number of the storage is one of 64 bits: what a `&[u64]` always tells
abbrev pub Words : List ℕ → Type 0
Words st = (i : ℕ) → get_or st i 0 < 2 ^ 64

abbrev pub is_mixed : State → Bool
is_mixed Empty = false
is_mixed Mixed = true
is_mixed Full = false

-- the rules read the number at a slot of a storage begun; each other number is 01's "stale"
abbrev pub live : ℕ → List ℕ → Slot → Bool
live W st (word k) =
    is_mixed (state_of W st (k / 64))
    && (not (bit (at W st (full (k / 64))) (k % 64)) && bit (at W st (nonzero (k / 64))) (k % 64))
live W st (nonzero b) = is_mixed (state_of W st b)
live W st (full b) = is_mixed (state_of W st b)
live W st (population b) = is_mixed (state_of W st b)
live W st top_nonzero = true
live W st top_full = true
