-- Contracts of the inner functions. No caller of an entry sees them, and nothing here need be believed: the entries'
-- promises (Entries) speak of none of it. Assumes nothing.
use Rattle.std.specs.Prelude.{◌≡◌, ℕ, suc, ◌+◌, ◌-◌, ◌*◌, ◌/◌, ◌%◌, ◌^◌, ◌<◌, ◌≤◌, min, Bool, true, false, cond, not, ◌&&◌, List, [], ◌∷◌, length, ◌==◌, ◌≢◌, count_ones, slice_set}
use Rattle.std.specs.Int.Count.{count_trailing_zeros}
use Rattle.positions.specs.Positions.{Positions, within, assigned, changed_count, count, count_from, sum_over}
use Rattle.positions.specs.Walks.{Lacks, Stops}
use Rattle.bits.specs.Bit.{bit, put}
use Rattle.bits.specs.Fields.{field_sums, low_fields}
use Rattle.range_bitset.specs.Layout.{blocks, words_of, needed, SamePast, Slot, word, nonzero, full, population, top_nonzero, top_full, address, at}
use Rattle.range_bitset.specs.Read.{ALL, state_of, mixed_read, word_read}
use Rattle.range_bitset.specs.Represents.{only, StoredOpen, Stored}
use Rattle.range_bitset.specs.declared.State.{State}
use Rattle.range_bitset.specs.declared.State.TheVariants.{Empty, Mixed, Full}

-- what every inner function needs of W and the storage: no power of two
pub record Room (W : ℕ) (st : List ℕ) : Type 0 where
  pub some : 0 < W
  pub most : W ≤ 4096
  pub long : needed W ≤ length st

-- the bits of m are those of a..b
abbrev pub Spans : ℕ → ℕ → ℕ → Type 0
Spans m a b = (i : ℕ) → bit m i ≡ within a b i

-- p - old + new in a word: any memory is safe, so it wraps
abbrev pub moved : ℕ → ℕ → ℕ → ℕ
moved p old new = ((p + (2 ^ 64 - old)) % 2 ^ 64 + new) % 2 ^ 64

-- ---- runs of stores, by the slots' names

-- the slot is one of the storage's own
abbrev pub In : ℕ → Slot → Type 0
In W (word k) = k < W
In W (nonzero b) = b < blocks W
In W (full b) = b < blocks W
In W (population b) = b < blocks W
In W top_nonzero = 0 < 1
In W top_full = 0 < 1

abbrev pub kind : Slot → ℕ
kind (word k) = 0
kind (nonzero b) = 1
kind (full b) = 2
kind (population b) = 3
kind top_nonzero = 4
kind top_full = 5

abbrev pub index : Slot → ℕ
index (word k) = k
index (nonzero b) = b
index (full b) = b
index (population b) = b
index top_nonzero = 0
index top_full = 0

abbrev pub same : Slot → Slot → Bool
same s t = kind s == kind t && index s == index t

pub record Store : Type 0 where
  pub slot : Slot
  pub value : ℕ

-- a number is stored at a slot
infix 70 ◌≔◌
abbrev pub ◌≔◌ : Slot → ℕ → Store
t ≔ x = record { slot = t; value = x }

-- the storage after the stores, the last in the list made first
abbrev pub stores : ℕ → List ℕ → List Store → List ℕ
stores W st [] = st
stores W st (u ∷ us) = slice_set (stores W st us) (address W u.slot) u.value

-- what a slot then holds
abbrev pub find : List Store → Slot → ℕ → ℕ
find [] t old = old
find (u ∷ us) t old = cond (same t u.slot) u.value (find us t old)

abbrev pub AllIn : ℕ → List Store → Type 0
AllIn W [] = 0 < 1
AllIn W (u ∷ us) = In W u.slot × AllIn W us

-- the masks and the population of block b, and that it is mixed
abbrev pub open_with : ℕ → List ℕ → ℕ → ℕ → ℕ → List Store
open_with W st b m p =
    top_full ≔ put 64 (at W st top_full) (2 ^ b) false
    ∷ top_nonzero ≔ put 64 (at W st top_nonzero) (2 ^ b) true
    ∷ population b ≔ p
    ∷ full b ≔ m
    ∷ nonzero b ≔ m
    ∷ []

abbrev pub close_clear : ℕ → List ℕ → ℕ → List Store
close_clear W st b = top_nonzero ≔ put 64 (at W st top_nonzero) (2 ^ b) false ∷ []

abbrev pub close_full : ℕ → List ℕ → ℕ → List Store
close_full W st b = top_full ≔ put 64 (at W st top_full) (2 ^ b) true ∷ []

-- data word k, and what the masks of its block say of it
abbrev pub write_word : ℕ → List ℕ → ℕ → ℕ → List Store
write_word W st k new =
    full (k / 64) ≔ put 64 (at W st (full (k / 64))) (2 ^ (k % 64)) (new == ALL)
    ∷ nonzero (k / 64) ≔ put 64 (at W st (nonzero (k / 64))) (2 ^ (k % 64)) (not (new == 0))
    ∷ word k ≔ new
    ∷ []

abbrev pub count_moved : ℕ → List ℕ → ℕ → ℕ → ℕ → List Store
count_moved W st b old new = population b ≔ moved (at W st (population b)) old new ∷ []

-- the bits m of two slots, both masks of a block or both top masks
abbrev pub write_masks : ℕ → List ℕ → Slot → Slot → ℕ → Bool → List Store
write_masks W st n f m v = f ≔ put 64 (at W st f) m v ∷ n ≔ put 64 (at W st n) m v ∷ []

-- a storage begun
abbrev pub beginning : List Store
beginning = top_full ≔ 0 ∷ top_nonzero ≔ 0 ∷ []

-- ---- what the functions that decide give back, for every set that the storage holds

pub record Opens (W b : ℕ) (st st' : List ℕ) : Type 0 where
  pub storage_kept : SamePast W st st'
  pub holds : (s : Positions) → Stored W st s → StoredOpen W st' s (only b)

pub record Closes (W b : ℕ) (st st' : List ℕ) : Type 0 where
  pub storage_kept : SamePast W st st'
  pub holds : (s : Positions) → StoredOpen W st s (only b) → Stored W st' s

-- a..e is given the value v, and r positions change
pub record Assigns (W a e : ℕ) (v : Bool) (st st' : List ℕ) (r : ℕ) : Type 0 where
  pub storage_kept : SamePast W st st'
  pub holds : (s : Positions) → Stored W st s → Stored W st' (assigned s a e v)
  pub changed : (s : Positions) → Stored W st s → r ≡ changed_count s a e v

-- the storage is begun, unless it was
pub record Begins (W : ℕ) (begun : Bool) (st st' : List ℕ) : Type 0 where
  pub storage_kept : SamePast W st st'
  pub holds : (s : Positions) → (begun ≡ true → Stored W st s) → (begun ≡ false → (i : ℕ) → i < 64 * W → s i ≡ false) → Stored W st' s

-- ---- what the functions that read give back

-- the population of those words of block b that m has, on any memory: read by the block's masks, and by its state too
unfoldable pub mixed_count : ℕ → List ℕ → ℕ → ℕ → ℕ
mixed_count W st b m = sum_over (bit m) (λ j. count_ones (mixed_read W st (64 * b + j))) 0 64

unfoldable pub words_count : ℕ → List ℕ → ℕ → ℕ → ℕ
words_count W st b m = sum_over (bit m) (λ j. count_ones (word_read W st (64 * b + j))) 0 64

-- the kept population of a whole block of 64 words
abbrev pub kept_count : State → ℕ → ℕ
kept_count Empty p = 0
kept_count Mixed p = p
kept_count Full p = 4096

-- the population of those whole blocks that m has, in 32 bits
unfoldable pub blocks_count : ℕ → List ℕ → ℕ → ℕ
blocks_count W st m = sum_over (bit m) (λ b. kept_count (state_of W st b) (at W st (population b))) 0 64 % 2 ^ 32

-- for every set that the storage holds: how many positions of a..e it has
abbrev pub Counts : ℕ → ℕ → ℕ → List ℕ → ℕ → Type 0
Counts W a e st r = (s : Positions) → Stored W st s → r ≡ count s a e

-- bit j of r says whether part j, of n, has a position of value v; it is start j..start (j + 1)
pub record Marks (s : Positions) (v : Bool) (n : ℕ) (start : ℕ → ℕ) (r : ℕ) : Type 0 where
  pub lacks : (j : ℕ) → j < n → bit r j ≡ false → Lacks s v (start j) (start (suc j))
  pub has : (j : ℕ) → j < n → bit r j ≡ true → Lacks s v (start j) (start (suc j)) → ⊥

-- where word j of block b starts; where block b of W words does: the one past the last at the capacity, though the last is short
abbrev pub word_start : ℕ → ℕ → ℕ
word_start b j = 64 * (64 * b + j)

abbrev pub block_start : ℕ → ℕ → ℕ
block_start W b = min (4096 * b) (64 * W)

-- the words of block b that have a position of value v; on any memory a mask of the block's own words
pub record CandidateWords (W b : ℕ) (v : Bool) (st : List ℕ) (r : ℕ) : Type 0 where
  pub fits : r < 2 ^ words_of W b
  pub marks : (s : Positions) → Stored W st s → Marks s v (words_of W b) (word_start b) r

-- the blocks that have a position of value v; on any memory a mask of the blocks that there are
pub record CandidateBlocks (W : ℕ) (v : Bool) (st : List ℕ) (r : ℕ) : Type 0 where
  pub fits : r < 2 ^ blocks W
  pub marks : (s : Positions) → Stored W st s → Marks s v (blocks W) (block_start W) r

-- the first position of word k of value v, or where the next word starts
pub record NextInWord (W k : ℕ) (v : Bool) (st : List ℕ) (r : ℕ) : Type 0 where
  pub low : 64 * k ≤ r
  pub high : r ≤ 64 * k + 64
  pub stops : (s : Positions) → Stored W st s → Stops s v (64 * k) (64 * k + 64) r

-- the first position at or after a of value v, or the capacity
pub record NextFrom (W a : ℕ) (v : Bool) (st : List ℕ) (r : ℕ) : Type 0 where
  pub low : a ≤ r
  pub high : r ≤ 64 * W
  pub stops : (s : Positions) → Stored W st s → Stops s v a (64 * W) r

-- no set that the storage holds has a position of value v in a..e
abbrev pub Passes : ℕ → List ℕ → ℕ → Bool → ℕ → Type 0
Passes W st a v e = (s : Positions) → Stored W st s → Lacks s v a e

-- the positions of value v from a to the end of its word, as bits
pub record BitsFrom (W a : ℕ) (v : Bool) (st : List ℕ) (r : ℕ) : Type 0 where
  pub some : (r ≢ 0) → NextFrom W a v st (a / 64 * 64 + count_trailing_zeros 64 r)
  pub none : r ≡ 0 → Passes W st a v (64 * suc (a / 64))

-- where that word has none: the first position after it, or the capacity
abbrev pub NextAfter : ℕ → ℕ → Bool → List ℕ → ℕ → Type 0
NextAfter W a v st r = Passes W st a v (64 * suc (a / 64)) → NextFrom W a v st r

-- p..q is the first run of value v in a..e, as far as it lies below e
pub record RunFrom (W a e : ℕ) (v : Bool) (st : List ℕ) (p q : ℕ) : Type 0 where
  pub low : a ≤ p
  pub start : (s : Positions) → Stored W st s → Stops s v a e (min p e)
  pub end : p < e → (s : Positions) → Stored W st s → Stops s (not v) p e (min q e)

-- where the word of a has none
abbrev pub RunAfter : ℕ → ℕ → ℕ → Bool → List ℕ → ℕ → ℕ → Type 0
RunAfter W a e v st p q = Passes W st a v (64 * suc (a / 64)) → RunFrom W a e v st p q

-- ---- the n-th bit of a word

-- r has the sums of each two neighbouring fields of w bits, where m is the mask of the lower of each two
abbrev pub Pairs : ℕ → ℕ → ℕ → ℕ → Type 0
Pairs sums w m r = (k x : ℕ) → sums ≡ field_sums w (k + k) x → m ≡ low_fields w k → r ≡ field_sums (w + w) k x

-- the set bit of x that has n set bits below it is one of the w bits from a on, and m of the n lie there; a is a multiple of w
pub record Among (x n w a m : ℕ) : Type 0 where
  pub index : ℕ
  pub aligned : a ≡ w * index
  pub before : count (bit x) 0 a + m ≡ n
  pub inside : m < count_from (bit x) a w

-- from 2 * w bits to w, by the sums over each w bits
pub record Narrows (sums w a m a' m' : ℕ) : Type 0 where
  pub high : a' ≤ a + w
  pub among : (x n k : ℕ) → sums ≡ field_sums w k x → w * k ≡ 64 → Among x n (w + w) a m → Among x n w a' m'
