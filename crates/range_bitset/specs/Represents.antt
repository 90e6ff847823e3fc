-- The one relation between memory and a plain set: each number that is not stale is an equation with a definition on the
-- set. Assumes nothing.
--
-- Why stale numbers do no harm. A range assignment that covers a whole word or block only changes the mask bits above it
-- and leaves the number itself as it was, so the number may then be anything. It is never read: every reader goes
-- through the masks, from the top down, and does not look at a word or block that is marked all clear or all set. Before a
-- part of such a word or block is changed, `open_block` and `assign_in_word` write anew what the mark stood for. So the
-- relation says nothing of a number under such a mark.
use Rattle.std.specs.Prelude.{◌≡◌, ℕ, ◌+◌, ◌-◌, ◌*◌, ◌/◌, ◌^◌, ◌<◌, Bool, true, false, not, ◌&&◌, ◌||◌, List, ◌==◌}
use Rattle.positions.specs.Positions.{Positions, count}
use Rattle.bits.specs.Bit.{mask}
use Rattle.range_bitset.specs.Layout.{blocks, words_of, at, word, nonzero, full, population, top_nonzero, top_full}
use Rattle.range_bitset.specs.Read.{ALL}
use Rattle.range_bitset.specs.declared.RangeBitset.{RangeBitset}

-- data word k of s, and whether it has any, or all, of its positions
unfoldable pub word_of : Positions → ℕ → ℕ
word_of s k = mask 64 (λ i. s (64 * k + i))

abbrev pub any_word : Positions → ℕ → Bool
any_word s k = not (word_of s k == 0)

abbrev pub all_word : Positions → ℕ → Bool
all_word s k = word_of s k == ALL

-- the masks of block b over its own words, and its population
unfoldable pub nonzero_mask : ℕ → Positions → ℕ → ℕ
nonzero_mask W s b = mask (words_of W b) (λ j. any_word s (64 * b + j))

unfoldable pub full_mask : ℕ → Positions → ℕ → ℕ
full_mask W s b = mask (words_of W b) (λ j. all_word s (64 * b + j))

unfoldable pub block_count : ℕ → Positions → ℕ → ℕ
block_count W s b = count s (4096 * b) (4096 * b + 64 * words_of W b)

-- the mask of all the words of block b
abbrev pub valid : ℕ → ℕ → ℕ
valid W b = 2 ^ words_of W b - 1

-- whether block b has any, or all, of its positions
abbrev pub any_block : ℕ → Positions → ℕ → Bool
any_block W s b = not (nonzero_mask W s b == 0)

abbrev pub all_block : ℕ → Positions → ℕ → Bool
all_block W s b = full_mask W s b == valid W b

-- inside `assign` one block may be open: its masks are read though it may be all clear or all set. `o b`: block b is open
abbrev pub closed : ℕ → Bool
closed b = false

abbrev pub only : ℕ → ℕ → Bool
only b c = c == b

-- the masks and the population of block b are read
abbrev pub masked : ℕ → Positions → (ℕ → Bool) → ℕ → Bool
masked W s o b = o b || (any_block W s b && not (all_block W s b))

-- the storage holds s
pub record StoredOpen (W : ℕ) (st : List ℕ) (s : Positions) (o : ℕ → Bool) : Type 0 where
  pub top_nonzero_is : at W st top_nonzero ≡ mask (blocks W) (λ b. o b || any_block W s b)
  pub top_full_is : at W st top_full ≡ mask (blocks W) (λ b. not (o b) && all_block W s b)
  pub nonzeros : (b : ℕ) → b < blocks W → masked W s o b ≡ true → at W st (nonzero b) ≡ nonzero_mask W s b
  pub fulls : (b : ℕ) → b < blocks W → masked W s o b ≡ true → at W st (full b) ≡ full_mask W s b
  pub counts : (b : ℕ) → b < blocks W → masked W s o b ≡ true → at W st (population b) ≡ block_count W s b
  pub stored : (k : ℕ) → k < W → masked W s o (k / 64) ≡ true → any_word s k ≡ true → all_word s k ≡ false
      → at W st (word k) ≡ word_of s k

-- the storage holds s, with no block open
abbrev pub Stored : ℕ → List ℕ → Positions → Type 0
Stored W st s = StoredOpen W st s closed

-- 01's capacity
abbrev pub capacity_of : RangeBitset → ℕ
capacity_of h = 64 * h.words

-- head and storage hold s: with the flag clear s has nothing and the storage is unread
pub record Represents (h : RangeBitset) (st : List ℕ) (s : Positions) : Type 0 where
  pub fresh : h.allocated ≡ false → (i : ℕ) → i < capacity_of h → s i ≡ false
  pub begun : h.allocated ≡ true → Stored h.words st s
  pub counted : h.len ≡ count s 0 (capacity_of h)
