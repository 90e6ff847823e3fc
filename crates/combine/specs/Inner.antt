-- Contracts of the inner functions. No caller of the crate sees them, and nothing here need be believed. Assumes nothing.
use Rattle.std.specs.Prelude.{◌≡◌, Bool, true, false, cond, not, ◌&&◌, ◌||◌, ◌==◌, List, length, slice_index, slice_range, count_ones, ℕ, ◌+◌, ◌*◌, ◌-◌, ◌/◌, ◌^◌, ◌<◌, ◌≤◌}
use Rattle.positions.specs.Positions.{Positions, differ, sum_over, count}
use Rattle.bits.specs.Bit.{bit, mask}
use Rattle.range_bitset.specs.Layout.{blocks, words_of, SamePast, Slot, at, word, nonzero, full, population, top_nonzero, top_full}
use Rattle.range_bitset.specs.Read.{ALL}
use Rattle.range_bitset.specs.Represents.{word_of, any_word, all_word, valid, nonzero_mask, full_mask, any_block, all_block, closed, masked, Stored}
use Rattle.range_bitset.specs.Inner.{In}
use Rattle.range_bitset.proofs.RewrittenBlock.{touches}
use Rattle.combine.specs.Rules.{Rule, combined, on_words}
use Rattle.combine.specs.declared.rule.Masks.{Masks}
use Rattle.combine.specs.declared.rule.Split.{Split}
use Rattle.combine.specs.declared.block.Made.{Made}
use Rattle.combine.specs.declared.block.Paired.{Paired}
use Rattle.combine.specs.declared.source.Source.{Source}

-- ---- either level: the parts of a whole by their bits in the masks, n and a on the first side, m and b on the second

-- where one side is v, the rule gives the same whatever the other is
abbrev pub first_settles : Rule → Bool → Bool
first_settles f v = not (differ (f v false) (f v true))

abbrev pub second_settles : Rule → Bool → Bool
second_settles f v = not (differ (f false v) (f true v))

abbrev pub settled_alone : Rule → Bool → Bool → Bool → Bool → Bool
settled_alone f n a m b =
    ((not n && first_settles f false) || (a && first_settles f true)) || ((not m && second_settles f false) || (b && second_settles f true))

-- a part is to be looked into: it is mixed on a side, and neither settles it
abbrev pub unsettled_by : Rule → Bool → Bool → Bool → Bool → Bool
unsettled_by f n a m b = ((n && not a) || (m && not b)) && not (settled_alone f n a m b)

abbrev pub unsettled_at : Rule → Masks → Masks → ℕ → Bool
unsettled_at f x y i = unsettled_by f (bit x.nonzero i) (bit x.full i) (bit y.nonzero i) (bit y.full i)

-- what any other part is throughout
abbrev pub full_at : Rule → Masks → Masks → ℕ → Bool
full_at f x y i = f (bit x.full i) (bit y.full i)

abbrev pub Settles : Rule → Masks → Masks → ℕ → Type 0
Settles f x y r = r ≡ mask 64 (λ i. settled_alone f (bit x.nonzero i) (bit x.full i) (bit y.nonzero i) (bit y.full i))

pub record Splits (f : Rule) (x y : Masks) (valid : ℕ) (r : Split) : Type 0 where
  pub unsettled_is : (i : ℕ) → bit r.unsettled i ≡ (bit valid i && unsettled_at f x y i)
  pub full_is : (i : ℕ) → bit r.full i ≡ ((bit valid i && not (unsettled_at f x y i)) && full_at f x y i)

-- ---- the words of a block

-- word i of a side, by its masks and the words stored
abbrev pub read_word : Masks → List ℕ → ℕ → ℕ
read_word m l i = cond (bit m.full i) ALL (cond (bit m.nonzero i) (slice_index l i) 0)

-- word i of the combination
unfoldable pub made_word : Rule → Masks → List ℕ → Masks → List ℕ → ℕ → ℕ
made_word f x l y k i = cond (unsettled_at f x y i) (on_words f (read_word x l i) (read_word y k i)) (cond (full_at f x y i) ALL 0)

-- the words of the mask m become those of v, and no other changes
pub record Puts (m : ℕ) (v : ℕ → ℕ) (st st' : List ℕ) : Type 0 where
  pub same_length : length st' ≡ length st
  pub put : (i : ℕ) → i < length st → slice_index st' i ≡ cond (bit m i) (v i) (slice_index st i)

-- a word that is stored on both sides; and one that is stored on one side alone, kept or turned over
abbrev pub pair_word : Rule → List ℕ → List ℕ → ℕ → ℕ
pair_word f l k i = on_words f (slice_index l i) (slice_index k i)

abbrev pub lone_word : List ℕ → ℕ → ℕ → ℕ
lone_word l over i = cond (bit over i) (ALL - slice_index l i) (slice_index l i)

pub record MakesPairs (f : Rule) (l k : List ℕ) (m : ℕ) (st st' : List ℕ) (r : Paired) : Type 0 where
  pub puts : Puts m (pair_word f l k) st st'
  pub empty_is : r.even.empty ≡ mask 64 (λ i. bit m i && (pair_word f l k i == 0))
  pub full_is : r.even.full ≡ mask 64 (λ i. bit m i && (pair_word f l k i == ALL))
  pub counted : r.population ≡ sum_over (bit m) (λ i. count_ones (pair_word f l k i)) 0 64
  pub few : r.population ≤ 4096

pub record MakesLone (l : List ℕ) (over m : ℕ) (st st' : List ℕ) (r : ℕ) : Type 0 where
  pub known : (i : ℕ) → slice_index l i < 2 ^ 64
  pub puts : Puts m (lone_word l over) st st'
  pub counted : r ≡ sum_over (bit m) (λ i. count_ones (lone_word l over i)) 0 64
  pub few : r ≤ 4096

-- the parts that are mixed on a side; and those to be looked into that are mixed on one side alone
abbrev pub mixed_at : Masks → ℕ → Bool
mixed_at x i = bit x.nonzero i && not (bit x.full i)

abbrev pub lone_at : Rule → Masks → Masks → ℕ → Bool
lone_at f x y i = unsettled_at f x y i && not (mixed_at x i && mixed_at y i)

-- the masks and the population of n words, on any memory: of a lone word it is taken for granted that it has some of its positions and not all
pub record Summed (n : ℕ) (w : ℕ → ℕ) (lone : ℕ → Bool) (r : Made) : Type 0 where
  pub nonzero_is : r.masks.nonzero ≡ mask n (λ i. lone i || not (w i == 0))
  pub full_is : r.masks.full ≡ mask n (λ i. not (lone i) && (w i == ALL))
  pub counted : r.population ≡ sum_over (bit (2 ^ n - 1)) (λ i. count_ones (w i)) 0 64
  pub few : r.population ≤ 4096

pub record MakesWords (f : Rule) (x : Masks) (l : List ℕ) (y : Masks) (k st st' : List ℕ) (r : Made) : Type 0 where
  pub same_length : length st' ≡ length st
  pub summed : Summed (length st) (made_word f x l y k) (lone_at f x y) r
  pub stored : (i : ℕ) → i < length st → unsettled_at f x y i ≡ true → slice_index st' i ≡ made_word f x l y k i

-- ---- the blocks of a set

-- the top masks of a side: nothing is set before the storage was begun
abbrev pub tops_of : ℕ → List ℕ → Bool → Masks
tops_of W st begun = record { nonzero = cond begun (at W st top_nonzero) 0; full = cond begun (at W st top_full) 0 }

-- the masks of block b, and its words that are stored
abbrev pub by_tops : Masks → ℕ → ℕ → ℕ → ℕ
by_tops m b all own = cond (bit m.full b) all (cond (bit m.nonzero b) own 0)

unfoldable pub masks_of : Source → ℕ → Masks
masks_of x b =
    record {
      nonzero = by_tops x.tops b (valid x.at.words b) (at x.at.words x.storage.now (nonzero b));
      full = by_tops x.tops b (valid x.at.words b) (at x.at.words x.storage.now (full b));
    }

abbrev pub stored_of : Source → ℕ → List ℕ
stored_of x b = slice_range x.storage.now (64 * b) (64 * b + words_of x.at.words b)

-- word i of block b of the combination
abbrev pub block_word : Rule → Source → Source → ℕ → ℕ → ℕ
block_word f x y b i = made_word f (masks_of x b) (stored_of x b) (masks_of y b) (stored_of y b) i

-- block b is written, and no other
pub record MakesBlock (f : Rule) (x y : Source) (b : ℕ) (st st' : List ℕ) (r : Made) : Type 0 where
  pub same_length : length st' ≡ length st
  pub storage_kept : SamePast x.at.words st st'
  pub others : (t : Slot) → In x.at.words t → touches b t ≡ false → at x.at.words st' t ≡ at x.at.words st t
  pub nonzero_put : at x.at.words st' (nonzero b) ≡ r.masks.nonzero
  pub full_put : at x.at.words st' (full b) ≡ r.masks.full
  pub population_put : at x.at.words st' (population b) ≡ r.population
  pub summed : Summed (words_of x.at.words b) (block_word f x y b) (lone_at f (masks_of x b) (masks_of y b)) r
  pub stored : (i : ℕ) → i < words_of x.at.words b → unsettled_at f (masks_of x b) (masks_of y b) i ≡ true
      → at x.at.words st' (word (64 * b + i)) ≡ block_word f x y b i

-- a side holds the set s
pub record Tells (x : Source) (s : Positions) : Type 0 where
  pub nonzero_is : x.tops.nonzero ≡ mask (blocks x.at.words) (any_block x.at.words s)
  pub full_is : x.tops.full ≡ mask (blocks x.at.words) (all_block x.at.words s)
  pub nonzeros : (b : ℕ) → b < blocks x.at.words → masked x.at.words s closed b ≡ true → at x.at.words x.storage.now (nonzero b) ≡ nonzero_mask x.at.words s b
  pub fulls : (b : ℕ) → b < blocks x.at.words → masked x.at.words s closed b ≡ true → at x.at.words x.storage.now (full b) ≡ full_mask x.at.words s b
  pub stored : (k : ℕ) → k < x.at.words → masked x.at.words s closed (k / 64) ≡ true → any_word s k ≡ true → all_word s k ≡ false
      → at x.at.words x.storage.now (word k) ≡ word_of s k

-- for every two sets that the sides hold: the third storage holds their combination, and r is its population
pub record MakesBlocks (f : Rule) (x y : Source) (st st' : List ℕ) (r : ℕ) : Type 0 where
  pub same_length : length st' ≡ length st
  pub storage_kept : SamePast x.at.words st st'
  pub holds : (s t : Positions) → Tells x s → Tells y t → Stored x.at.words st' (combined f s t)
  pub counted : (s t : Positions) → Tells x s → Tells y t → r ≡ count (combined f s t) 0 (64 * x.at.words)
