-- The promise of the combination: the first head h with its storage st, the second head k with its storage su, the third storage and the
-- scratch; those with a ' are as they are afterwards. Assumes nothing.
use Rattle.std.specs.Prelude.{◌≡◌, ◌≢◌, cond, true, ◌==◌, nat_lt, List, ℕ, length, drop, Ok}
use Rattle.positions.specs.Positions.{Positions, count}
use Rattle.answers.specs.Refusals.{refused_by}
use Rattle.range_bitset.specs.Layout.{SamePast}
use Rattle.range_bitset.specs.Represents.{Represents, capacity_of}
use Rattle.range_bitset.specs.Answers.{Made, head_refusal, storage_refusal, first_of}
use Rattle.range_bitset.specs.declared.RangeBitset.{RangeBitset}
use Rattle.combine.specs.Rules.{Rule, combined}

-- how many numbers of the scratch are for the call's own use
abbrev pub scratch_needed : RangeBitset → ℕ
scratch_needed h = h.words

-- 2 for either head; 3 for a storage shorter than its head needs, the third measured by the first head; 10 where the capacities differ; 11 where
-- the scratch is shorter than needed. n, m, o and q are the four lengths
unfoldable pub combine_refusal : RangeBitset → RangeBitset → ℕ → ℕ → ℕ → ℕ → ℕ
combine_refusal h k n m o q =
    first_of (head_refusal h)
    (first_of (head_refusal k)
    (first_of (storage_refusal h n)
    (first_of (storage_refusal k m)
    (first_of (storage_refusal h o)
    (first_of (cond (h.words == k.words) 0 10)
    (cond (nat_lt q (scratch_needed h)) 11 0))))))

-- the head of a set of the same capacity: its flag is set, also where it has no position
abbrev pub head_of : RangeBitset → Positions → RangeBitset
head_of h u = record { words = h.words; len = count u 0 (capacity_of h); allocated = true }

pub record CombineEnsures (f : Rule) (h : RangeBitset) (st : List ℕ) (k : RangeBitset) (su third scratch : List ℕ) (r : Made) (third' scratch' : List ℕ)
    : Type 0 where
  -- on any memory: refused exactly so, and then nothing is changed; else a head of the first set's word count, its flag set; numbers past
  -- those needed are never changed
  pub refuses : refused_by r ≡ combine_refusal h k (length st) (length su) (length third) (length scratch)
  pub unchanged : (refused_by r ≢ 0) → (third' ≡ third) × (scratch' ≡ scratch)
  pub begun : (h' : RangeBitset) → r ≡ Ok h' → (h'.words ≡ h.words) × (h'.allocated ≡ true)
  pub same_length : length third' ≡ length third
  pub third_kept : SamePast h.words third third'
  pub scratch_kept : drop (scratch_needed h) scratch' ≡ drop (scratch_needed h) scratch
  -- for every two sets that the two memories represent: the third's head, and every number of it that is not stale
  pub head : refused_by r ≡ 0 → (s t : Positions) → Represents h st s → Represents k su t → r ≡ Ok (head_of h (combined f s t))
  pub represents : refused_by r ≡ 0 → (s t : Positions) → Represents h st s → Represents k su t
      → Represents (head_of h (combined f s t)) third' (combined f s t)
