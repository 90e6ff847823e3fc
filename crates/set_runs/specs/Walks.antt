-- The walk over the runs that giving a..e the value v changes: the run found by a search, whether they are few enough, how many they are,
-- and what those above have written of them. At v = false these are the set's own runs. Assumes nothing.
use Rattle.std.specs.Prelude.{◌≡◌, ◌⊎◌, Bool, true, List, ◌++◌, ℕ, ◌*◌, ◌-◌, ◌≤◌, ◌<◌, min, leb, length, get_or, take, not, Option, Some}
use Rattle.std.specs.declared.ops.Range.{Range}
use Rattle.positions.specs.Positions.{Positions}
use Rattle.positions.specs.Replies.{of_run}
use Rattle.positions.specs.Runs.{Run, next_run, changed_runs, encoded}
use Rattle.range_bitset.specs.Represents.{Represents}
use Rattle.answers.specs.Refusals.{of_range}
use Rattle.range_bitset.specs.Answers.{range_refusal}
use Rattle.range_bitset.specs.declared.RangeBitset.{RangeBitset}

-- the first run of a..e that giving it the value v changes, or none: on any memory a run in a..e, within the largest capacity; for every set
-- that the memory represents, within capacity, the first
pub record Finds (h : RangeBitset) (st : List ℕ) (a e : ℕ) (v : Bool) (r : Option (Range ℕ)) : Type 0 where
  pub ahead : (q : Range ℕ) → r ≡ Some q → (a ≤ q.start) × (q.start < q.end) × (q.end ≤ e) × (e ≤ 262144)
  pub first : range_refusal h (length st) e ≡ 0 → (s : Positions) → Represents h st s → of_range r ≡ of_run (next_run s (not v) a e)

-- how many runs of a..e giving it the value v changes, counted up to `most`
pub record CountsRuns (h : RangeBitset) (st : List ℕ) (a e : ℕ) (v : Bool) (most r : ℕ) : Type 0 where
  pub most_runs : r ≤ most
  pub counted : range_refusal h (length st) e ≡ 0 → (s : Positions) → Represents h st s → r ≡ min most (length (changed_runs s a e v))

-- whether giving a..e the value v changes at most `most` runs; on any memory yes where a..e has no room for more
pub record RunsFit (h : RangeBitset) (st : List ℕ) (a e : ℕ) (v : Bool) (most : ℕ) (r : Bool) : Type 0 where
  pub short : e - a ≤ 2 * most → r ≡ true
  pub fits : range_refusal h (length st) e ≡ 0 → (s : Positions) → Represents h st s → r ≡ leb (length (changed_runs s a e v)) most

-- `runs` runs, each as the numbers that `code` makes of it, written into the list x from u to u', all of them where they are at most
-- `most`; x' is the list afterwards
pub record WritesRuns (code : Run → List ℕ) (h : RangeBitset) (st : List ℕ) (a e : ℕ) (v : Bool) (most runs u u' : ℕ) (x x' : List ℕ) : Type 0 where
  pub most_runs : runs ≤ most
  pub same_length : length x' ≡ length x
  pub others : (i : ℕ) → (i < u) ⊎ (u' ≤ i) → get_or x' i 0 ≡ get_or x i 0
  pub all_runs : range_refusal h (length st) e ≡ 0 → (s : Positions) → Represents h st s → length (changed_runs s a e v) ≤ most
      → runs ≡ length (changed_runs s a e v)
  pub written_are : range_refusal h (length st) e ≡ 0 → (s : Positions) → Represents h st s → length (changed_runs s a e v) ≤ most
      → take u' x' ≡ take u x ++ encoded code (changed_runs s a e v)
