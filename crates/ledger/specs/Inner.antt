-- Contracts of the inner functions. No caller of the crate sees them, and nothing here need be believed: the entries'
-- promises speak of none of it. Assumes nothing.
use Rattle.std.specs.Prelude.{◌≡◌, ℕ, zero, suc, ◌+◌, ◌-◌, ◌/◌, ◌%◌, ◌<◌, ◌≤◌, min, Bool, false, cond, ◌&&◌, ◌||◌, ◌⊎◌, List, [], ◌∷◌, ◌++◌, length, take, ◌==◌, nat_lt, nat_le, slice_index, Option, Some, None, Result, Ok, Err}
use Rattle.positions.specs.Positions.{Positions, assigned, changed_count}
use Rattle.positions.specs.Runs.{Run, run, changed_runs, assigned_runs}
use Rattle.range_bitset.specs.Layout.{SamePast}
use Rattle.range_bitset.specs.Represents.{Represents, capacity_of}
use Rattle.answers.specs.declared.Refusal.{Refusal}
use Rattle.answers.specs.declared.Refusal.TheVariants.{Size}
use Rattle.range_bitset.specs.Answers.{range_refusal, storage_refusal, allowed_capacity}
use Rattle.range_bitset.specs.declared.RangeBitset.{RangeBitset}
use Rattle.saved_list.specs.Format.{runs_after}
use Rattle.ledger.specs.Machine.{numbers_for, need_of}
use Rattle.ledger.specs.Journal.{written}
use Rattle.ledger.specs.Entries.{new_head}
use Rattle.ledger.specs.declared.Ledger.{Ledger}

-- the numbers that a call which gives a..e the value v adds to the journal: none where it changes no position
unfoldable pub numbers_added : Positions → ℕ → ℕ → Bool → List ℕ
numbers_added s a e v = cond (nat_lt 0 (changed_count s a e v)) (written s a e v) []

-- the runs that a call changes, at most `most`, and where there are any its closing number, written into the journal from u on: u'
-- numbers are then in use
pub record WritesCall (h : RangeBitset) (st : List ℕ) (a e : ℕ) (v : Bool) (u most u' : ℕ) (j j' : List ℕ) : Type 0 where
  pub most_used : u' ≤ u + numbers_for most
  pub others : (i : ℕ) → (i < u) ⊎ (u' ≤ i) → slice_index j' i ≡ slice_index j i
  pub in_use : range_refusal h (length st) e ≡ 0 → (s : Positions) → Represents h st s → length (changed_runs s a e v) ≤ most
      → u' ≡ u + need_of s a e v
  pub written_is : range_refusal h (length st) e ≡ 0 → (s : Positions) → Represents h st s → length (changed_runs s a e v) ≤ most
      → take u' j' ≡ take u j ++ numbers_added s a e v

-- n runs read from a place of the journal on
abbrev pub read_runs : List ℕ → ℕ → ℕ → List Run
read_runs j at zero = []
read_runs j at (suc n) = run (slice_index j at) (slice_index j (at + 1)) ∷ read_runs j (at + 2) n

-- how many positions giving the runs the value v changes, one run after the other
abbrev pub changed_by_runs : Positions → List Run → Bool → ℕ
changed_by_runs s [] v = 0
changed_by_runs s (r ∷ rs) v = changed_count s r.start r.end v + changed_by_runs (assigned s r.start r.end v) rs v

-- every run ends within the capacity
abbrev pub Within : ℕ → List Run → Type 0
Within c [] = Unit {0}
Within c (r ∷ rs) = (r.end ≤ c) × Within c rs

-- some run has a position
abbrev pub any_run : List Run → Bool
any_run [] = false
any_run (r ∷ rs) = nat_lt r.start r.end || any_run rs

-- the runs given the value v, one after the other: h and st before, h' and st' after
pub record Reassigns (h : RangeBitset) (st : List ℕ) (rs : List Run) (v : Bool) (h' : RangeBitset) (st' : List ℕ) : Type 0 where
  pub same_words : h'.words ≡ h.words
  pub storage_kept : SamePast h.words st st'
  pub represents : storage_refusal h (length st) ≡ 0 → (s : Positions) → Represents h st s → Within (capacity_of h) rs
      → Represents h' st' (assigned_runs s rs v)
  pub flag : storage_refusal h (length st) ≡ 0 → (s : Positions) → Represents h st s → Within (capacity_of h) rs
      → h'.allocated ≡ (h.allocated || (v && any_run rs))

-- the same with n the changed count in 32 bits
pub record AssignsRuns (h : RangeBitset) (st : List ℕ) (rs : List Run) (v : Bool) (n : ℕ) (h' : RangeBitset) (st' : List ℕ) : Type 0 where
  pub reassigns : Reassigns h st rs v h' st'
  pub changed : storage_refusal h (length st) ≡ 0 → (s : Positions) → Represents h st s → Within (capacity_of h) rs
      → n ≡ changed_by_runs s rs v % 4294967296

-- ---- new and open

-- 1, or the head of a ledger with nothing in it
unfoldable pub fresh_of : ℕ → ℕ → Result Ledger Refusal
fresh_of capacity j = cond (allowed_capacity capacity && nat_le j 16384) (Ok (new_head (capacity / 64) j false)) (Err Size)

-- the first n runs of a saved list, as the reader gives them
abbrev pub file_runs : List ℕ → ℕ → List Run
file_runs file n = runs_after file 0 n

-- ---- take-back

-- the call that the last of u journal numbers closes, its run count and value; on any journal no more runs than the numbers can hold
unfoldable pub last_of : List ℕ → ℕ → Option (ℕ × Bool)
last_of j u = cond (u == 0) None (Some (min (slice_index j (u - 1) / 2) ((u - 1) / 2), slice_index j (u - 1) % 2 == 1))
