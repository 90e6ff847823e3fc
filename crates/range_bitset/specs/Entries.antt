-- The set's promises: one definition for each entry. `st` is the storage at entry, `st'` at exit. Assumes nothing.
use Rattle.std.specs.Prelude.{◌≡◌, ℕ, suc, ◌/◌, ◌<◌, ◌≤◌, Bool, true, false, cond, not, ◌&&◌, ◌||◌, List, length, ◌≢◌, nat_lt, Some, None, Ok, Err}
use Rattle.positions.specs.Positions.{Positions, none, assigned, count, changed_count, one, select}
use Rattle.positions.specs.Runs.{next_run}
use Rattle.range_bitset.specs.Layout.{SamePast}
use Rattle.range_bitset.specs.Represents.{Represents, capacity_of}
use Rattle.positions.specs.Replies.{Reply, number, refusal, of_place, of_run, refused, Accepted}
use Rattle.answers.specs.Refusals.{head_after}
use Rattle.answers.specs.declared.Refusal.TheVariants.{Size}
use Rattle.range_bitset.specs.Answers.{Made, Counted, Tested, Found, Placed, Assigned, Updated, of_counted, of_tested, of_found, of_placed, of_assigned, of_updated, allowed_capacity, good_head, storage_refusal, range_refusal, point_refusal}
use Rattle.range_bitset.specs.declared.RangeBitset.{RangeBitset}

-- ---- the shape of a query's promise and of a change's

-- `k` is the refusal that 01's table asks for, 0 for none; `f s` the reply on the set s
pub record Answers (k : ℕ) (h : RangeBitset) (st : List ℕ) (f : Positions → Reply) (r : Reply) : Type 0 where
  -- on any memory: refused exactly so
  pub refuses : refused r ≡ k
  pub accepts : k ≡ 0 → Accepted r
  -- for every set that the memory represents: the one answer
  pub answers : k ≡ 0 → (s : Positions) → Represents h st s → r ≡ f s

-- `g s` is the set afterwards; `begins`: the call sets over at least one position; `clears`: it clears
pub record Changes (k : ℕ) (h : RangeBitset) (st : List ℕ) (f : Positions → Reply) (g : Positions → Positions) (begins clears : Bool)
    (r : Reply) (h' : RangeBitset) (st' : List ℕ) : Type 0 where
  -- on any memory: refused exactly so, and then nothing is changed; numbers past those needed and the word count never are
  pub refuses : refused r ≡ k
  pub accepts : k ≡ 0 → Accepted r
  pub unchanged : (k ≢ 0) → (h' ≡ h) × (st' ≡ st)
  pub storage_kept : SamePast h.words st st'
  pub same_words : h'.words ≡ h.words
  -- clearing at population 0 changes nothing, stale numbers and the flag included
  pub idle : clears ≡ true → h.len ≡ 0 → (h' ≡ h) × (st' ≡ st)
  -- for every set that the memory represents: the one answer, the new head, and every number that is not stale
  pub answers : k ≡ 0 → (s : Positions) → Represents h st s → r ≡ f s
  pub head : k ≡ 0 → (s : Positions) → Represents h st s
      → h' ≡ record { words = h.words; len = count (g s) 0 (capacity_of h); allocated = h.allocated || begins }
  pub represents : k ≡ 0 → (s : Positions) → Represents h st s → Represents h' st' (g s)

-- ---- the entries

-- refused 1, or the head of a fresh set
unfoldable pub new_of : ℕ → Made
new_of capacity =
    cond (allowed_capacity capacity) (Ok (record { words = capacity / 64; len = 0; allocated = false })) (Err Size)

unfoldable pub of_head : RangeBitset → ℕ → Reply
of_head h n = cond (good_head h) (number n) (refusal 2)

abbrev pub CapacityEnsures : RangeBitset → Counted → Type 0
CapacityEnsures h r = of_counted r ≡ of_head h (capacity_of h)

abbrev pub LenEnsures : RangeBitset → Counted → Type 0
LenEnsures h r = of_counted r ≡ of_head h h.len

abbrev pub GetEnsures : RangeBitset → List ℕ → ℕ → Tested → Type 0
GetEnsures h st i r = Answers (point_refusal h (length st) i) h st (λ s. number (one (s i))) (of_tested r)

abbrev pub CountEnsures : RangeBitset → List ℕ → ℕ → ℕ → Counted → Type 0
CountEnsures h st a e r = Answers (range_refusal h (length st) e) h st (λ s. number (count s a e)) (of_counted r)

-- a run that is found lies in a..e, and has a position
abbrev pub Lies : ℕ → ℕ → Found → Type 0
Lies a e (Ok (Some r)) = (a ≤ r.start) × (r.start < r.end) × (r.end ≤ e)
Lies a e (Ok None) = Unit {0}
Lies a e (Err k) = Unit {0}

-- `next_one` and `next_zero`: the run of value v that starts first; on any memory it lies in a..e
pub record NextEnsures (v : Bool) (h : RangeBitset) (st : List ℕ) (a e : ℕ) (r : Found) : Type 0 where
  pub lies : Lies a e r
  pub query : Answers (range_refusal h (length st) e) h st (λ s. of_run (next_run s v a e)) (of_found r)

-- the n-th position, n from 0
abbrev pub SelectEnsures : RangeBitset → List ℕ → ℕ → Placed → Type 0
SelectEnsures h st n r = Answers (storage_refusal h (length st)) h st (λ s. of_place (select s n (capacity_of h))) (of_placed r)

abbrev pub AssignEnsures : RangeBitset → List ℕ → ℕ → ℕ → Bool → Assigned → List ℕ → Type 0
AssignEnsures h st a e v r st' =
    Changes (range_refusal h (length st) e) h st (λ s. number (changed_count s a e v)) (λ s. assigned s a e v) (v && nat_lt a e) (not v)
    (of_assigned r) (head_after h r) st'

-- one position: a range of length 1
abbrev pub SetEnsures : RangeBitset → List ℕ → ℕ → Bool → Updated → List ℕ → Type 0
SetEnsures h st i v r st' =
    Changes (point_refusal h (length st) i) h st (λ s. number (changed_count s i (suc i) v)) (λ s. assigned s i (suc i) v) v (not v)
    (of_updated r) (head_after h r) st'

-- every position: the flag is kept
abbrev pub ClearEnsures : RangeBitset → List ℕ → Assigned → List ℕ → Type 0
ClearEnsures h st r st' =
    Changes (storage_refusal h (length st)) h st (λ s. number (count s 0 (capacity_of h))) (λ s. none) false true
    (of_assigned r) (head_after h r) st'
