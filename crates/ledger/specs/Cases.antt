-- 01's starred cases: one table, and one result that computes it over the definitions that the promises cite; and the numbers
-- that 01 gives in passing. Assumes nothing.
use Rattle.std.specs.Prelude.{◌≡◌, ℕ, ◌/◌, Bool, true, false, cond, Some, List, [], ◌∷◌, map, ◌==◌, refl}
use Rattle.std.specs.Int.Count.{ones}
use Rattle.positions.specs.Positions.{Positions, none, assigned, total, sum_over, count_from, count, first_from, first, changed_count}
use Rattle.positions.specs.Runs.{run, run_end, next_run, runs_from, runs, changed_runs}
use Rattle.range_bitset.specs.Layout.{allowed, needed}
use Rattle.positions.specs.Replies.{Reply, number, nothing, refusal, refused, of_run}
use Rattle.range_bitset.specs.Answers.{allowed_capacity, good_head, storage_refusal, range_refusal}
use Rattle.ledger.specs.Machine.{Machine, fresh, Call, range, back, set_of, population, need_of, standing_call, used, range_verdict, step, after}
use Rattle.ledger.specs.Journal.{written, journal_of}
use Rattle.ledger.specs.Memory.{lent_enough}
use Rattle.ledger.specs.Entries.{new_of, of_new}

-- ---- the set's calls, over a head of the capacity whose storage is just long enough

-- the table's refusal, or else the reply
unfoldable pub unless_refused : ℕ → Positions → ℕ → Reply → Reply
unless_refused capacity s e r = cond (k == 0) r (refusal k)
  where
    k : ℕ
    k = range_refusal (record { words = capacity / 64; len = count s 0 capacity; allocated = true }) (needed (capacity / 64)) e

abbrev pub searched : ℕ → Positions → Bool → ℕ → ℕ → Reply
searched capacity s v a e = unless_refused capacity s e (of_run (next_run s v a e))

pub data SetLine : Type 0 where
  assign_line : ℕ → ℕ → Bool → SetLine
  search_line : Bool → ℕ → ℕ → SetLine

-- a refused call leaves the set as it is
abbrev pub set_replies : ℕ → Positions → List SetLine → List Reply
set_replies capacity s [] = []
set_replies capacity s (assign_line a e v ∷ ls) =
    unless_refused capacity s e (number (changed_count s a e v))
    ∷ set_replies capacity (cond (refused (unless_refused capacity s e (number 0)) == 0) (assigned s a e v) s) ls
set_replies capacity s (search_line v a e ∷ ls) = searched capacity s v a e ∷ set_replies capacity s ls

-- ---- the ledger's

pub data Line : Type 0 where
  do_call : Call → Line
  count_line : ℕ → ℕ → Line
  next_line : Bool → ℕ → ℕ → Line
  used_line : Line

abbrev pub replies : Machine → List Line → List Reply
replies m [] = []
replies m (do_call c ∷ ls) = (step m c).answer ∷ replies (step m c).next ls
replies m (count_line a e ∷ ls) = unless_refused m.capacity (set_of m) e (number (count (set_of m) a e)) ∷ replies m ls
replies m (next_line v a e ∷ ls) = searched m.capacity (set_of m) v a e ∷ replies m ls
replies m (used_line ∷ ls) = number (used m) ∷ replies m ls

-- ---- the table

pub record Case : Type 0 where
  pub given : List Reply
  pub wanted : List Reply

abbrev of_set : ℕ → List SetLine → List Reply → Case
of_set capacity ls rs = record { given = set_replies capacity none ls; wanted = rs }

-- the first reply is that of `new`
abbrev of_ledger : ℕ → ℕ → List Line → List Reply → Case
of_ledger capacity j ls rs =
    record { given = of_new (new_of capacity j (needed (capacity / 64)) j) ∷ replies (fresh capacity j) ls; wanted = number 0 ∷ rs }

abbrev mark : ℕ → ℕ → Line
mark a e = do_call (range a e true)

abbrev clear : ℕ → ℕ → Line
clear a e = do_call (range a e false)

-- a search's run: 01 gives its start; its end is read off the calls before it
abbrev found : ℕ → ℕ → Reply
found a e = of_run (Some (run a e))

abbrev pub cases : List Case
cases =
    of_set 64 (assign_line 0 64 true ∷ search_line false 0 64 ∷ []) (number 64 ∷ nothing ∷ [])
    ∷ of_set 64 (search_line false 63 64 ∷ search_line true 63 64 ∷ []) (found 63 64 ∷ nothing ∷ [])
    ∷ of_set 128 (assign_line 63 65 true ∷ search_line true 0 128 ∷ search_line false 63 128 ∷ []) (number 2 ∷ found 63 65 ∷ found 65 128 ∷ [])
    ∷ of_set 64 (assign_line 10 20 true ∷ assign_line 10 20 true ∷ []) (number 10 ∷ number 0 ∷ [])
    ∷ of_set 64 (assign_line 0 65 true ∷ assign_line 500 0 true ∷ []) (refusal 4 ∷ number 0 ∷ [])
    ∷ of_ledger 64 2 (mark 0 1 ∷ []) (refusal 6 ∷ [])
    ∷ of_ledger 64 3 (mark 0 1 ∷ []) (number 1 ∷ [])
    ∷ of_ledger 64 1 (mark 5 5 ∷ used_line ∷ []) (number 0 ∷ number 0 ∷ [])
    ∷ of_ledger 128 20
    (mark 10 70
    ∷ clear 20 30
    ∷ mark 0 128
    ∷ next_line false 0 128
    ∷ count_line 64 128
    ∷ do_call back
    ∷ next_line true 0 128
    ∷ next_line false 10 128
    ∷ count_line 0 128
    ∷ do_call back
    ∷ do_call back
    ∷ do_call back
    ∷ [])
    (number 60
    ∷ number 10
    ∷ number 78
    ∷ nothing
    ∷ number 64
    ∷ number 78
    ∷ found 10 20
    ∷ found 20 30
    ∷ number 50
    ∷ number 10
    ∷ number 60
    ∷ refusal 5
    ∷ [])
    ∷ []

pub cases_right : map (λ (c : Case). c.given) cases ≡ map (λ (c : Case). c.wanted) cases
unfolding unless_refused assigned total sum_over count_from count first_from first run_end next_run changed_count runs_from runs changed_runs ones allowed allowed_capacity good_head storage_refusal range_refusal set_of population need_of standing_call used range_verdict step lent_enough new_of
cases_right = refl

-- 4,096 words need 4,290 numbers; the capacities 96 and 524,288 are refused 1
pub limits : (needed 4096 ≡ 4290) × (allowed_capacity 96 ≡ false) × (allowed_capacity 524288 ≡ false)
unfolding allowed_capacity allowed ones
limits = (refl, refl, refl)

-- the journal of the listing's first three calls: each call's runs, then 2 × runs + value
pub listing_journal : journal_of none (after (fresh 128 20) (range 10 70 true ∷ range 20 30 false ∷ range 0 128 true ∷ [])).last.standing
    ≡ 10 ∷ 70 ∷ 3 ∷ 20 ∷ 30 ∷ 2 ∷ 0 ∷ 10 ∷ 20 ∷ 30 ∷ 70 ∷ 128 ∷ 7 ∷ []
unfolding after written assigned total sum_over count_from count changed_count runs_from runs changed_runs set_of population need_of standing_call used range_verdict step
listing_journal = refl
