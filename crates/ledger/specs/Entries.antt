-- The ledger's promises: what new and open give, and the one promise of marking, clearing, take-back and wipe. Assumes nothing.
use Rattle.std.specs.Prelude.{◌≡◌, ℕ, ◌+◌, ◌-◌, ◌/◌, ◌<◌, ◌≤◌, Bool, true, false, cond, not, ◌&&◌, ◌||◌, ◌⊎◌, List, [], ◌∷◌, length, ◌==◌, ◌≢◌, nat_le, nat_lt, slice_index, Result, Ok, Err}
use Rattle.range_bitset.specs.Layout.{SamePast}
use Rattle.positions.specs.Positions.{Positions}
use Rattle.range_bitset.specs.Represents.{Represents}
use Rattle.positions.specs.Replies.{Reply, numbers, refused_with, number, refusal, refused, Accepted}
use Rattle.answers.specs.Refusals.{number_of, of_result, answer_in, head_after}
use Rattle.answers.specs.declared.Refusal.{Refusal}
use Rattle.answers.specs.declared.Refusal.TheVariants.{Size, Short}
use Rattle.answers.specs.declared.Changed.{Changed}
use Rattle.range_bitset.specs.Answers.{of_counted, allowed_capacity}
use Rattle.saved_list.specs.Format.{saved_words, saved_count, saved_capacity, saved_positions, headed, whole, first_bad_run}
use Rattle.ledger.specs.Machine.{Machine, Standing, opened_with, Call, range, back, wipe, numbers_for, need_of, step}
use Rattle.ledger.specs.Memory.{Memory, memory, lent_enough, call_refusal, Holds}
use Rattle.ledger.specs.declared.Ledger.{Ledger}
use Rattle.ledger.specs.declared.NotOpened.{NotOpened}
use Rattle.ledger.specs.declared.NotOpened.TheVariants as why

-- ---- marking, clearing, take-back and wipe

-- a marking or a clearing
abbrev pub ranges : Call → Bool
ranges (range a e v) = true
ranges back = false
ranges wipe = false

-- how many journal numbers a call needs over the set s: only a marking or a clearing needs any
abbrev pub call_need : Call → Positions → ℕ
call_need (range a e v) s = need_of s a e v
call_need back s = 0
call_need wipe s = 0

-- how many it can need at most, whatever the set: two runs have a position between them, so that n positions have at most
-- (n + 1) / 2 runs (law `need_most` in proofs/RecordedRuns)
abbrev pub most_need : Call → ℕ
most_need (range a e v) = numbers_for ((e - a + 1) / 2)
most_need back = 0
most_need wipe = 0

-- the last standing call is a clearing, so that taking it back sets positions
abbrev pub restores : List Standing → Bool
restores [] = false
restores (c ∷ cs) = not c.value

-- 01's flag after a call: an accepted marking over at least one position sets it, every other call keeps it. (Take-back that
-- sets positions needs it set. From new or open it then is, law `flag_kept_after` in proofs/Flags; a memory that holds the same
-- machine with the flag clear gets it set.)
abbrev pub flag_after : Bool → Machine → Call → Reply → Bool
flag_after x m (range a e v) (numbers ns) = x || (v && nat_lt a e)
flag_after x m (range a e v) (refused_with k vs) = x
flag_after x m back (numbers ns) = x || restores m.standing
flag_after x m back (refused_with k vs) = x
flag_after x m wipe r = x

pub record CallEnsures (c : Call) (before : Memory) (r : Reply) (next : Memory) : Type 0 where
  -- on any memory: 2, 3, 4 and 5 exactly as the table has them; 6 is the only other refusal, and only of a marking or clearing
  pub refuses : (call_refusal c before ≢ 0) → r ≡ refusal (call_refusal c before)
  pub only_6 : call_refusal c before ≡ 0 → Accepted r ⊎ ((r ≡ refusal 6) × (ranges c ≡ true))
  -- 6 for want of numbers alone, whatever the journal holds: for every set that the memory represents; and on any memory never
  -- where the call can't need more than are left
  pub exactly_6 : call_refusal c before ≡ 0 → (s : Positions) → Represents before.head.set before.storage s
      → refused r ≡ cond (nat_le (call_need c s) (before.head.journal - before.head.used)) 0 6
  pub short_6 : call_refusal c before ≡ 0 → most_need c ≤ before.head.journal - before.head.used → Accepted r
  -- a refused call changes nothing
  pub unchanged : (Accepted r → ⊥) → next ≡ before
  -- W and J stay, and an accepted call leaves U within J
  pub same_words : next.head.set.words ≡ before.head.set.words
  pub same_limit : next.head.journal ≡ before.head.journal
  pub used_most : Accepted r → next.head.used ≤ next.head.journal
  -- storage past the numbers that the head afterwards needs, and journal numbers outside old U to new U, are as they were
  pub storage_kept : SamePast next.head.set.words before.storage next.storage
  pub journal_kept : (i : ℕ) → (i < before.head.used) ⊎ (next.head.used ≤ i) → slice_index next.journal i ≡ slice_index before.journal i
  -- on a sound ledger: the machine's answer, and the machine's next state
  pub answers : (m : Machine) → Holds before m → r ≡ (step m c).answer
  pub holds : (m : Machine) → Holds before m → Holds next (step m c).next
  pub flag : (m : Machine) → Holds before m → next.head.set.allocated ≡ flag_after before.head.set.allocated m c r

-- what a call answers: a count and the next head, or why it is refused, with the head as it was
abbrev pub Called : Type 0
Called = Result (Changed ℕ Ledger) Refusal

abbrev pub of_called : Called → Reply
of_called r = of_counted (answer_in r)

-- the same of what an entry answers, with the numbers of the lent slices before and after
abbrev pub CalledEnsures : Call → Ledger → List ℕ → List ℕ → List ℕ → List ℕ → Called → Type 0
CalledEnsures c h st j st' j' r = CallEnsures c (memory h st j) (of_called r) (memory (head_after h r) st' j')

-- ---- new and open

-- 0, or the refusal: 8 with the first bad run's index
abbrev pub Opened : Type 0
Opened = Result Ledger NotOpened

abbrev pub of_opened : Opened → Reply
of_opened (Ok h) = number 0
of_opened (Err (why.Refused k)) = refusal (number_of k)
of_opened (Err (why.BadRun i)) = refused_with 8 (i ∷ [])

abbrev pub of_new : Result Ledger Refusal → Reply
of_new r = of_result (λ h. number 0) r

abbrev pub new_head : ℕ → ℕ → Bool → Ledger
new_head W j x = record { set = record { words = W; len = 0; allocated = x }; journal = j; used = 0 }

-- 1, then 3, or the head of a fresh ledger: its flag clear and U = 0
unfoldable pub new_of : ℕ → ℕ → ℕ → ℕ → Result Ledger Refusal
new_of capacity j n k =
    cond (allowed_capacity capacity && nat_le j 16384)
    (cond (lent_enough (capacity / 64) j n k) (Ok (new_head (capacity / 64) j false)) (Err Short)) (Err Size)

-- 7 but for the length, 1, 7 for the length, 3, 8 with the first bad run's index
unfoldable pub open_reply : List ℕ → ℕ → ℕ → ℕ → Reply
open_reply file j n k =
    cond (headed file)
    (cond (allowed_capacity (saved_capacity file) && nat_le j 16384)
    (cond (whole file)
    (cond (lent_enough (saved_words file) j n k)
    (cond (nat_lt (first_bad_run file) (saved_count file)) (refused_with 8 (first_bad_run file ∷ [])) (number 0)) (refusal 3)) (refusal 7)) (refusal 1)) (refusal 7)

-- on any memory: refused exactly so, and then nothing is changed; storage past the needed numbers never is; an accepted
-- call gives a ledger that holds the file's set and no calls, its flag clear exactly when n = 0
pub record OpenEnsures (file : List ℕ) (j : ℕ) (st journal : List ℕ) (r : Opened) (st' : List ℕ) : Type 0 where
  pub refuses : of_opened r ≡ open_reply file j (length st) (length journal)
  pub unchanged : (Accepted (of_opened r) → ⊥) → st' ≡ st
  pub storage_kept : SamePast (saved_words file) st st'
  pub holds : (h : Ledger) → r ≡ Ok h → Holds (memory h st' journal) (opened_with (saved_capacity file) j (saved_positions file))
  pub flag : (h : Ledger) → r ≡ Ok h → h.set.allocated ≡ not (saved_count file == 0)
