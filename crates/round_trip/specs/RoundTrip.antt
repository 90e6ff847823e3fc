-- The round trips of a saved list, over what the writer and `open` promise: from a set to its file and back, and from a file to its set and
-- back. Assumes nothing.
use Rattle.std.specs.Prelude.{◌≡◌, cond, List, ◌++◌, ℕ, leb, ltb, length, take, drop, Result, Ok, Err}
use Rattle.positions.specs.Positions.{Positions, count}
use Rattle.positions.specs.Replies.{Reply, numbers, refused_with, number, refusal, Accepted}
use Rattle.range_bitset.specs.Represents.{Represents, capacity_of}
use Rattle.range_bitset.specs.Answers.{Counted, of_counted}
use Rattle.range_bitset.specs.declared.RangeBitset.{RangeBitset}
use Rattle.ledger.specs.Memory.{lent_enough}
use Rattle.saved_list.specs.Format.{Bytes}
use Rattle.ledger.specs.Entries.{Opened, of_opened, open_reply, OpenEnsures}
use Rattle.ledger.specs.declared.Ledger.{Ledger}
use Rattle.ledger.specs.declared.NotOpened.{NotOpened}
use Rattle.list_writer.specs.Entry.{write_reply, WriteEnsures}

-- ---- from a set to its file and back: r and st' are what opening the written file gave, for a head h and its set s

-- 1 for J, 3 for short slices, or 0
abbrev pub lent_reply : ℕ → ℕ → ℕ → ℕ → Reply
lent_reply W j n k = cond (leb j 16384) (cond (lent_enough W j n k) (number 0) (refusal 3)) (refusal 1)

pub record Reopens (h : RangeBitset) (s : Positions) (j : ℕ) (st journal : List ℕ) (r : Opened) (st' : List ℕ) : Type 0 where
  -- no other refusal
  pub refuses : of_opened r ≡ lent_reply h.words j (length st) (length journal)
  -- else the same capacity and the same positions, the flag clear exactly when there are none, and no call standing
  pub same_capacity : (l : Ledger) → r ≡ Ok l → capacity_of l.set ≡ capacity_of h
  pub same_positions : (l : Ledger) → r ≡ Ok l → Represents l.set st' s
  pub flag : (l : Ledger) → r ≡ Ok l → l.set.allocated ≡ ltb 0 (count s 0 (capacity_of h))
  pub no_calls : (l : Ledger) → r ≡ Ok l → (l.journal ≡ j) × (l.used ≡ 0)

-- the first round trip: whatever was written for a set, opening it gives the set back
abbrev pub SetAndBack : Type 0
SetAndBack =
    (h : RangeBitset) (st : List ℕ) (s : Positions) → Represents h st s
    → (file : List ℕ) (r : Counted) (file' : List ℕ) (n : ℕ) → WriteEnsures h st file r file' → of_counted r ≡ number n
    → (j : ℕ) (st₂ journal : List ℕ) (r₂ : Opened) (st₂' : List ℕ) → OpenEnsures (take n file') j st₂ journal r₂ st₂'
    → Reopens h s j st₂ journal r₂ st₂'

-- ---- from a file to its set and back: r and buffer' are what writing the opened set gave

pub record Rewrites (file buffer : List ℕ) (r : Counted) (buffer' : List ℕ) : Type 0 where
  -- the file's own length, or 9 where the buffer is shorter
  pub answers : of_counted r ≡ write_reply file (length buffer)
  -- the file's own bytes, and the rest of the buffer as it was
  pub agrees : Accepted (of_counted r) → buffer' ≡ file ++ drop (length file) buffer
  pub unchanged : (Accepted (of_counted r) → ⊥) → buffer' ≡ buffer

-- the second round trip: whatever was opened, writing it gives the file back
abbrev pub FileAndBack : Type 0
FileAndBack =
    (file : List ℕ) → Bytes file
    → (j : ℕ) (st journal : List ℕ) (l : Ledger) (st' : List ℕ) → OpenEnsures file j st journal (Ok l) st'
    → (buffer : List ℕ) (r : Counted) (buffer' : List ℕ) → WriteEnsures l.set st' buffer r buffer'
    → Rewrites file buffer r buffer'

-- ---- both in one function: opening's refusal, and else what writing answers

abbrev pub then : Reply → Reply → Reply
then (numbers ns) next = next
then (refused_with k vs) next = refused_with k vs

-- the length that was written, or why nothing was
abbrev pub of_written : Result ℕ NotOpened → Reply
of_written (Ok n) = number n
of_written (Err why) = of_opened (Err why)

-- n storage numbers and k journal numbers are lent
pub record Agrees (file : List ℕ) (j n k : ℕ) (buffer : List ℕ) (r : Result ℕ NotOpened) (buffer' : List ℕ) : Type 0 where
  pub answers : of_written r ≡ then (open_reply file j n k) (write_reply file (length buffer))
  pub agrees : Accepted (of_written r) → buffer' ≡ file ++ drop (length file) buffer
  pub unchanged : (Accepted (of_written r) → ⊥) → buffer' ≡ buffer
