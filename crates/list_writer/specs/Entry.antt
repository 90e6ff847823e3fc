-- The writer's promise. `st` is the storage that it is lent, `file` the buffer at entry and `file'` at exit. Assumes nothing.
use Rattle.std.specs.Prelude.{◌≡◌, ◌⊎◌, cond, List, ◌++◌, ℕ, ◌+◌, ◌*◌, ◌≤◌, leb, length, drop}
use Rattle.positions.specs.Positions.{Positions}
use Rattle.positions.specs.Runs.{runs}
use Rattle.positions.specs.Replies.{Reply, number, refusal, Accepted}
use Rattle.range_bitset.specs.Represents.{Represents, capacity_of}
use Rattle.range_bitset.specs.Answers.{Counted, of_counted, storage_refusal, first_of}
use Rattle.range_bitset.specs.declared.RangeBitset.{RangeBitset}
use Rattle.saved_list.specs.Format.{file_of}

-- the saved list of a set of this head
abbrev pub file_for : RangeBitset → Positions → List ℕ
file_for h s = file_of (capacity_of h) (runs s 0 (capacity_of h))

-- a buffer of n bytes has room for these: their length, else refusal 9
unfoldable pub write_reply : List ℕ → ℕ → Reply
write_reply bytes n = cond (leb (length bytes) n) (number (length bytes)) (refusal 9)

-- 2, then 3, then 9 where a buffer of k bytes has no room for the header
unfoldable pub write_refusal : RangeBitset → ℕ → ℕ → ℕ
write_refusal h n k = first_of (storage_refusal h n) (cond (leb 11 k) 0 9)

pub record WriteEnsures (h : RangeBitset) (st file : List ℕ) (r : Counted) (file' : List ℕ) : Type 0 where
  -- on any memory: 2 and 3 exactly as the table has them, and 9 where the header does not fit; 9 is the only other refusal, and
  -- there is none where a run for every second position fits
  pub refuses : (write_refusal h (length st) (length file) ≡ 0 → ⊥) → of_counted r ≡ refusal (write_refusal h (length st) (length file))
  pub only_9 : write_refusal h (length st) (length file) ≡ 0 → Accepted (of_counted r) ⊎ (of_counted r ≡ refusal 9)
  pub long_9 : storage_refusal h (length st) ≡ 0 → 11 + 4 * capacity_of h ≤ length file → Accepted (of_counted r)
  -- a refused call writes nothing, and an accepted one nothing at or past the length that it answers, which lies in the buffer
  pub unchanged : (Accepted (of_counted r) → ⊥) → file' ≡ file
  pub same_length : length file' ≡ length file
  pub inside : (n : ℕ) → of_counted r ≡ number n → n ≤ length file
  pub file_kept : (n : ℕ) → of_counted r ≡ number n → drop n file' ≡ drop n file
  -- for every set that the memory represents: the length of its saved list, or 9 where the buffer is shorter; and those bytes
  pub answers : storage_refusal h (length st) ≡ 0 → (s : Positions) → Represents h st s → of_counted r ≡ write_reply (file_for h s) (length file)
  pub writes : Accepted (of_counted r) → (s : Positions) → Represents h st s → file' ≡ file_for h s ++ drop (length (file_for h s)) file
