-- What stands, on memory: a call that changes no position leaves a sound ledger as it was, and so an accepted take-back does
-- something. Both are theorems over `CallEnsures` (proofs/Backs). Assumes nothing.
use Rattle.std.specs.Prelude.{◌≡◌, ℕ, ◌≤◌, Bool, slice_index}
use Rattle.positions.specs.Positions.{Positions, count, changed_count, differ}
use Rattle.positions.specs.Replies.{Reply, number, Accepted}
use Rattle.range_bitset.specs.Represents.{Represents, capacity_of}
use Rattle.ledger.specs.Machine.{Machine, range, back, set_of}
use Rattle.ledger.specs.Memory.{Memory, Holds}
use Rattle.ledger.specs.Entries.{CallEnsures}

-- ---- a marking or clearing that changes no position

-- it is accepted, however full the journal is; the same calls stand, and no journal number is used or written
pub record LeavesAll (before : Memory) (m : Machine) (r : Reply) (next : Memory) : Type 0 where
  pub answers : r ≡ number 0
  pub holds : Holds next m
  pub in_use : next.head.used ≡ before.head.used
  pub journal : (i : ℕ) → slice_index next.journal i ≡ slice_index before.journal i

abbrev pub IdleLeavesAll : Type 0
IdleLeavesAll =
    (before next : Memory) (m : Machine) (r : Reply) (a e : ℕ) (v : Bool) → Holds before m → CallEnsures (range a e v) before r next
    → e ≤ m.capacity → changed_count (set_of m) a e v ≡ 0 → LeavesAll before m r next

-- ---- pressing back

-- how many positions below c two sets differ in
unfoldable pub differing : Positions → Positions → ℕ → ℕ
differing s t c = count (λ i. differ (s i) (t i)) 0 c

-- it answers at least 1, and between the set that the memory represents before and the one afterwards just so many positions differ
pub record TakesSome (before : Memory) (r : Reply) (next : Memory) : Type 0 where
  pub changed : ℕ
  pub some : 1 ≤ changed
  pub answers : r ≡ number changed
  pub changes : (s t : Positions) → Represents before.head.set before.storage s → Represents next.head.set next.storage t
      → differing s t (capacity_of before.head.set) ≡ changed

-- every accepted take-back on a sound ledger does
abbrev pub BackTakesSome : Type 0
BackTakesSome =
    (before next : Memory) (m : Machine) (r : Reply) → Holds before m → CallEnsures back before r next → Accepted r
    → TakesSome before r next
