-- A ledger's memory, and when it holds a machine's state: 01's sound ledger is one that holds some machine's. Assumes nothing.
use Rattle.std.specs.Prelude.{◌≡◌, ℕ, Bool, cond, ◌&&◌, List, length, take, ◌==◌, nat_le}
use Rattle.range_bitset.specs.Layout.{needed}
use Rattle.range_bitset.specs.Represents.{Represents, capacity_of}
use Rattle.range_bitset.specs.Answers.{good_head, first_of}
use Rattle.ledger.specs.Machine.{Machine, set_of, used, Call, range, back, wipe, Reachable}
use Rattle.ledger.specs.Journal.{journal_of}
use Rattle.ledger.specs.declared.Ledger.{Ledger}

-- the head, and the two lent slices' numbers
pub record Memory : Type 0 where
  pub head : Ledger
  pub storage : List ℕ
  pub journal : List ℕ

abbrev pub memory : Ledger → List ℕ → List ℕ → Memory
memory h st j = record { head = h; storage = st; journal = j }

-- ---- the refusals of 01's table, as far as the set's positions do not matter: 0 where a call passes them

-- 2: the set's head, J above 16,384, or U above J
unfoldable pub good_ledger : Ledger → Bool
good_ledger h = good_head h.set && (nat_le h.journal 16384 && nat_le h.used h.journal)

-- 3: n storage numbers and k journal numbers are enough for W words and a journal of j
unfoldable pub lent_enough : ℕ → ℕ → ℕ → ℕ → Bool
lent_enough W j n k = nat_le (needed W) n && nat_le j k

-- 2, then 3, for a call that needs j journal numbers
unfoldable pub refusal_for : Ledger → ℕ → ℕ → ℕ → ℕ
refusal_for h j n k = cond (good_ledger h) (cond (lent_enough h.set.words j n k) 0 3) 2

abbrev pub lent_refusal : Ledger → ℕ → ℕ → ℕ
lent_refusal h n k = refusal_for h h.journal n k

-- wipe is lent no journal
abbrev pub wipe_refusal : Ledger → ℕ → ℕ
wipe_refusal h n = refusal_for h 0 n 0

-- 4: an end above the capacity (a point p ends at p + 1); 5: take-back with U = 0
unfoldable pub call_refusal : Call → Memory → ℕ
call_refusal (range a e v) x =
    first_of (lent_refusal x.head (length x.storage) (length x.journal))
    (cond (nat_le e (capacity_of x.head.set)) 0 4)
call_refusal back x = first_of (lent_refusal x.head (length x.storage) (length x.journal)) (cond (x.head.used == 0) 5 0)
call_refusal wipe x = wipe_refusal x.head (length x.storage)

-- ---- the relation

-- the memory holds the machine's state: the set, and the journal that its standing calls give
pub record Holds (x : Memory) (m : Machine) : Type 0 where
  pub reachable : Reachable m
  pub lent : lent_refusal x.head (length x.storage) (length x.journal) ≡ 0
  pub capacity : capacity_of x.head.set ≡ m.capacity
  pub journal_length : x.head.journal ≡ m.journal
  pub in_use : x.head.used ≡ used m
  pub set : Represents x.head.set x.storage (set_of m)
  pub journal : take x.head.used x.journal ≡ journal_of m.opened m.standing
