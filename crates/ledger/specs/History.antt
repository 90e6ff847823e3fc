-- Demand 3: one statement about a whole list of calls, from what an accepted new or open has just given. Assumes nothing.
use Rattle.std.specs.Prelude.{◌≡◌, ℕ, ◌+◌, ◌<◌, ◌≤◌, true, false, List, [], ◌∷◌, length, Ok}
use Rattle.positions.specs.Positions.{count, one}
use Rattle.positions.specs.Runs.{next_run}
use Rattle.positions.specs.Replies.{Reply, number, of_run}
use Rattle.range_bitset.specs.Answers.{Counted, Tested, Found, of_counted, of_tested, of_found}
use Rattle.range_bitset.specs.Entries.{GetEnsures, CountEnsures, NextEnsures}
use Rattle.saved_list.specs.Format.{saved_capacity, saved_positions}
use Rattle.ledger.specs.Machine.{Machine, fresh, opened_with, Call, Outcome, after, set_of, population, used, changed_by}
use Rattle.ledger.specs.Memory.{Memory, memory}
use Rattle.ledger.specs.Entries.{CallEnsures, new_of, OpenEnsures}
use Rattle.ledger.specs.declared.Ledger.{Ledger}

-- what an accepted new or open has just given, and the plain machine fed the same
pub data Begun : Memory → Machine → Type 0 where
  by_new : {capacity j : ℕ} {h : Ledger} {st journal : List ℕ} → new_of capacity j (length st) (length journal) ≡ Ok h
      → Begun (memory h st journal) (fresh capacity j)
  by_open : {file : List ℕ} {j : ℕ} {h : Ledger} {st st' journal : List ℕ} → OpenEnsures file j st journal (Ok h) st'
      → Begun (memory h st' journal) (opened_with (saved_capacity file) j (saved_positions file))

-- a list of calls, each handed the memory as the call before left it, and what the entries promise of each
pub data Chain : Memory → List Call → List Reply → Memory → Type 0 where
  none : {x : Memory} → Chain x [] [] x
  call : {x y z : Memory} {c : Call} {r : Reply} {cs : List Call} {rs : List Reply}
      → CallEnsures c x r y → Chain y cs rs z → Chain x (c ∷ cs) (r ∷ rs) z

-- the answers, and what can be asked of the memory afterwards, agree with the plain machine's outcome
pub record Agrees (o : Outcome) (replies : List Reply) (x : Memory) : Type 0 where
  -- each call's answer
  pub answers : replies ≡ o.answers
  -- `get` at every position; `count` and both searches, their runs' starts and ends, over every start..end within capacity
  pub gets : (i : ℕ) → i < o.last.capacity → (r : Tested) → GetEnsures x.head.set x.storage i r
      → of_tested r ≡ number (one (set_of o.last i))
  pub counts : (a e : ℕ) → e ≤ o.last.capacity → (r : Counted) → CountEnsures x.head.set x.storage a e r
      → of_counted r ≡ number (count (set_of o.last) a e)
  pub ones : (a e : ℕ) → e ≤ o.last.capacity → (r : Found) → NextEnsures true x.head.set x.storage a e r
      → of_found r ≡ of_run (next_run (set_of o.last) true a e)
  pub zeros : (a e : ℕ) → e ≤ o.last.capacity → (r : Found) → NextEnsures false x.head.set x.storage a e r
      → of_found r ≡ of_run (next_run (set_of o.last) false a e)
  -- the head's population, the machine's and demand 3's sum; journal use
  pub population_agrees : x.head.set.len ≡ population o.last
  pub population_sum : x.head.set.len + changed_by false o.last.standing
      ≡ count o.last.opened 0 o.last.capacity + changed_by true o.last.standing
  pub use_agrees : x.head.used ≡ used o.last

-- demand 3
abbrev pub History : Type 0
History =
    (start : Memory) (m : Machine) → Begun start m
    → (calls : List Call) (replies : List Reply) (end : Memory) → Chain start calls replies end
    → Agrees (after m calls) replies end
