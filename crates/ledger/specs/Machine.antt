-- 01's plain machine of the ledger, in the order of its sentences: what it keeps, its set, what a call changes and needs,
-- what is refused, what is answered, and where it stands afterwards. It is fed the capacity or the file's set, then J and
-- each call's kind and numbers, and nothing of the program's record. Assumes nothing.
use Rattle.std.specs.Prelude.{◌≡◌, ℕ, suc, ◌+◌, ◌-◌, ◌*◌, ◌<◌, ◌≤◌, Bool, true, false, cond, List, [], ◌∷◌, length, ◌==◌, nat_le, nat_lt}
use Rattle.positions.specs.Positions.{Positions, none, assigned, count, changed_count, differ}
use Rattle.positions.specs.Runs.{changed_runs}
use Rattle.positions.specs.Replies.{Reply, number, refusal}

-- 01's standing call: start, end, value, with its changed count and the journal numbers that it needed when made
pub record Standing : Type 0 where
  pub start : ℕ
  pub end : ℕ
  pub value : Bool
  pub changed : ℕ
  pub needed : ℕ

-- what the machine keeps; the last call made stands first in the list
pub record Machine : Type 0 where
  pub capacity : ℕ
  pub journal : ℕ
  pub opened : Positions
  pub standing : List Standing

-- opened: the file's set, no calls
abbrev pub opened_with : ℕ → ℕ → Positions → Machine
opened_with capacity j o = record { capacity = capacity; journal = j; opened = o; standing = [] }

-- fresh: opened set and list empty
abbrev pub fresh : ℕ → ℕ → Machine
fresh capacity j = opened_with capacity j none

-- the calls: giving a range a value (marking: true, clearing: false), take-back, wipe
pub data Call : Type 0 where
  range : ℕ → ℕ → Bool → Call
  back : Call
  wipe : Call

-- a point call is one of length 1
abbrev pub point : ℕ → Bool → Call
point p v = range p (suc p) v

-- a position has the value of the last standing call that covers it, or, where none covers it, the opened set's
abbrev pub held : Positions → List Standing → Positions
held o [] = o
held o (c ∷ cs) = assigned (held o cs) c.start c.end c.value

unfoldable pub set_of : Machine → Positions
set_of m = held m.opened m.standing

-- its population is how many it has
unfoldable pub population : Machine → ℕ
population m = count (set_of m) 0 m.capacity

-- how many journal numbers n runs need: 1 + 2 × runs, and none where there is no run
abbrev pub numbers_for : ℕ → ℕ
numbers_for n = cond (n == 0) 0 (1 + 2 * n)

-- a call changes the covered positions that do not have its value yet, and needs the numbers for the runs that it changes
unfoldable pub need_of : Positions → ℕ → ℕ → Bool → ℕ
need_of s a e v = numbers_for (length (changed_runs s a e v))

-- the call as it stands once made over the set s
unfoldable pub standing_call : Positions → ℕ → ℕ → Bool → Standing
standing_call s a e v = record { start = a; end = e; value = v; changed = changed_count s a e v; needed = need_of s a e v }

-- the needs of all standing calls
abbrev pub needs : List Standing → ℕ
needs [] = 0
needs (c ∷ cs) = c.needed + needs cs

unfoldable pub used : Machine → ℕ
used m = needs m.standing

-- ---- what is refused

pub data Verdict : Type 0 where
  admitted : Verdict
  declined : ℕ → Verdict

abbrev pub unless : Bool → ℕ → Verdict → Verdict
unless true k next = next
unless false k next = declined k

-- not within capacity: 4; needing more than J less the needs of all standing calls: 6
unfoldable pub range_verdict : Machine → ℕ → ℕ → Bool → Verdict
range_verdict m a e v =
    unless (nat_le e m.capacity) 4 (unless (nat_le (need_of (set_of m) a e v) (m.journal - used m)) 6 admitted)

-- take-back with no call standing: 5
abbrev pub stands_any : List Standing → Verdict
stands_any [] = declined 5
stands_any (c ∷ cs) = admitted

abbrev pub verdict : Machine → Call → Verdict
verdict m (range a e v) = range_verdict m a e v
verdict m back = stands_any m.standing
verdict m wipe = admitted

-- ---- what an accepted call answers

-- take-back: the last call's changed count
abbrev pub last_changed : List Standing → ℕ
last_changed [] = 0
last_changed (c ∷ cs) = c.changed

-- a marking or clearing: its changed count; wipe: the old population
abbrev pub amount : Machine → Call → ℕ
amount m (range a e v) = changed_count (set_of m) a e v
amount m back = last_changed m.standing
amount m wipe = population m

-- ---- the machine after an accepted call

abbrev pub with_standing : Machine → List Standing → Machine
with_standing m cs = record { capacity = m.capacity; journal = m.journal; opened = m.opened; standing = cs }

-- a call that changed no position does not stand
abbrev pub added : Standing → List Standing → List Standing
added c cs = cond (nat_lt 0 c.changed) (c ∷ cs) cs

abbrev pub rest : List Standing → List Standing
rest [] = []
rest (c ∷ cs) = cs

-- a marking or clearing is appended where it changes a position; take-back drops the last call; wipe empties opened set and list
abbrev pub next_of : Machine → Call → Machine
next_of m (range a e v) = with_standing m (added (standing_call (set_of m) a e v) m.standing)
next_of m back = with_standing m (rest m.standing)
next_of m wipe = fresh m.capacity m.journal

-- ---- one call, and a list of calls

pub record Step : Type 0 where
  pub next : Machine
  pub answer : Reply

-- a refused call leaves the machine as it is
abbrev pub decided : Verdict → Machine → Call → Step
decided admitted m c = record { next = next_of m c; answer = number (amount m c) }
decided (declined k) m c = record { next = m; answer = refusal k }

unfoldable pub step : Machine → Call → Step
step m c = decided (verdict m c) m c

-- a whole list: where the machine ends, and the answers in the calls' order
pub record Outcome : Type 0 where
  pub last : Machine
  pub answers : List Reply

abbrev pub noted : Reply → Outcome → Outcome
noted a o = record { last = o.last; answers = a ∷ o.answers }

unfoldable pub after : Machine → List Call → Outcome
after m [] = record { last = m; answers = [] }
after m (c ∷ cs) = noted (step m c).answer (after (step m c).next cs)

-- ---- demand 3's sum

-- the changed counts of the standing calls of one value, summed
abbrev pub changed_by : Bool → List Standing → ℕ
changed_by v [] = 0
changed_by v (c ∷ cs) = cond (differ c.value v) 0 c.changed + changed_by v cs

-- ---- the machines that a list of calls gives

-- a standing call is as it was made over the set s, lies within the capacity, and changed a position
pub record Stands (capacity : ℕ) (s : Positions) (c : Standing) : Type 0 where
  pub within : c.end ≤ capacity
  pub some : 0 < c.changed
  pub as_made : c ≡ standing_call s c.start c.end c.value

-- each standing call over the set that the calls before it give
abbrev pub StandAll : ℕ → Positions → List Standing → Type 0
StandAll capacity o [] = Unit {0}
StandAll capacity o (c ∷ cs) = Stands capacity (held o cs) c × StandAll capacity o cs

-- a machine that a list of calls gives: laws `reachable_after` and `reachable_reached` in proofs/Machines
pub record Reachable (m : Machine) : Type 0 where
  pub inside : (i : ℕ) → m.capacity ≤ i → m.opened i ≡ false
  pub standing : StandAll m.capacity m.opened m.standing
  pub room : needs m.standing ≤ m.journal
