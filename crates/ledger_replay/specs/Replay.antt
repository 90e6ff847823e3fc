-- Demand 3 once more, as the contract of code: a list of calls, run from a new or an opened ledger through the real entries, the
-- answers written into a lent slice. Assumes nothing.
use Rattle.std.specs.Prelude.{◌≡◌, true, false, cond, List, map, ℕ, min, eqb, length, take, drop, Result, Ok, Err, IfOk, OnErr}
use Rattle.positions.specs.Replies.{Reply}
use Rattle.range_bitset.specs.Answers.{Counted, of_counted}
use Rattle.answers.specs.declared.Refusal.{Refusal}
use Rattle.answers.specs.declared.Changed.{Changed}
use Rattle.saved_list.specs.Format.{saved_capacity, saved_positions}
use Rattle.ledger.specs.Machine.{Machine, fresh, opened_with, range, back, wipe, point, after}
use Rattle.ledger.specs.Machine as machine
use Rattle.ledger.specs.Memory.{Memory, memory}
use Rattle.ledger.specs.Entries.{new_of, of_new, of_opened, open_reply, OpenEnsures}
use Rattle.ledger.specs.History.{Chain, Agrees}
use Rattle.ledger.specs.declared.Ledger.{Ledger}
use Rattle.ledger.specs.declared.NotOpened.{NotOpened}
use Rattle.ledger_replay.specs.declared.Call.{Call}
use Rattle.ledger_replay.specs.declared.Call.TheVariants.{Mark, Clear, MarkPoint, ClearPoint, TakeBack, Wipe}

-- ---- the calls

-- what a call is to the machine
abbrev pub meant : Call → machine.Call
meant (Mark a e) = range a e true
meant (Clear a e) = range a e false
meant (MarkPoint i) = point i true
meant (ClearPoint i) = point i false
meant TakeBack = back
meant Wipe = wipe

-- the first n calls
abbrev pub calls_to : List Call → ℕ → List machine.Call
calls_to cs n = map meant (take n cs)

-- a call as a kind, a start and an end: 0 marks start..end and 1 clears it, 2 marks the point start and 3 clears it, 4 takes
-- back, any other kind wipes
abbrev pub call_of : ℕ → ℕ → ℕ → machine.Call
call_of k a e =
    cond (eqb k 0) (range a e true)
    (cond (eqb k 1) (range a e false) (cond (eqb k 2) (point a true) (cond (eqb k 3) (point a false) (cond (eqb k 4) back wipe))))

-- the replies of the first n answers
abbrev pub replies_to : List Counted → ℕ → List Reply
replies_to rs n = map of_counted (take n rs)

-- ---- the promise

-- n calls run from a ledger that new or open has just given (`Given`), the machine m fed the same: as many as there are and have room
-- for their answer, those answers alone written; the entries' own promises one after the other; and demand 3
pub record RanAll (Given : Memory → Type 0) (m : Machine) (cs : List Call) (answers : List Counted) (n : ℕ) (answers' : List Counted)
    (end : Memory) : Type 0 where
  pub all : n ≡ min (length cs) (length answers)
  pub others : drop n answers' ≡ drop n answers
  pub start : Memory
  pub given : Given start
  pub chain : Chain start (calls_to cs n) (replies_to answers' n) end
  pub agrees : Agrees (after m (calls_to cs n)) (replies_to answers' n) end

-- the head after the calls and how many were run, or why new or open refused
abbrev pub Replayed : Type 0 → Type 0
Replayed E = Result (Changed ℕ Ledger) E

-- what new or open answers: accepted where calls were run, or their refusal
abbrev pub of_replayed : {E : Type 0} → (Result Ledger E → Reply) → Replayed E → Reply
of_replayed f (Ok c) = f (Ok c.head)
of_replayed f (Err e) = f (Err e)

-- `reply` is that of new or open, which `f` gives: refused exactly so, and then nothing is changed; or all run
pub record Replays {E : Type 0} (f : Result Ledger E → Reply) (reply : Reply) (Given : Memory → Type 0) (m : Machine) (cs : List Call)
    (st journal : List ℕ) (answers : List Counted) (r : Replayed E) (st' journal' : List ℕ) (answers' : List Counted) : Type 0 where
  pub refuses : of_replayed f r ≡ reply
  pub unchanged : OnErr r ((st' ≡ st) × (journal' ≡ journal) × (answers' ≡ answers))
  pub ran : IfOk r (λ c. RanAll Given m cs answers c.answer answers' (memory c.head st' journal'))

-- from what new gives, lent st and journal: it writes neither
abbrev pub GivenByNew : ℕ → ℕ → List ℕ → List ℕ → Memory → Type 0
GivenByNew capacity j st journal x =
    (new_of capacity j (length st) (length journal) ≡ Ok x.head) × (x.storage ≡ st) × (x.journal ≡ journal)

abbrev pub ReplaysNew : ℕ → ℕ → List Call → List ℕ → List ℕ → List Counted → Replayed Refusal → List ℕ → List ℕ → List Counted → Type 0
ReplaysNew capacity j cs st journal answers r st' journal' answers' =
    Replays of_new (of_new (new_of capacity j (length st) (length journal))) (GivenByNew capacity j st journal) (fresh capacity j) cs
    st journal answers r st' journal' answers'

-- from what open gives, lent st and journal
abbrev pub GivenByOpen : List ℕ → ℕ → List ℕ → List ℕ → Memory → Type 0
GivenByOpen file j st journal x = OpenEnsures file j st journal (Ok x.head) x.storage × (x.journal ≡ journal)

abbrev pub ReplaysOpen : List ℕ → ℕ → List Call → List ℕ → List ℕ → List Counted → Replayed NotOpened → List ℕ → List ℕ → List Counted → Type 0
ReplaysOpen file j cs st journal answers r st' journal' answers' =
    Replays of_opened (open_reply file j (length st) (length journal)) (GivenByOpen file j st journal)
    (opened_with (saved_capacity file) j (saved_positions file)) cs st journal answers r st' journal' answers'
