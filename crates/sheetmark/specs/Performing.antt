-- What performing a command promises: there is a reply of which the ledger's or the set's own promise holds, and its answer is
-- printed. Assumes nothing.
use Rattle.std.specs.Prelude.{◌≡◌, Bool, true, false, Option, Some, None, is_some, Result, Ok, Err, List, ℕ, length}
use Rattle.positions.specs.Positions.{Positions, count}
use Rattle.positions.specs.Runs.{next_run}
use Rattle.positions.specs.Replies.{Reply, number, of_run}
use Rattle.range_bitset.specs.Answers.{range_refusal}
use Rattle.range_bitset.specs.Entries.{Answers}
use Rattle.ledger.specs.Machine.{Call, range, back, wipe}
use Rattle.ledger.specs.Memory.{Memory, memory}
use Rattle.ledger.specs.Entries.{CallEnsures, new_of}
use Rattle.ledger.specs.declared.Ledger.{Ledger}
use Rattle.answers.specs.Refusals.{number_of}
use Rattle.answers.specs.declared.Refusal.{Refusal}
use Rattle.command_lines.specs.Answers.{answer_of}
use Rattle.command_lines.specs.declared.Command.{Command}
use Rattle.command_lines.specs.declared.Command.TheVariants as command
use Rattle.command_lines.specs.declared.Answer.{Answer}
use Rattle.command_lines.specs.declared.Answer.TheVariants as answer
use Rattle.sheetmark.specs.declared.Performed.{Performed}

-- `bad line` is printed, and nothing is changed
pub record IsBad (live : Bool) (x : Memory) (a : Answer) (live' : Bool) (y : Memory) : Type 0 where
  pub bad : a ≡ answer.BadLine
  pub same_live : live' ≡ live
  pub same : y ≡ x

-- `new`: 0 and a fresh ledger, also later in the input; a refused one keeps the present ledger
abbrev pub Starts : Result Ledger Refusal → Bool → Memory → Answer → Bool → Memory → Type 0
Starts (Ok h) live x a live' y = (a ≡ answer.Number 0) × (live' ≡ true) × (y ≡ memory h x.storage x.journal)
Starts (Err k) live x a live' y = (a ≡ answer.Refused (number_of k)) × (live' ≡ live) × (y ≡ x)

-- a call of the present ledger
pub record Calls (c : Call) (x : Memory) (a : Answer) (live' : Bool) (y : Memory) : Type 0 where
  pub same_live : live' ≡ true
  pub reply : Reply
  pub called : CallEnsures c x reply y
  pub told : a ≡ answer_of reply

-- a query of the present ledger's set: f is the reply on the plain set. What is printed is its first number, of a run the start
pub record Asks (k : ℕ) (x : Memory) (f : Positions → Reply) (a : Answer) (live' : Bool) (y : Memory) : Type 0 where
  pub same_live : live' ≡ true
  pub same : y ≡ x
  pub reply : Reply
  pub answers : Answers k x.head.set x.storage f reply
  pub told : a ≡ answer_of reply

-- before an accepted `new`, every other command is a bad line, as is a line that is no command
abbrev pub Performs : Option Command → Bool → Memory → Answer → Bool → Memory → Type 0
Performs (Some (command.New capacity j)) live x a live' y = Starts (new_of capacity j (length x.storage) (length x.journal)) live x a live' y
Performs (Some (command.Mark s e)) true x a live' y = Calls (range s e true) x a live' y
Performs (Some (command.Clear s e)) true x a live' y = Calls (range s e false) x a live' y
Performs (Some (command.Count s e)) true x a live' y =
    Asks (range_refusal x.head.set (length x.storage) e) x (λ p. number (count p s e)) a live' y
Performs (Some (command.One s e)) true x a live' y =
    Asks (range_refusal x.head.set (length x.storage) e) x (λ p. of_run (next_run p true s e)) a live' y
Performs (Some (command.Zero s e)) true x a live' y =
    Asks (range_refusal x.head.set (length x.storage) e) x (λ p. of_run (next_run p false s e)) a live' y
Performs (Some command.Back) true x a live' y = Calls back x a live' y
Performs (Some command.Wipe) true x a live' y = Calls wipe x a live' y
Performs (Some (command.Mark s e)) false x a live' y = IsBad false x a live' y
Performs (Some (command.Clear s e)) false x a live' y = IsBad false x a live' y
Performs (Some (command.Count s e)) false x a live' y = IsBad false x a live' y
Performs (Some (command.One s e)) false x a live' y = IsBad false x a live' y
Performs (Some (command.Zero s e)) false x a live' y = IsBad false x a live' y
Performs (Some command.Back) false x a live' y = IsBad false x a live' y
Performs (Some command.Wipe) false x a live' y = IsBad false x a live' y
Performs None live x a live' y = IsBad live x a live' y

-- the memory of a ledger, where there is one; before there is, its head is of zeros
abbrev pub memory_of : Option Ledger → List ℕ → List ℕ → Memory
memory_of (Some h) st j = memory h st j
memory_of None st j = memory (record { set = record { words = 0; len = 0; allocated = false }; journal = 0; used = 0 }) st j

-- the same of what a command leaves, together with the lent storage and journal, before and after
abbrev pub Leaves : Option Command → Option Ledger → List ℕ → List ℕ → Performed → List ℕ → List ℕ → Type 0
Leaves c o st j r st' j' = Performs c (is_some o) (memory_of o st j) r.answer (is_some r.ledger) (memory_of r.ledger st' j')
