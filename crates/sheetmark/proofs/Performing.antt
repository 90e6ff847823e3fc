-- Laws of performing a command: each arm's promise from the call that it makes; a found start cut to 32 bits is the start.
-- Assumes nothing.
use Rattle.sheetmark.proofs.Kit.{◌≡◌, refl, sym, ap, ◌∙◌, subst, Bool, true, Some, is_some, List, ℕ, ◌^◌, ◌<◌, arith, length}
use Rattle.std.proofs.Common.{None, Ok, Err}
use Rattle.positions.specs.Runs.{next_run}
use Rattle.positions.specs.Replies.{of_run}
use Rattle.range_bitset.specs.Answers.{Found, of_found, range_refusal}
use Rattle.range_bitset.specs.Entries.{Lies, NextEnsures}
use Rattle.ledger.specs.Machine.{Call}
use Rattle.ledger.specs.Memory.{Memory, memory}
use Rattle.ledger.specs.Entries.{Called as Done, of_called, CalledEnsures}
use Rattle.ledger.specs.declared.Ledger.{Ledger}
use Rattle.answers.specs.Refusals.{head_after}
use Rattle.command_lines.specs.declared.Command.{Command}
use Rattle.command_lines.specs.declared.Answer.{Answer}
use Rattle.command_lines.specs.declared.Answer.TheVariants as answer
use Rattle.sheetmark.specs.declared.Performed.{Performed}
use Rattle.sheetmark.specs.Performing.{Calls, Asks, Performs, memory_of}
use Rattle.command_lines.specs.Answers.{answer_of, low32}

-- ---- the arm of a known command

pub performed : (k k' : Command) (live : Bool) (x : Memory) (a : Answer) (live' : Bool) (y : Memory) → k ≡ k' → Performs (Some k') live x a live' y
    → Performs (Some k) live x a live' y
performed k k' live x a live' y e p = subst (λ c. Performs (Some c) live x a live' y) (sym e) p

-- ---- a call of the ledger

pub by_call : (c : Call) (h : Ledger) (st j st' j' : List ℕ) (d : Done) (r : Performed)
    → (r.answer ≡ answer_of (of_called d)) × (r.ledger ≡ Some (head_after h d))
    → CalledEnsures c h st j st' j' d → Calls c (memory h st j) r.answer (is_some r.ledger) (memory_of r.ledger st' j')
by_call c h st j st' j' d r t e = rw t.1 (record { same_live = refl; reply = of_called d; called = e; told = t.0 })

-- ---- the queries

-- a run that is found in a range that ends below 2^32 starts there too, so that its 32 low bits are the number itself
low_same : (a e : ℕ) → e < 2 ^ 32 → (r : Found) → Lies a e r → answer_of (low32 (of_found r)) ≡ answer_of (of_found r)
low_same a e n (Ok (Some q)) l = ap answer.Number (omega (arith, l.1, l.2))
low_same a e n (Ok None) l = refl
low_same a e n (Err k) l = refl

pub by_search : (x : Memory) (a e : ℕ) (v : Bool) (p : Found) (r : Answer) → e < 2 ^ 32 → NextEnsures v x.head.set x.storage a e p → r ≡ answer_of (low32 (of_found p))
    → Asks (range_refusal x.head.set (length x.storage) e) x (λ s. of_run (next_run s v a e)) r true x
by_search x a e v p r n q t =
    record { same_live = refl; same = refl; reply = of_found p; answers = q.query; told = t ∙ low_same a e n p q.lies }
