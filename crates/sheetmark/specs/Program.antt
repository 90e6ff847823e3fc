-- 01's `sheetmark`, plainly: what is printed for an input, by the ledger's plain machine alone; and when a run of the program
-- follows it. Assumes nothing.
use Rattle.std.specs.Prelude.{◌≡◌, Bool, true, false, ◌&&◌, cond, Option, Some, None, List, [], ◌∷◌, ◌++◌, ℕ, ◌-◌, ◌^◌, ◌≤◌, ◌<◌, leb, length}
use Rattle.positions.specs.Positions.{count, first}
use Rattle.positions.specs.Replies.{Reply, number, refusal, of_place}
use Rattle.range_bitset.specs.Answers.{allowed_capacity}
use Rattle.ledger.specs.Machine.{Machine, fresh, set_of, Call, range, back, wipe, step}
use Rattle.ledger.specs.Memory.{Memory, memory, Holds}
use Rattle.ledger.specs.declared.Ledger.{Ledger}
use Rattle.command_lines.specs.declared.Command.{Command}
use Rattle.command_lines.specs.declared.Command.TheVariants as command
use Rattle.command_lines.specs.declared.Answer.{Answer}
use Rattle.command_lines.specs.declared.Answer.TheVariants as answer
use Rattle.command_lines.specs.Lines.{meaning}
use Rattle.command_lines.specs.Input.{lines, lines_from}
use Rattle.command_lines.specs.Answers.{answer_of}
use Rattle.sheetmark.specs.Answering.{State, texts, Part, End}

-- ---- the plain program

-- the present ledger, as its machine; before an accepted `new` there is none
pub data Present : Type 0 where
  no_ledger : Present
  with_machine : Machine → Present

-- what is printed for a command, and the present ledger afterwards
pub record Response : Type 0 where
  pub answer : Answer
  pub next : Present

-- `new` prints 0 and starts a fresh ledger; a refused one keeps the present ledger
abbrev pub started : Present → ℕ → ℕ → Response
started p capacity j =
    cond (allowed_capacity capacity && leb j 16384) (record { answer = answer.Number 0; next = with_machine (fresh capacity j) })
    (record { answer = answer.Refused 1; next = p })

-- a call of the machine; a question about its set, refused 4 where the end is above the capacity. Of the run that a search finds the start
-- alone is printed, so it asks for the first position
abbrev pub called : Call → Machine → Response
called c m = record { answer = answer_of (step m c).answer; next = with_machine (step m c).next }

abbrev pub asked : ℕ → Reply → Machine → Response
asked e r m = record { answer = answer_of (cond (leb e m.capacity) r (refusal 4)); next = with_machine m }

-- a command before an accepted `new` is a bad line
abbrev pub of_present : Present → (Machine → Response) → Response
of_present no_ledger f = record { answer = answer.BadLine; next = no_ledger }
of_present (with_machine m) f = f m

abbrev pub respond : Option Command → Present → Response
respond (Some (command.New capacity j)) p = started p capacity j
respond (Some (command.Mark s e)) p = of_present p (called (range s e true))
respond (Some (command.Clear s e)) p = of_present p (called (range s e false))
respond (Some (command.Count s e)) p = of_present p (λ m. asked e (number (count (set_of m) s e)) m)
respond (Some (command.One s e)) p = of_present p (λ m. asked e (of_place (first (set_of m) true s e)) m)
respond (Some (command.Zero s e)) p = of_present p (λ m. asked e (of_place (first (set_of m) false s e)) m)
respond (Some command.Back) p = of_present p (called back)
respond (Some command.Wipe) p = of_present p (called wipe)
respond None p = record { answer = answer.BadLine; next = p }

-- the answers to a list of lines, in their order, and the present ledger after them
abbrev pub responses : Present → List (List ℕ) → List Answer
responses p [] = []
responses p (l ∷ ls) = (respond (meaning l) p).answer ∷ responses (respond (meaning l) p).next ls

abbrev pub present_after : Present → List (List ℕ) → Present
present_after p [] = p
present_after p (l ∷ ls) = present_after (respond (meaning l) p).next ls

-- what the program prints for an input
abbrev pub output_for : List ℕ → List ℕ
output_for input = texts (responses no_ledger (lines input))

-- ---- a run of the program

-- the program's state is that of the plain program, and it is lent enough for every ledger
abbrev pub Follows : Present → Bool → Memory → Type 0
Follows no_ledger live x = live ≡ false
Follows (with_machine m) live x = (live ≡ true) × Holds x m

pub record Lent (x : Memory) : Type 0 where
  pub storage : 4290 ≤ length x.storage
  pub journal : 16384 ≤ length x.journal

-- parts of an input, each a byte at least, read and answered one after the other from s on: what stood in the output after
-- each part, and the bytes of a line that are left
pub data Reading : State → List (List ℕ) → List (List ℕ) → State → List ℕ → Type 0 where
  none : {s : State} → Reading s [] [] s []
  part : {s t u : State} {parts outs : List (List ℕ)} {l text out rest : List ℕ}
      → Reading s parts outs t l → 0 < length text → Part text l t u out rest → Reading s (parts ++ (text ∷ [])) (outs ++ (out ∷ [])) u rest

-- a whole run: the parts of the input, then its end
pub data Run : State → List (List ℕ) → List (List ℕ) → State → Type 0 where
  end : {s t u : State} {parts outs : List (List ℕ)} {l out : List ℕ}
      → Reading s parts outs t l → End l t u out → Run s parts (outs ++ (out ∷ [])) u

-- what the parts, or the outputs, are together
abbrev pub joined : List (List ℕ) → List ℕ
joined [] = []
joined (t ∷ ts) = t ++ joined ts

-- for every input and however it comes in parts: the bytes that stand in the output after each part and after the end are
-- together what the plain program prints
abbrev pub RunsAsPlain : Type 0
RunsAsPlain =
    (s t : State) (parts outs : List (List ℕ)) → s.live ≡ false → Lent s.ledger → Run s parts outs t
    → joined outs ≡ output_for (joined parts)

-- and at once: after any number of parts they are the answers to the lines that have ended, whatever more is to come
pub record Answered (parts outs : List (List ℕ)) (l : List ℕ) : Type 0 where
  pub finished : List (List ℕ)
  pub cut : (more : List ℕ) → lines (joined parts ++ more) ≡ finished ++ lines_from l more
  pub output : joined outs ≡ texts (responses no_ledger finished)

abbrev pub AnswersAtOnce : Type 0
AnswersAtOnce =
    (s t : State) (parts outs : List (List ℕ)) (l : List ℕ) → s.live ≡ false → Lent s.ledger → Reading s parts outs t l
    → Answered parts outs l

-- what `serve` has done when it returns, from no ledger on: a whole run. Or it was given an input of 2^64 - 1 bytes or more
pub data Served (storage journal : List ℕ) : State → Type 0 where
  ended : {h : Ledger} {t : State} {parts outs : List (List ℕ)}
      → Run (record { live = false; ledger = memory h storage journal }) parts outs t → Served storage journal t
  too_long : {h : Ledger} {t : State} {parts outs : List (List ℕ)} {l : List ℕ}
      → Reading (record { live = false; ledger = memory h storage journal }) parts outs t l → 2 ^ 64 - 1 ≤ length (joined parts) → Served storage journal t
