-- What answering lines promises: each line's command performed in turn, and the answers' text in the output; for a part of the
-- input, for the input's end, and for what a read gave. Assumes nothing.
use Rattle.std.specs.Prelude.{◌≡◌, Bool, Option, is_some, List, [], ◌∷◌, ◌++◌, ℕ, ◌<◌, length}
use Rattle.ledger.specs.Memory.{Memory}
use Rattle.command_lines.specs.declared.Answer.{Answer}
use Rattle.command_lines.specs.Lines.{meaning}
use Rattle.command_lines.specs.Answers.{printed}
use Rattle.command_lines.specs.Input.{unended, lines_from, HoldsLine}
use Rattle.ledger.specs.declared.Ledger.{Ledger}
use Rattle.sheetmark.specs.Performing.{Performs, memory_of}

-- whether there is a ledger, and its memory
pub record State : Type 0 where
  pub live : Bool
  pub ledger : Memory

abbrev pub state : Option Ledger → List ℕ → List ℕ → State
state o st j = record { live = is_some o; ledger = memory_of o st j }

-- ---- lines

-- a line answered: the command that its bytes mean is performed, with the answer a
pub record AnswersLine (bytes : List ℕ) (s : State) (a : Answer) (t : State) : Type 0 where
  pub performs : Performs (meaning bytes) s.live s.ledger a t.live t.ledger
  pub same_storage : length t.ledger.storage ≡ length s.ledger.storage
  pub same_journal : length t.ledger.journal ≡ length s.ledger.journal

-- lines answered one after the other; `rs` are the answers
pub data Serves : State → List (List ℕ) → List Answer → State → Type 0 where
  none : {s : State} → Serves s [] [] s
  line : {s t u : State} {l : List ℕ} {ls : List (List ℕ)} {a : Answer} {rs : List Answer}
      → AnswersLine l s a t → Serves t ls rs u → Serves s (l ∷ ls) (a ∷ rs) u

-- the text of a list of answers, each with its newline
abbrev pub texts : List Answer → List ℕ
texts [] = []
texts (a ∷ rs) = printed a ++ texts rs

-- ---- parts of the input. `out` is what stands in the output afterwards

-- a part, where the bytes l of a line came before it: the lines that end in the part are answered, and the bytes `rest` of an
-- unfinished one are left. `cut` says which these are, whatever more is to come
pub record Part (text l : List ℕ) (s t : State) (out rest : List ℕ) : Type 0 where
  pub finished : List (List ℕ)
  pub answers : List Answer
  pub cut : (more : List ℕ) → lines_from l (text ++ more) ≡ finished ++ lines_from rest more
  pub serves : Serves s finished answers t
  pub output : out ≡ texts answers

-- the input's end, where the bytes l of a line came before it: they are a line, unless there are none
pub record End (l : List ℕ) (s t : State) (out : List ℕ) : Type 0 where
  pub answers : List Answer
  pub serves : Serves s (unended l) answers t
  pub output : out ≡ texts answers

-- ---- the same where the line buffer, of 32 bytes, holds the bytes of the line

abbrev pub Kept : List ℕ → List ℕ → Type 0
Kept held l = HoldsLine 32 held l

pub record PartAnswered (text l : List ℕ) (s t : State) (out held : List ℕ) : Type 0 where
  pub rest : List ℕ
  pub part : Part text l s t out rest
  pub holds : Kept held rest

-- what a read gave: a part of the input or, where it gave nothing, the input's end
pub record ReadAnswered (text l : List ℕ) (s t : State) (out held : List ℕ) : Type 0 where
  pub some : 0 < length text → PartAnswered text l s t out held
  pub nothing : length text ≡ 0 → End l s t out
