-- The contract of an inner function. Nothing here need be believed: the promises of the program speak of none of it. Assumes
-- nothing.
use Rattle.std.specs.Prelude.{◌≡◌, List, ℕ, ◌+◌, ◌++◌, ◌≤◌, length}
use Rattle.command_lines.specs.declared.Answer.{Answer}
use Rattle.command_lines.specs.Answers.{printed}
use Rattle.sheetmark.specs.Answering.{State, AnswersLine}

-- a line answered, and its answer's text put behind what stands in the output
pub record LineAnswered (bytes : List ℕ) (s t : State) (out out' : List ℕ) : Type 0 where
  pub answer : Answer
  pub answers : AnswersLine bytes s answer t
  pub output : out' ≡ out ++ printed answer
  pub most : length out' ≤ length out + 12
