-- The definitions compute: tables of good lines, of every kind of bad line, of answers and of inputs. Assumes nothing.
use Rattle.command_lines.proofs.Kit.{codes, ◌≡◌, refl, ap, Option, Some, None, List, [], ◌∷◌, ◌++◌, map, ℕ, lit<}
use Rattle.command_lines.specs.declared.Command.{Command}
use Rattle.command_lines.specs.declared.Command.TheVariants.{New, Mark, Clear, Count, One, Zero, Back, Wipe}
use Rattle.command_lines.specs.declared.Answer.{Answer}
use Rattle.command_lines.specs.declared.Answer.TheVariants.{Number, Nothing, Refused, BadLine}
use Rattle.command_lines.specs.Lines.{fields, meaning}
use Rattle.std.specs.Fmt.{digits as decimal_digits}
use Rattle.command_lines.specs.Answers.{digits_within, digits, printed}
use Rattle.command_lines.specs.Input.{lines_from, lines}
use Rattle.command_lines.proofs.Decimals.{digits_decimal}

record Case (A : Type 0) : Type 0 where
  given : A
  wanted : A

abbrev Right : {A : Type 0} → List (Case A) → Type 0
Right {A} cs = map (λ (c : Case A). c.given) cs ≡ map (λ (c : Case A). c.wanted) cs

-- ---- what a line means: good lines, then bad ones

abbrev line : List ℕ → Option Command → Case (Option Command)
line bytes c = record { given = meaning bytes; wanted = c }

abbrev line_cases : List (Case (Option Command))
line_cases =
    line (codes "new 128 20") (Some (New 128 20))
    ∷ line (codes "mark 10 70") (Some (Mark 10 70))
    ∷ line (codes "clear 20 30") (Some (Clear 20 30))
    ∷ line (codes "count 64 128") (Some (Count 64 128))
    ∷ line (codes "one 0 128") (Some (One 0 128))
    ∷ line (codes "zero 0 128") (Some (Zero 0 128))
    ∷ line (codes "back") (Some Back)
    ∷ line (codes "wipe") (Some Wipe)
    ∷ line (codes "count 4294967295 4294967295") (Some (Count 4294967295 4294967295))
    ∷ line (codes "one 0000000007 00") (Some (One 7 0))
    ∷ line (codes "mark 9 3") (Some (Mark 9 3))
    ∷ line [] None  -- the empty line
    ∷ line (codes "mark  1 2") None  -- a second space
    ∷ line (codes "mark 1  2") None  -- a second space between the numbers
    ∷ line (codes " mark 1 2") None  -- a space before the keyword
    ∷ line (codes "mark 1 2 ") None  -- a trailing space
    ∷ line (codes "back ") None  -- a trailing space after a keyword alone
    ∷ line (codes "back\r") None  -- a carriage return
    ∷ line (codes "mark -1 2") None  -- a minus
    ∷ line (codes "mark +1 2") None  -- a plus
    ∷ line (codes "one 00000000001 2") None  -- eleven digits
    ∷ line (codes "one 4294967296 2") None  -- 2^32
    ∷ line (codes "one 2 4294967296") None  -- 2^32 as the end
    ∷ line (codes "mark 1" ++ (0 ∷ []) ++ codes " 2") None  -- a NUL
    ∷ line (codes "marks 1 2") None  -- an unknown keyword
    ∷ line (codes "Mark 1 2") None  -- a capital
    ∷ line (codes "mark 1") None  -- one number
    ∷ line (codes "mark") None  -- no number
    ∷ line (codes "mark ") None  -- a space and no number
    ∷ line (codes "mark 1 2 3") None  -- three numbers
    ∷ line (codes "back 1") None  -- a number after a keyword that stands alone
    ∷ line (codes "mark\t1 2") None  -- a tab
    ∷ line (codes "mark 1 2x") None  -- a letter after a number
    ∷ line (codes "1 2") None  -- numbers alone
    ∷ line (codes " ") None  -- one space
    ∷ line (codes "mark 1 " ++ (194 ∷ 178 ∷ [])) None  -- a byte above 127
    ∷ line (codes "count 4294967295 04294967295") None  -- 28 bytes
    ∷ []

meanings : Right line_cases
unfolding fields
meanings = refl

-- ---- what is printed

abbrev answer : Answer → List ℕ → Case (List ℕ)
answer a bytes = record { given = printed a; wanted = bytes }

abbrev answer_cases : List (Case (List ℕ))
answer_cases =
    answer (Number 0) (codes "0\n")
    ∷ answer (Number 7) (codes "7\n")
    ∷ answer (Number 10) (codes "10\n")
    ∷ answer (Number 262144) (codes "262144\n")
    ∷ answer Nothing (codes "none\n")
    ∷ answer (Refused 5) (codes "refused 5\n")
    ∷ answer (Refused 255) (codes "refused 255\n")
    ∷ answer BadLine (codes "bad line\n")
    ∷ []

prints : Right answer_cases
unfolding digits digits_within
prints = refl

-- `4294967295`, whose digits are computed as the kit's
largest : printed (Number 4294967295) ≡ codes "4294967295\n"
unfolding decimal_digits
largest = ap (λ (l : List ℕ). l ++ (10 ∷ [])) (digits_decimal 4294967295 (lit< tt))

-- ---- the lines of an input

abbrev input : List ℕ → List (List ℕ) → Case (List (List ℕ))
input bytes ls = record { given = lines bytes; wanted = ls }

abbrev input_cases : List (Case (List (List ℕ)))
input_cases =
    input [] []  -- nothing is no line
    ∷ input (codes "\n") ([] ∷ [])  -- a newline ends an empty line
    ∷ input (codes "7") (codes "7" ∷ [])  -- a line that the input's end ends
    ∷ input (codes "7\n") (codes "7" ∷ [])  -- nothing after the last newline is no line
    ∷ input (codes "7\n\n8") (codes "7" ∷ [] ∷ codes "8" ∷ [])  -- an empty line between two
    ∷ []

split : Right input_cases
unfolding lines_from
split = refl
