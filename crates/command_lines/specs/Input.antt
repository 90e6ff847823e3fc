-- How input falls into lines, and how a line is gathered in a buffer of fixed size. Assumes nothing.
use Rattle.std.specs.Prelude.{◌≡◌, Bool, true, false, cond, Option, Some, None, List, [], ◌∷◌, ◌++◌, ℕ, ◌+◌, min, max, length, take, drop, eqb}
use Rattle.std.proofs.lemmas.List.Edits.{sets}
use Rattle.command_lines.specs.declared.Gathered.{Gathered}

-- ---- lines

-- the last line, which no newline ends: nothing is no line
abbrev pub unended : List ℕ → List (List ℕ)
unended [] = []
unended (b ∷ l) = (b ∷ l) ∷ []

-- the lines of an input of which the bytes l of a line are read and the bytes t are to come
unfoldable pub lines_from : List ℕ → List ℕ → List (List ℕ)
lines_from l [] = unended l
lines_from l (b ∷ t) = cond (eqb b 10) (l ∷ lines_from [] t) (lines_from (l ++ (b ∷ [])) t)

-- the lines of an input
abbrev pub lines : List ℕ → List (List ℕ)
lines input = lines_from [] input

-- ---- one line of a text

-- the bytes before the first newline, or all
unfoldable pub up_to : List ℕ → List ℕ
up_to [] = []
up_to (b ∷ t) = cond (eqb b 10) [] (b ∷ up_to t)

-- there is a newline
unfoldable pub ends : List ℕ → Bool
ends [] = false
ends (b ∷ t) = cond (eqb b 10) true (ends t)

-- what a text is split into: the bytes up to the first newline, and what follows it
pub record Splits (text part : List ℕ) (rest : Option (List ℕ)) : Type 0 where
  pub before : part ≡ up_to text
  pub behind : rest ≡ cond (ends text) (Some (drop (length (up_to text) + 1) text)) None

-- ---- a line gathered in a buffer

-- how many bytes a buffer of the given size has after those of a text: what does not fit is lost
abbrev pub kept_after : ℕ → ℕ → List ℕ → ℕ
kept_after size kept bytes = max kept (min (kept + length bytes) size)

-- what gathering a line gives: `line` is the buffer, filled up to `kept`, `text` the input and `from` where to go on. The
-- bytes up to the newline are stored behind the kept ones as far as the buffer reaches, and the newline is passed over
pub record Gathers (text : List ℕ) (from : ℕ) (line : List ℕ) (kept : ℕ) (r : Gathered) (after : List ℕ) : Type 0 where
  pub line_after : after ≡ sets line kept (up_to (drop from text))
  pub kept_is : r.kept ≡ kept_after (length line) kept (up_to (drop from text))
  pub ended : r.ended ≡ ends (drop from text)
  pub next : r.at ≡ from + length (up_to (drop from text)) + cond (ends (drop from text)) 1 0

-- the buffer, filled up to n, holds the bytes l of a line, or as many of the first ones as it has room for
pub record Buffered (buffer : List ℕ) (n : ℕ) (l : List ℕ) : Type 0 where
  pub filled : n ≡ min (length l) (length buffer)
  pub bytes : take n buffer ≡ take (length buffer) l

-- ---- the same where the line is an `ArrayVec` for `size` bytes

-- what gathering a line gives: `line` is what it holds, `after` what it holds then, and `rest` what follows the newline. The
-- bytes up to the newline stand behind those that were held, as far as there is room
pub record Pushes (size : ℕ) (text line after : List ℕ) (rest : Option (List ℕ)) : Type 0 where
  pub line_after : after ≡ take size (line ++ up_to text)
  pub next : rest ≡ cond (ends text) (Some (drop (length (up_to text) + 1) text)) None

-- it holds the bytes l of a line, or as many of the first ones as it has room for
pub record HoldsLine (size : ℕ) (held l : List ℕ) : Type 0 where
  pub bytes : held ≡ take size l
