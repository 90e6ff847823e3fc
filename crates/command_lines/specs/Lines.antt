-- What a line of `sheetmark` means. A line is the list of its bytes without its newline; it is cut at each single space
-- into fields, and the fields are a keyword alone, or a keyword and two numbers. Every other line is bad: it means `None`.
-- Assumes nothing.
use Rattle.std.specs.Prelude.{Bool, true, cond, ◌&&◌, Option, Some, None, List, [], ◌∷◌, ℕ, ◌+◌, ◌*◌, ◌-◌, ◌^◌, length, leb, ltb, eqb, codes}
use Rattle.std.specs.Str.{bytes_eq}
use Rattle.command_lines.specs.declared.Command.{Command}
use Rattle.command_lines.specs.declared.Command.TheVariants.{New, Mark, Clear, Count, One, Zero, Back, Wipe}

-- ---- fields

-- the byte b put before the first field
abbrev pub onto : ℕ → List (List ℕ) → List (List ℕ)
onto b [] = (b ∷ []) ∷ []
onto b (f ∷ fs) = (b ∷ f) ∷ fs

-- what stands before, between and after the spaces of a text: n spaces part n + 1 fields, of which some may be empty
unfoldable pub fields : List ℕ → List (List ℕ)
fields [] = [] ∷ []
fields (b ∷ t) = cond (eqb b 32) ([] ∷ fields t) (onto b (fields t))

-- ---- numbers

-- b is one of the bytes `0` to `9`
abbrev pub digit : ℕ → Bool
digit b = leb 48 b && leb b 57

abbrev pub all_digits : List ℕ → Bool
all_digits [] = true
all_digits (b ∷ f) = digit b && all_digits f

-- the number that the digits of f continue, where v is the number read so far
abbrev pub value_from : ℕ → List ℕ → ℕ
value_from v [] = v
value_from v (b ∷ f) = value_from (v * 10 + (b - 48)) f

abbrev pub value : List ℕ → ℕ
value f = value_from 0 f

-- f is decimal, of 1 to 10 digits, below 2^32
abbrev pub is_number : List ℕ → Bool
is_number f = all_digits f && leb 1 (length f) && leb (length f) 10 && ltb (value f) (2 ^ 32)

-- two fields that are numbers, and nothing else
abbrev pub pair : List (List ℕ) → Option (ℕ × ℕ)
pair [] = None
pair (a ∷ []) = None
pair (a ∷ b ∷ []) = cond (is_number a && is_number b) (Some (value a, value b)) None
pair (a ∷ b ∷ f ∷ fs) = None

-- ---- keywords

-- a keyword alone
abbrev pub alone : List ℕ → Option Command
alone w = cond (bytes_eq w (codes "back")) (Some Back) (cond (bytes_eq w (codes "wipe")) (Some Wipe) None)

-- a keyword with its two numbers
abbrev pub with : List ℕ → Option (ℕ × ℕ) → Option Command
with w None = None
with w (Some (a, b)) =
    cond (bytes_eq w (codes "new")) (Some (New a b))
    (cond (bytes_eq w (codes "mark")) (Some (Mark a b))
    (cond (bytes_eq w (codes "clear")) (Some (Clear a b))
    (cond (bytes_eq w (codes "count")) (Some (Count a b))
    (cond (bytes_eq w (codes "one")) (Some (One a b))
    (cond (bytes_eq w (codes "zero")) (Some (Zero a b))
    None)))))

-- ---- the line

abbrev pub command : List (List ℕ) → Option Command
command [] = None
command (w ∷ []) = alone w
command (w ∷ f ∷ fs) = with w (pair (f ∷ fs))

-- what a line means
abbrev pub meaning : List ℕ → Option Command
meaning line = command (fields line)
