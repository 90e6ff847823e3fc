-- What every entry of the library answers, in 01's numbers. Assumes nothing.
use Rattle.std.specs.Prelude.{List, [], ◌∷◌, ℕ, Option, Some, None}
use Rattle.positions.specs.Positions.{Place, found_at, not_found}
use Rattle.positions.specs.Runs.{Run}

-- the numbers answered: one for a count or a position, two for a run, none where a search finds nothing or a check has nothing to
-- tell; or a refusal's number, and the values that 01 puts beside it
pub data Reply : Type 0 where
  numbers : List ℕ → Reply
  refused_with : ℕ → List ℕ → Reply

abbrev pub number : ℕ → Reply
number n = numbers (n ∷ [])

abbrev pub nothing : Reply
nothing = numbers []

-- a refusal with no value beside it
abbrev pub refusal : ℕ → Reply
refusal k = refused_with k []

-- a position, or none
abbrev pub of_place : Place → Reply
of_place (found_at i) = number i
of_place not_found = nothing

-- a run, its start before its end, or none
abbrev pub of_run : Option Run → Reply
of_run (Some r) = numbers (r.start ∷ r.end ∷ [])
of_run None = nothing

-- the number of the refusal in a reply; 0: accepted
abbrev pub refused : Reply → ℕ
refused (numbers ns) = 0
refused (refused_with k vs) = k

-- no refusal, not even one with a number that 01 does not have
abbrev pub Accepted : Reply → Type 0
Accepted (numbers ns) = Unit {0}
Accepted (refused_with k vs) = ⊥
