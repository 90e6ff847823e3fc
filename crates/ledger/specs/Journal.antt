-- 01's journal: the numbers that a list of standing calls gives. Assumes nothing.
use Rattle.std.specs.Prelude.{ℕ, ◌+◌, ◌*◌, Bool, List, [], ◌∷◌, ◌++◌, length}
use Rattle.positions.specs.Positions.{Positions, one}
use Rattle.positions.specs.Runs.{Run, changed_runs, encoded}
use Rattle.ledger.specs.Machine.{Standing, held}

-- a run as two numbers: start, end
abbrev pub pair : Run → List ℕ
pair r = r.start ∷ r.end ∷ []

-- runs as numbers, one run after the other
abbrev pub pairs : List Run → List ℕ
pairs rs = encoded pair rs

-- a call's runs in ascending order, then one number 2 × runs + value, value 1 for marking, 0 for clearing
abbrev pub entry : List Run → Bool → List ℕ
entry rs v = pairs rs ++ (2 * length rs + one v) ∷ []

-- the numbers that giving a..e the value v puts into the journal, where the call stands
unfoldable pub written : Positions → ℕ → ℕ → Bool → List ℕ
written s a e v = entry (changed_runs s a e v) v

-- the journal from 0 to U: the first call's numbers first
abbrev pub journal_of : Positions → List Standing → List ℕ
journal_of o [] = []
journal_of o (c ∷ cs) = journal_of o cs ++ written (held o cs) c.start c.end c.value
