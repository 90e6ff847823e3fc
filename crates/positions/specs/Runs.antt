-- Runs: the longest stretches of a set, and those that a call changes. All ranges leave out their end. Assumes nothing.
use Rattle.std.specs.Prelude.{◌≡◌, Bool, true, false, not, cond, Option, Some, None, List, [], ◌∷◌, ◌++◌, ℕ, zero, suc, ◌+◌, ◌-◌, ◌≤◌, ◌<◌, eqb}
use Rattle.positions.specs.Positions.{Positions, within, assigned, lacking, Place, found_at, not_found, first}

-- a stretch of positions, start..end
pub record Run : Type 0 where
  pub start : ℕ
  pub end : ℕ

abbrev pub run : ℕ → ℕ → Run
run a e = record { start = a; end = e }

-- the runs with position a put before them, if it belongs to the set: glued to a run that starts right after it
abbrev pub glued : Bool → ℕ → List Run → List Run
glued false a rs = rs
glued true a [] = run a (suc a) ∷ []
glued true a (r ∷ rs) = cond (eqb r.start (suc a)) (run a r.end ∷ rs) (run a (suc a) ∷ r ∷ rs)

-- the longest stretches of the set among the n positions from a on, ascending
unfoldable pub runs_from : Positions → ℕ → ℕ → List Run
runs_from d a zero = []
runs_from d a (suc n) = glued (d a) a (runs_from d (suc a) n)

-- the longest stretches of the set in a..e, ascending
unfoldable pub runs : Positions → ℕ → ℕ → List Run
runs d a e = runs_from d a (e - a)

-- 01's runs of a call that gives a..e the value v: the longest stretches of positions that it changes
unfoldable pub changed_runs : Positions → ℕ → ℕ → Bool → List Run
changed_runs s a e v = runs (lacking s v) a e

-- where a search ends that found nothing
abbrev pub place_or : ℕ → Place → ℕ
place_or e (found_at i) = i
place_or e not_found = e

-- the end of the run of value v that starts at a: the first later position of a..e that differs, else e
unfoldable pub run_end : Positions → Bool → ℕ → ℕ → ℕ
run_end s v a e = place_or e (first s (not v) a e)

-- the run from the place that a search found up to where f says that it ends
abbrev pub run_at : (ℕ → ℕ) → Place → Option Run
run_at f (found_at p) = Some (run p (f p))
run_at f not_found = None

-- what a search for the value v answers: the run that starts at the first position of a..e with that value
unfoldable pub next_run : Positions → Bool → ℕ → ℕ → Option Run
next_run s v a e = run_at (λ p. run_end s v p e) (first s v a e)

-- the set with every run given the value v, one run after the other
abbrev pub assigned_runs : Positions → List Run → Bool → Positions
assigned_runs s [] v = s
assigned_runs s (r ∷ rs) v = assigned_runs (assigned s r.start r.end v) rs v

-- the positions that some run covers
abbrev pub covered : List Run → Positions
covered [] i = false
covered (r ∷ rs) i = cond (within r.start r.end i) true (covered rs i)

-- the runs' lengths, summed
abbrev pub lengths : List Run → ℕ
lengths [] = 0
lengths (r ∷ rs) = (r.end - r.start) + lengths rs

-- the runs as numbers, one run after the other: `code r` for each run r
abbrev pub encoded : (Run → List ℕ) → List Run → List ℕ
encoded code [] = []
encoded code (r ∷ rs) = code r ++ encoded code rs

-- each run has its start below its end, at most e, and each start lies above the end before it, the first at or above b
abbrev pub Ascending : ℕ → ℕ → List Run → Type 0
Ascending b e [] = Unit {0}
Ascending b e (r ∷ rs) = (b ≤ r.start) × (r.start < r.end) × (r.end ≤ e) × Ascending (suc r.end) e rs

-- the runs cover just the positions of the set in a..e
abbrev pub Covers : Positions → ℕ → ℕ → List Run → Type 0
Covers d a e rs = (i : ℕ) → a ≤ i → i < e → covered rs i ≡ d i
