-- How far a walk has come, and what it found: what the contracts of inner functions speak with. No promise of an entry names it, and
-- nothing here need be believed. Assumes nothing.
use Rattle.std.specs.Prelude.{◌≡◌, Bool, true, not, cond, ℕ, ◌≤◌, ◌<◌, min, ltb, Option, Some, None}
use Rattle.positions.specs.Positions.{Positions, count}
use Rattle.positions.specs.Runs.{Run, run}

-- no position of a..e has the value v
abbrev pub Lacks : Positions → Bool → ℕ → ℕ → Type 0
Lacks s v a e = (i : ℕ) → a ≤ i → i < e → s i ≡ not v

-- a walk from a stopped at p, or at the end c where it found nothing
pub record Stops (s : Positions) (v : Bool) (a c p : ℕ) : Type 0 where
  pub low : a ≤ p
  pub high : p ≤ c
  pub passed : Lacks s v a p
  pub found : p < c → s p ≡ v

-- as much of p..q as lies below e, if any of it does
abbrev pub cut : ℕ → ℕ → ℕ → Option Run
cut p q e = cond (ltb p (min q e)) (Some (run p (min q e))) None

-- the positions that have the value v
abbrev pub having : Positions → Bool → Positions
having s v i = cond v (s i) (not (s i))

-- p is the position at or after a that has n positions of the set before it, from a on, and is one itself
pub record Nth (s : Positions) (a n p : ℕ) : Type 0 where
  pub low : a ≤ p
  pub member : s p ≡ true
  pub before : count s a p ≡ n
