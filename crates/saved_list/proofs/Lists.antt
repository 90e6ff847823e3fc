-- Laws of a file's list of runs: its length, one run more, the set that the runs give when assigned
-- one after the other, and that a good file's runs are the longest stretches of its set. Assumes nothing.
use Rattle.saved_list.proofs.Kit.{◌≡◌, refl, sym, ap, ◌∙◌, fun_ext, Bool, true, false, cond, List, [], ◌∷◌, ◌++◌, ℕ, zero, suc, ◌+◌, add-zero, zero-add, add-suc, suc-add, arith, length}
use Rattle.positions.specs.Positions.{Positions, none, assigned, count}
use Rattle.positions.specs.Runs.{Run, runs, assigned_runs, covered, lengths}
use Rattle.positions.proofs.Changes.{assigned_runs_then}
use Rattle.positions.proofs.Runs.{runs_only, assigned_runs_at, count_covered}
use Rattle.saved_list.specs.Format.{saved_capacity, run_at, runs_after, saved_runs, Good, saved_positions}

pub runs_length : (bytes : List ℕ) (i n : ℕ) → length (runs_after bytes i n) ≡ n
unfolding runs_after
runs_length bytes i zero = refl
runs_length bytes i (suc n) = ap suc (runs_length bytes (suc i) n)

-- the list with one run more
pub runs_more : (bytes : List ℕ) (i n : ℕ) → runs_after bytes i (suc n) ≡ runs_after bytes i n ++ (run_at bytes (i + n) ∷ [])
unfolding runs_after
runs_more bytes i zero = rw (add-zero i)
runs_more bytes i (suc n) = rw (add-suc i n, ← suc-add i n) (ap (λ (l : List Run). run_at bytes i ∷ l) (runs_more bytes (suc i) n))

-- ---- the runs assigned in order, as opening does

-- the run of index n assigned after those before it
pub assigned_more : (s : Positions) (bytes : List ℕ) (n : ℕ) (v : Bool)
    → assigned_runs s (runs_after bytes 0 (suc n)) v
    ≡ assigned (assigned_runs s (runs_after bytes 0 n) v) (run_at bytes n).start (run_at bytes n).end v
assigned_more s bytes n v = rw (runs_more bytes 0 n, zero-add n) (assigned_runs_then s (runs_after bytes 0 n) (run_at bytes n) v)

-- all runs marked on the empty set give the file's set
pub all_assigned : (bytes : List ℕ) → assigned_runs none (saved_runs bytes) true ≡ saved_positions bytes
unfolding saved_positions
all_assigned bytes = fun_ext (λ i. assigned_runs_at (saved_runs bytes) none true i ∙ same (covered (saved_runs bytes) i))
  where
    same : (b : Bool) → cond b true false ≡ b
    same true = refl
    same false = refl

-- ---- a good file

module _ (bytes : List ℕ) (good : Good bytes) where
  -- its runs are the longest stretches of its set
  pub good_longest : runs (saved_positions bytes) 0 (saved_capacity bytes) ≡ saved_runs bytes
  unfolding saved_positions
  good_longest =
      sym (runs_only (saved_positions bytes) 0 (saved_capacity bytes) (saved_runs bytes) (omega arith) good.ascending (λ i u v. refl))

  -- its population is the sum of its runs' lengths
  pub good_population : count (saved_positions bytes) 0 (saved_capacity bytes) ≡ lengths (saved_runs bytes)
  unfolding saved_positions
  good_population = count_covered 0 (saved_capacity bytes) 0 (saved_runs bytes) good.ascending (omega arith)
