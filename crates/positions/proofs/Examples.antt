-- The runs, the run that a search finds and the n-th position compute on a small set. 01's own cases are in ledger/specs/Cases. Assumes nothing.
use Rattle.positions.proofs.Kit.{◌≡◌, refl, true, false, [], ◌∷◌}
use Rattle.positions.specs.Positions.{none, assigned, total, sum_over, count_from, count, found_at, not_found, first_from, first, select}
use Rattle.std.proofs.Common.{Some, None}
use Rattle.positions.specs.Runs.{run, run_end, next_run, runs_from, runs, changed_runs}

-- clearing 5..25 where 3..10 and 12..20 are set changes 5..10 and 12..20
two_runs : changed_runs (assigned (assigned none 3 10 true) 12 20 true) 5 25 false ≡ run 5 10 ∷ run 12 20 ∷ []
unfolding changed_runs runs runs_from assigned
two_runs = refl

-- where 3..10 and 12..20 are set, the position with 8 before it is 13, and none has 15
eighth : select (assigned (assigned none 3 10 true) 12 20 true) 8 64 ≡ found_at 13
unfolding select first first_from count count_from sum_over total assigned
eighth = refl

no_fifteenth : select (assigned (assigned none 3 10 true) 12 20 true) 15 64 ≡ not_found
unfolding select first first_from count count_from sum_over total assigned
no_fifteenth = refl

-- a run that a search finds: to its own end, to the search's, none of the other value between two, and over the border at 64
first_run : next_run (assigned (assigned none 3 10 true) 12 20 true) true 0 30 ≡ Some (run 3 10)
unfolding next_run run_end first first_from assigned
first_run = refl

cut_run : next_run (assigned (assigned none 3 10 true) 12 20 true) true 5 8 ≡ Some (run 5 8)
unfolding next_run run_end first first_from assigned
cut_run = refl

run_between : next_run (assigned (assigned none 3 10 true) 12 20 true) false 4 30 ≡ Some (run 10 12)
unfolding next_run run_end first first_from assigned
run_between = refl

run_over_border : next_run (assigned none 60 70 true) true 0 128 ≡ Some (run 60 70)
unfolding next_run run_end first first_from assigned
run_over_border = refl

no_run : next_run (assigned none 60 70 true) true 70 128 ≡ None
unfolding next_run run_end first first_from assigned
no_run = refl
