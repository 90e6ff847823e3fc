-- Laws of the walk of `check_runs` over the runs held: at index i, with `low` the least start allowed. Assumes nothing.
use Rattle.saved_list.proofs.Kit.{◌≡◌, true, false, List, [], ◌∷◌, ℕ, suc, ◌+◌, ◌-◌, ◌≤◌, zero-add, add-one, arith, nat_tests}
use Rattle.positions.specs.Runs.{run}
use Rattle.positions.specs.Replies.{numbers}
use Rattle.saved_list.specs.Format.{saved_capacity, runs_after, ruled, first_bad, held_count, first_bad_held}
use Rattle.saved_list.specs.Answers.{run_reply, index_after}
use Rattle.saved_list.proofs.GoodFiles.{found_is, found_none}

-- a step that gives a run moves the index on
pub moved_on : (bytes : List ℕ) (i start end : ℕ) → numbers (start ∷ end ∷ []) ≡ run_reply bytes i → index_after bytes i ≡ i + 1
unfolding index_after
moved_on bytes i start end found = grind (arith, nat_tests, found_is bytes i start end found)

-- the runs before i are good, and the rest decides
abbrev pub Reached : List ℕ → ℕ → ℕ → Type 0
Reached bytes i low = first_bad_held bytes ≡ i + first_bad low (saved_capacity bytes) (runs_after bytes i (held_count bytes - i))

pub reached_start : (bytes : List ℕ) → Reached bytes 0 0
unfolding first_bad_held
reached_start bytes = let p : held_count bytes - 0 ≡ held_count bytes = omega arith in rw (p, zero-add)

module _ (bytes : List ℕ) (i low start end : ℕ) (found : numbers (start ∷ end ∷ []) ≡ run_reply bytes i) (reached : Reached bytes i low) where
  -- the runs from i on
  rest : runs_after bytes i (held_count bytes - i) ≡ run start end ∷ runs_after bytes (i + 1) (held_count bytes - (i + 1))
  unfolding runs_after
  rest =
      let k = found_is bytes i start end found in
      let p : held_count bytes - i ≡ suc (held_count bytes - (i + 1)) = omega (arith, k.0) in
      rw (p, k.1, add-one i)

  pub reached_next : ruled low (saved_capacity bytes) (run start end) ≡ true → Reached bytes (i + 1) (end + 1)
  unfolding first_bad
  reached_next e = let r = rw rest at reached in grind (arith, nat_tests)

  pub reached_bad : ruled low (saved_capacity bytes) (run start end) ≡ false → first_bad_held bytes ≡ i
  unfolding first_bad
  reached_bad e = let r = rw rest at reached in grind (arith, nat_tests)

pub reached_end : (bytes : List ℕ) (i low : ℕ) → held_count bytes ≤ i → Reached bytes i low → first_bad_held bytes ≡ i
unfolding runs_after first_bad
reached_end bytes i low h p = let q : held_count bytes - i ≡ 0 = omega arith in let r = rw q at p in omega arith

-- a step that gives no run
pub reached_none : (bytes : List ℕ) (i low : ℕ) → numbers [] ≡ run_reply bytes i → Reached bytes i low → held_count bytes ≤ first_bad_held bytes
reached_none bytes i low none p =
    let h = found_none bytes i none in
    omega (arith, reached_end bytes i low h p)

-- what the walk is proved by
pub ruleset turns = (moved_on, reached_start, reached_next, reached_bad, reached_none)
