-- Laws of the run rule: the first bad index is the list's length exactly where the runs ascend, and it is where they
-- first fail to. Assumes nothing.
use Rattle.saved_list.proofs.Kit.{◌≡◌, refl, List, [], ◌∷◌, ℕ, suc, ◌≤◌, ◌<◌, arith, nat_tests, length, take}
use Rattle.positions.specs.Runs.{Run, Ascending}
use Rattle.saved_list.specs.Format.{first_bad}

pub first_bad_le : (low capacity : ℕ) (rs : List Run) → first_bad low capacity rs ≤ length rs
unfolding first_bad
first_bad_le low capacity [] = omega arith
first_bad_le low capacity (r ∷ rs) = grind (arith, nat_tests, first_bad_le (suc r.end) capacity rs)

-- no run is bad: the runs ascend
pub none_bad : (low capacity : ℕ) (rs : List Run) → first_bad low capacity rs ≡ length rs → Ascending low capacity rs
unfolding first_bad
none_bad low capacity [] e = tt
none_bad low capacity (r ∷ rs) e = grind (arith, nat_tests, none_bad (suc r.end) capacity rs)

pub ascending_none : (low capacity : ℕ) (rs : List Run) → Ascending low capacity rs → first_bad low capacity rs ≡ length rs
unfolding first_bad
ascending_none low capacity [] h = refl
ascending_none low capacity (r ∷ rs) h = grind (arith, nat_tests, ascending_none (suc r.end) capacity rs)

-- the runs before the first bad one ascend, and with it they do not
pub before_bad : (low capacity : ℕ) (rs : List Run) → Ascending low capacity (take (first_bad low capacity rs) rs)
unfolding first_bad
before_bad low capacity [] = tt
before_bad low capacity (r ∷ rs) = grind (arith, nat_tests, before_bad (suc r.end) capacity rs)

pub bad_there : (low capacity : ℕ) (rs : List Run) → first_bad low capacity rs < length rs
    → Ascending low capacity (take (suc (first_bad low capacity rs)) rs) → ⊥
unfolding first_bad
bad_there low capacity [] h p = omega arith
bad_there low capacity (r ∷ rs) h p = grind (arith, nat_tests, bad_there (suc r.end) capacity rs)
