-- What the iterator over runs gives. Assumes nothing.
use Rattle.std.specs.Prelude.{◌≡◌, ℕ, Option, Some}
use Rattle.std.specs.declared.ops.Range.{Range}
use Rattle.set_runs.specs.Walks.{Finds}
use Rattle.set_runs.specs.declared.Runs.{Runs}

-- r is the run found next, and x' the iterator behind it
pub record GivesRun (x : Runs) (r : Option (Range ℕ)) (x' : Runs) : Type 0 where
  pub same_set : x'.set ≡ x.set
  pub same_storage : x'.storage ≡ x.storage
  pub same_end : x'.end ≡ x.end
  pub same_value : x'.value ≡ x.value
  pub finds : Finds x.set x.storage.now x.from x.end x.value r
  pub behind : (q : Range ℕ) → r ≡ Some q → x'.from ≡ q.end
