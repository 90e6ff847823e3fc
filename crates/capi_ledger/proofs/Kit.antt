-- The kit's names that the proofs of this crate use. Assumes nothing.
pub use Prim.Native.Nat.{◌*◌, ◌+◌, ◌-◌, ◌≤◌, ℕ}
pub use borrow.Author.Tests.{eqb-false, eqb-true}
pub use lib.Dec.{eqb}
pub use lib.ListN.{drop, length}
pub use mathlib.Core.Bool.{Bool, false, true}
pub use mathlib.Core.List.{List, [], ◌∷◌}
pub use mathlib.Core.Logic.{◌≢◌, ◌⊎◌, inl, inr}
pub use mathlib.Core.Path.{◌∙◌, ◌≡◌, ap, refl, subst, sym}
pub use native.Mathlib.Omega.{arith}
pub use Rattle.std.specs.Prelude.{Err, Ok}
