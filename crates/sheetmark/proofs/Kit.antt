-- The kit's names that the proofs of this crate use. Assumes nothing.
pub use Prim.Native.Nat.{◌%◌, ◌*◌, ◌+◌, ◌-◌, ◌/◌, ◌<◌, ◌^◌, ◌≤◌, ℕ}
pub use borrow.Author.Tests.{eqb-false, eqb-true, le-leb, leb-true}
unfoldable pub use lib.Count.{ones}
pub use lib.Dec.{eqb, leb}
pub use lib.ListN.{length, length-append, length-take, take}
pub use lib.Seq.{length-take-le}
pub use mathlib.Core.Bool.{Bool, ◌&&◌, cond, false, true}
pub use mathlib.Core.List.{List, [], ◌++◌, ◌∷◌, append_assoc, append-nil}
pub use mathlib.Core.Path.{◌∙◌, ◌≡◌, ap, ap₂, refl, subst, sym}
pub use native.Mathlib.Omega.{arith}
pub use Rattle.std.specs.Prelude.{Err, None, Ok, Option, Some, is_some}
