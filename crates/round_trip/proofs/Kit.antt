-- The kit's names that the proofs of this crate use. Assumes nothing.
pub use Prim.Native.Nat.{◌%◌, ◌/◌, ◌<◌, ◌≤◌, ℕ}
pub use borrow.Author.Tests.{eqb-false, eqb-true, ltb-false, lt-ltb, le-ltb, ne_eqb}
pub use lib.Dec.{eqb, leb, ltb}
pub use lib.ListN.{drop, length, take}
pub use lib.Seq.{length-take-le, take-append_seam}
pub use mathlib.Core.Bool.{Bool, ◌&&◌, cond, false, not, true}
pub use mathlib.Core.List.{List, [], ◌++◌, ◌∷◌}
pub use mathlib.Core.Path.{◌∙◌, ◌≡◌, ap, ap₂, refl, subst, sym}
pub use native.Mathlib.Omega.{arith}
