-- The kit's names that the proofs of this crate use. Assumes nothing.
pub use Prim.Native.Nat.{◌%◌, ◌*◌, ◌+◌, ◌-◌, ◌<◌, ◌^◌, ◌≤◌, ℕ}
pub use borrow.Author.Tests.{le-leb, lt-leb, leb-false, leb-true}
pub use lib.Dec.{leb}
pub use lib.ListN.{get_or, length, take}
pub use mathlib.Core.Bool.{Bool, not-not as Bool·not-not, false, not, true}
pub use mathlib.Core.List.{List, [], ◌++◌, ◌∷◌, append_assoc, append-nil}
pub use mathlib.Core.Logic.{◌⊎◌, inl, inr}
pub use mathlib.Core.Path.{◌∙◌, ◌≡◌, ap, ap₂, refl, subst, sym}
pub use native.Mathlib.Omega.{arith}
pub use native.Mathlib.Decide.{dec_lt}
