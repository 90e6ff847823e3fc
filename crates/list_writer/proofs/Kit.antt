-- The kit's names that the proofs of this crate use. Assumes nothing.
pub use Prim.Native.Nat.{◌%◌, ◌*◌, ◌+◌, ◌-◌, ◌/◌, ◌<◌, ◌≤◌, min, suc, ℕ}
pub use borrow.Author.Tests.{le-leb, leb-false, leb-true, lt-leb, ne_eqb}
pub use lib.Dec.{leb}
pub use lib.ListN.{drop, get_or, length, length-append, length-drop, set, take, take-append-drop}
pub use lib.Seq.{drop_at, drop-set-lt, ext_get_or, get_or-drop, get_or-set_other, length-sets, length-take-le, sets-eq, take_at}
pub use mathlib.Core.Bool.{Bool, cond, false, true, true≢false}
pub use mathlib.Core.List.{List, [], ◌++◌, ◌∷◌, append_assoc}
pub use mathlib.Core.Logic.{◌⊎◌, inl, inr}
pub use mathlib.Core.Path.{◌∙◌, ◌≡◌, ap, ap₂, refl, sym}
pub use native.Mathlib.Nat.{add-zero, zero-add}
pub use native.Mathlib.Omega.{arith}
