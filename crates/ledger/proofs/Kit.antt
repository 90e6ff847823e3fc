-- The kit's names that the proofs of this crate use. Assumes nothing.
pub use Prim.Native.Nat.{◌%◌, ◌*◌, ◌+◌, ◌-◌, ◌/◌, ◌<◌, ◌≤◌, min, suc, zero, ℕ}
pub use borrow.Author.Tests.{eq-eqb, eqb-false, eqb-true, le-leb, le-ltb, leb-false, leb-true, lt-leb, lt-ltb, ltb-false, ltb-true, ne_eqb}
pub use lib.Dec.{eqb, leb, ltb}
pub use lib.ListN.{get_or, get_or-append, length, length-append, length-set, set, take}
pub use lib.Seq.{get_or-append-add, get_or_at, get_or-set_other, get_or-take, length-take-le, take_at, take-suc-set, take-take}
pub use mathlib.Core.Bool.{Bool, ◌&&◌, ◌||◌, and-true, cond, false, not, or-false, true, true≢false}
pub use mathlib.Core.List.{List, [], ◌++◌, ◌∷◌, append_assoc, append-nil}
pub use mathlib.Core.Logic.{◌≢◌, ◌⊎◌, inl, inr}
pub use mathlib.Core.Path.{◌∙◌, ◌≡◌, ap, ap₂, refl, subst, sym}
pub use native.Mathlib.Decide.{dec_lt}
pub use native.Mathlib.Nat.{zero-add}
pub use native.Mathlib.Numerals.{add-one}
pub use native.Mathlib.Omega.{arith}
