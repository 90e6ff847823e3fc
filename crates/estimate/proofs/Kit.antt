-- The kit's names that the proofs of this crate use. Assumes nothing.
pub use Prim.Native.Nat.{◌%◌, ◌*◌, ◌+◌, ◌-◌, ◌<◌, ◌^◌, ◌≤◌, suc, zero, ℕ}
pub use borrow.Author.Tests.{eqb-false, eqb-true, eq-eqb, le-leb, le-ltb, leb-false, leb-true, lt-leb, lt-ltb, ltb-false, ne_eqb}
pub use lib.Dec.{eqb, leb, ltb}
pub use lib.ListN.{get_or, length, length-set, set}
pub use lib.Seq.{get_or-set_other, get_or-set_same}
pub use mathlib.Core.Bool.{Bool, ◌&&◌, cond, false, false≢true, not, true}
pub use mathlib.Core.List.{List, [], ◌∷◌}
pub use mathlib.Core.Logic.{◌≢◌, ◌⊎◌, inl, inr}
pub use mathlib.Core.Path.{◌∙◌, ◌≡◌, ap, ap₂, refl, subst, sym}
pub use native.Mathlib.Nat.{add-zero, mul-add}
pub use native.Mathlib.Decide.{dec_le, dec_lt}
pub use native.Mathlib.Omega.{arith}
