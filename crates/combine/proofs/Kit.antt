-- The kit's names that the proofs of this crate use. Assumes nothing.
pub use Prim.Native.Nat.{◌%◌, ◌*◌, ◌+◌, ◌-◌, ◌/◌, ◌<◌, ◌^◌, ◌≤◌, min, suc, zero, zero-le, ℕ}
pub use borrow.Author.Tests.{eq-eqb, eqb-false, eqb-true, le-leb, le-ltb, lt-ltb, ltb-true, ne_eqb, not-false, not-true}
pub use lib.Bits.{and_le_l, bit_and, bit_or, or_lt}
pub use lib.Count.{count_trailing_zeros, ones, ones-le, ones-ones}
pub use lib.Dec.{T, eqb, leb, ltb}
pub use lib.ListN.{drop, get_or, get_or-append, length, length-drop, length-set, set, take}
pub use lib.Pow.{ones_lt, pow-lt, pow_mono, pow_pos}
pub use lib.Seq.{drop-drop, get_or-append-add, get_or-drop, get_or-set_other, get_or-set_same, get_or-take, length-take-le}
pub use mathlib.Core.Bool.{Bool, ◌&&◌, ◌||◌, and-false, cond, false, false≢true, not, true, true≢false}
pub use mathlib.Core.List.{List, [], ◌∷◌}
pub use mathlib.Core.Logic.{◌≢◌, ◌⊎◌, inl, inr}
pub use mathlib.Core.Path.{◌∙◌, ◌≡◌, ap, ap₂, fun_ext, refl, subst, sym}
pub use native.Mathlib.Decide.{dec_lt}
pub use native.Mathlib.Nat.{le_trans, lt_of_le_of_lt, lt_of_lt_of_le}
pub use native.Mathlib.Omega.{arith}
