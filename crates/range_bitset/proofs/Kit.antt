-- The kit's names that the proofs of this crate use. Assumes nothing.
pub use Prim.Native.Nat.{◌%◌, ◌*◌, ◌+◌, ◌-◌, ◌/◌, ◌<◌, ◌^◌, ◌≤◌, suc, zero, zero-le, ℕ}
pub use borrow.Author.Tests.{eq-eqb, eqb-false, eqb-true, le-leb, le-ltb, leb-true, lt-leb, lt-ltb, ltb-false, ltb-true, ne_eqb, not-false, not-true}
pub use lib.Arith.{lt_of_le-ne}
pub use lib.Bits.{and_le_l, and_le_r, and_mask, bit_and}
pub use lib.Count.{leading_of_zero, count_leading_zeros, ones-le, ones-ones, trailing_le, trailing_of_zero, count_trailing_zeros}
unfoldable pub use lib.Count.{ones}
pub use lib.Dec.{eqb, leb, ltb}
pub use lib.ListN.{drop, get_or, length, length-drop, length-set, take}
pub use lib.Pow.{pow_mono, pow_pos}
pub use lib.Seq.{drop-set-lt, get_or-drop, get_or-set_other, get_or-set_same, get_or-take, length-take-le}
pub use mathlib.Core.Bool.{Bool, not-not as Bool·not-not, ◌&&◌, ◌||◌, and-false, and-true, cond, false, false≢true, not, or-false, or-true, true, true≢false}
pub use mathlib.Core.List.{List, [], ◌∷◌}
pub use mathlib.Core.Logic.{◌≢◌, ⊎_elim}
pub use mathlib.Core.Path.{◌∙◌, ◌≡◌, ap, ap₂, refl, subst, sym}
pub use native.Mathlib.Decide.{dec_lt, le_ind}
pub use native.Mathlib.Nat.{add-mul, add-suc, add-zero, le_of_eq, le_refl, le_trans, lt_of_le_of_lt, lt_of_lt_of_le, lt_of_mul-lt-mul_left, mul-add, mul_comm, mul-le-mul_left, mul-le-mul_right, mul-suc, mul-zero, one-mul, zero-mul}
pub use native.Mathlib.Numerals.{add-one}
pub use native.Mathlib.Omega.{arith}
