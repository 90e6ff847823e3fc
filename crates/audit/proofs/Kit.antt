-- The kit's names that the proofs of this crate use. Assumes nothing.
pub use Prim.Native.Nat.{◌%◌, ◌*◌, ◌+◌, ◌-◌, ◌/◌, ◌<◌, ◌^◌, ◌≤◌, min, suc, zero-le, ℕ}
pub use borrow.Author.Tests.{eq-eqb, eqb-false, eqb-true, le-leb, lt-ltb, ltb-true, ne_eqb, not-false, not-true}
pub use lib.Bits.{and_le_l, bit_and}
pub use lib.Count.{ones, ones-le, count_trailing_zeros}
pub use lib.Dec.{eqb, ltb}
pub use lib.ListN.{get_or, length}
pub use lib.Pow.{ones_lt}
pub use mathlib.Core.Bool.{Bool, ◌&&◌, cond, false, false≢true, not, true, true≢false}
pub use mathlib.Core.List.{List}
pub use mathlib.Core.Logic.{◌≢◌}
pub use mathlib.Core.Path.{◌∙◌, ◌≡◌, ap, ap₂, fun_ext, refl, subst, sym}
pub use native.Mathlib.Decide.{dec_lt}
pub use native.Mathlib.Nat.{lt_of_le_of_lt}
pub use native.Mathlib.Omega.{arith}
