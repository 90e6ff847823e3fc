-- The kit's names that the proofs of this crate use. Assumes nothing.
pub use Prim.Native.Nat.{◌%◌, ◌*◌, ◌+◌, ◌-◌, ◌/◌, ◌<◌, ◌^◌, ◌≤◌, suc, suc-le-suc, zero, zero-le, ℕ}
pub use borrow.Author.Tests.{eq-eqb, eqb-true, le-leb, le-ltb, lt-leb, lt-ltb, ltb-true, ne_eqb}
pub use lib.Arith.{lt_of_le-ne, digits_div, digits_mod, le-zero, lt-one}
pub use lib.Bits.{and_block, and_le_l, and_le_r, and_mask, and_mod, and_shr, and_zero_r, bit_and, bit_or, or_lt, or_mod, or_shr, shifted_even}
pub use lib.Count.{leading_top, count_leading_zeros, ones, ones-le, ones_step, trailing_le, under}
unfoldable pub use lib.Count.{count_trailing_zeros}
pub use lib.Dec.{eqb, eqb-suc-suc as eqb·suc_suc, eqb-suc-zero as eqb·suc_zero, leb, leb-suc-suc as leb·suc_suc, leb-suc-zero as leb·suc_zero, lit<, ltb}
pub use lib.Pow.{field, high, low, mod-mod-pow, ones_lt, pow-add, pow-lt, pow_mono, pow_pos, shl-shr, shr-shr, split}
pub use mathlib.Core.Bool.{Bool, ◌&&◌, ◌||◌, and-false, and_self, and-true, cond, false, false≢true, not, true, true≢false}
pub use mathlib.Core.Logic.{◌≢◌}
pub use mathlib.Core.Path.{◌∙◌, ◌≡◌, ap, ap₂, refl, subst, sym}
pub use native.Mathlib.Decide.{dec_lt}
pub use native.Mathlib.Nat.{add_comm, add-mul, add-sub_of_le, div-add-mod', div-eq_of_lt, div-one, le_of_eq, le_of_suc-le-suc, le_refl, lt_irrefl, lt_of_le_of_lt, lt_of_lt_of_le, lt-suc_self, mod-eq_of_lt, mod-le, mod-lt, mul_assoc, mul-suc, mul-zero, not-suc-le-zero, one-mul, pos_of_ne-zero, pow-suc, pow-succ', sub-zero, zero-div, zero-lt-suc}
pub use native.Mathlib.Numerals.{one-add}
pub use native.Mathlib.Omega.{arith}
