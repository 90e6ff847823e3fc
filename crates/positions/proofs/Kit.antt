-- The kit's names that the proofs of this crate use. Assumes nothing.
pub use Prim.Native.Nat.{◌*◌, ◌+◌, ◌-◌, ◌<◌, ◌≤◌, min, suc, zero, zero-le, ℕ}
pub use borrow.Author.Tests.{eq-eqb, eqb-false, eqb-true, le-leb, le-ltb, leb-false, leb-true, lt-leb, lt-ltb, ltb-false, ltb-true, ne_eqb}
pub use lib.Dec.{T, eqb, leb, ltb}
pub use lib.ListN.{length}
pub use mathlib.Core.Bool.{Bool, beq as Bool·beq, not-not as Bool·not-not, ◌&&◌, and-false, cond, false, false≢true, not, true, true≢false}
pub use mathlib.Core.List.{List, [], ◌++◌, ◌∷◌}
pub use mathlib.Core.Logic.{◌≢◌, ⊎_elim}
pub use mathlib.Core.Path.{◌∙◌, ◌≡◌, ap, ap₂, fun_ext, refl, subst, sym}
pub use native.Mathlib.Decide.{dec_lt}
pub use native.Mathlib.Nat.{add_assoc, add_comm, add-le-add, add-mul, add-suc, add-zero, eq-or-lt_of_le, le_of_eq, le_refl, mul-one, mul-zero, not-suc-le-zero, one-mul, suc-add, suc-mul, zero-add, zero-mul}
pub use native.Mathlib.Numerals.{add-one}
pub use native.Mathlib.Omega.{arith}
