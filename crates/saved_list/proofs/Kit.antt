-- The kit's names that the proofs of this crate use. Assumes nothing.
pub use Prim.Native.Nat.{◌%◌, ◌*◌, ◌+◌, ◌-◌, ◌/◌, ◌<◌, ◌≤◌, suc, zero, ℕ}
pub use Rattle.std.proofs.lemmas.Bool.Decides.{nat_tests}
pub use lib.ListN.{drop, drop_of_length-le, get_or, length, length-append, take, take-append-drop}
pub use lib.Seq.{drop-cons, get_or-append-add}
pub use mathlib.Core.Bool.{Bool, cond, false, true}
pub use mathlib.Core.List.{List, [], ◌++◌, ◌∷◌, append_assoc, map}
pub use mathlib.Core.Path.{◌∙◌, ◌≡◌, ap, ap₂, fun_ext, refl, sym}
pub use native.Mathlib.Nat.{add-suc, add-zero, suc-add, zero-add}
pub use native.Mathlib.Numerals.{add-one}
pub use native.Mathlib.Omega.{arith}
