-- The kit's names that the proofs of this crate use. Assumes nothing.
pub use Prim.Native.Nat.{suc, zero, ℕ, ◌%◌, ◌*◌, ◌+◌, ◌-◌, ◌/◌, ◌<◌, ◌^◌, ◌≤◌, max, min}
pub use Rattle.std.proofs.lemmas.Fmt.{AppendsLastDigit, decimal_from_appends, decimal_nonempty, length-decimal-le, length-decimal-le_succ}
pub use Rattle.std.proofs.lemmas.Option.{cond_some}
pub use Rattle.std.proofs.lemmas.Slice.Eq.{bytes_eq-Decides}
pub use Rattle.std.specs.Fmt.{decimal}
pub use Rattle.std.specs.List.{position, position_or_len, prefix_len}
pub use Rattle.std.specs.Prelude.{None, Option, Some, codes}
pub use Rattle.std.specs.Str.{bytes_eq}
pub use borrow.Author.Tests.{eqb-true, le-leb, le-ltb, leb-false, leb-true, lt-ltb, ltb-false, ltb-true}
pub use lib.Dec.{eqb, leb, lit<, ltb}
pub use lib.ListN.{drop, drop_of_length-le, get_or, length, length-append, length-drop, length-take, set, take, take-append-drop}
pub use lib.Seq.{drop-cons, length-sets, length-take-le, set_out, sets, sets-eq, take-append-add, take-append-le, take_all, take_at}
pub use mathlib.Core.Bool.{Bool, cond, false, false≢true, not, true, ◌&&◌}
pub use mathlib.Core.List.{List, [], append-nil, append_assoc, map, ◌++◌, ◌∷◌}
pub use mathlib.Core.Path.{ap, refl, sym, ◌∙◌, ◌≡◌}
pub use native.Mathlib.Numerals.{add-one, one-add}
pub use native.Mathlib.Omega.{arith}
