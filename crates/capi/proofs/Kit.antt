-- The kit's names that the proofs of this crate use. Assumes nothing.
pub use Prim.Native.Nat.{◌<◌, ◌≤◌, ℕ}
pub use lib.ListN.{length}
pub use mathlib.Core.Bool.{Bool, cond, false, true}
pub use mathlib.Core.List.{List}
pub use mathlib.Core.Logic.{◌≢◌}
pub use mathlib.Core.Path.{◌∙◌, ◌≡◌, ap, refl, sym}
