-- The contract of an inner function, which no caller of the crate sees. Nothing here need be believed: the promises of `parse` and
-- of the rest speak of none of it. Assumes nothing.
use Rattle.std.specs.Prelude.{◌≡◌, Some, List, ℕ, length, position, ◌==◌}
use Rattle.std.specs.List.{before_first, after_first}

-- a stands before the first byte c of a text, and b behind it
pub record SplitsAt (c : ℕ) (text a b : List ℕ) : Type 0 where
  pub place : position (λ x. x == c) text ≡ Some (length a)
  pub before : a ≡ before_first (λ x. x == c) text
  pub behind : b ≡ after_first (λ x. x == c) text
