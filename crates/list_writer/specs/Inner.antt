-- Contracts of the inner functions. No caller of the crate sees them, and nothing here need be believed. Assumes nothing.
use Rattle.std.specs.Prelude.{List, ℕ}
use Rattle.std.proofs.lemmas.List.Edits.{sets}

-- the list x with the numbers l stored from `at` on: the kit's `sets`, which does not compute here
unfoldable pub overwritten : ℕ → List ℕ → List ℕ → List ℕ
overwritten at l x = sets x at l
