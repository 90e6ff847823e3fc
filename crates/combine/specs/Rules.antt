-- A rule: whether a combination of two sets has a position, by whether each of the two has it. Both, either, and the first without the second are
-- three rules. One function of two truths is carried to sets, to words here, and to storages by the promise (Entry). Assumes nothing.
use Rattle.std.specs.Prelude.{Bool, true, not, ◌&&◌, ◌||◌, ℕ}
use Rattle.positions.specs.Positions.{Positions}
use Rattle.bits.specs.Bit.{bit, mask}

abbrev pub Rule : Type 0
Rule = Bool → Bool → Bool

abbrev pub both : Rule
both a b = a && b

abbrev pub either : Rule
either a b = a || b

abbrev pub without : Rule
without a b = a && not b

-- the rule on two sets
abbrev pub combined : Rule → Positions → Positions → Positions
combined f s t i = f (s i) (t i)

-- the rule on two words, bit by bit
unfoldable pub on_words : Rule → ℕ → ℕ → ℕ
on_words f x y = mask 64 (λ i. f (bit x i) (bit y i))

-- for the usual laws: the set that has every position, and the positions that a set has not
abbrev pub every : Positions
every i = true

abbrev pub complement : Positions → Positions
complement s i = not (s i)
