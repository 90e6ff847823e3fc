-- The walk over a word's set bits, from the lowest up: what one step gives. Assumes nothing.
use Rattle.std.specs.Prelude.{◌≡◌, ◌≢◌, ℕ, ◌-◌, bit_and, MatchOption}
use Rattle.std.specs.Prelude.{Option}
use Rattle.std.specs.Int.Count.{count_trailing_zeros}
use Rattle.bits.specs.declared.walk.Ones.{Ones}

-- the lowest place, and the other bits are left; or none, where no bit was
abbrev pub LowestFirst : Ones → Option ℕ → Ones → Type 0
LowestFirst s r t =
    MatchOption r ((s.0 ≡ 0) × (t.0 ≡ 0)) (λ i. (s.0 ≢ 0) × (i ≡ count_trailing_zeros 64 s.0) × (t.0 ≡ bit_and s.0 (s.0 - 1)))
