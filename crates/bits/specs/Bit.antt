-- A word read bit by bit: the set of its bits, the word that has given bits, and a word with some bits given a value.
-- `ones` and `count_trailing_zeros`, of the kit's `lib.Count`, are the machine's counts. Assumes nothing.
use Rattle.std.specs.Prelude.{Bool, cond, ℕ, zero, suc, ◌+◌, ◌*◌, ◌-◌, ◌/◌, ◌%◌, ◌^◌, eqb}
use Rattle.std.specs.Int.Bits.{bit_and, bit_or}
use Rattle.positions.specs.Positions.{Positions, one}

-- bit i of n, `bit n i`: so `bit n` is the set of the places at which n has a 1
unfoldable pub bit : ℕ → Positions
bit n i = eqb (n / 2 ^ i % 2) 1

-- the number below 2 ^ n whose bit i is f i
unfoldable pub mask : ℕ → Positions → ℕ
mask zero f = 0
mask (suc n) f = one (f 0) + mask n (λ i. f (suc i)) * 2

-- `old | m` or `old & !m` in a word of w bits: the bits of m given the value v
abbrev pub put : ℕ → ℕ → ℕ → Bool → ℕ
put w old m v = cond v (bit_or old m) (bit_and old ((2 ^ w - 1) - m))
