-- A word in fields of w bits each: the counts that a word of partial sums holds, and the mask of every other field. Assumes nothing.
use Rattle.std.specs.Prelude.{ℕ, zero, suc, ◌+◌, ◌-◌, ◌*◌, ◌/◌, ◌^◌}
use Rattle.positions.specs.Positions.{count_from}
use Rattle.bits.specs.Bit.{bit}

-- `field_sums w k x`: the number of k fields whose field i is how many of the bits w * i up to w * i + w of x are set
unfoldable pub field_sums : ℕ → ℕ → ℕ → ℕ
field_sums w zero x = 0
field_sums w (suc k) x = field_sums w k (x / 2 ^ w) * 2 ^ w + count_from (bit x) 0 w

-- `low_fields w k`: the mask of the lower of each two fields, k pairs
unfoldable pub low_fields : ℕ → ℕ → ℕ
low_fields w zero = 0
low_fields w (suc k) = low_fields w k * 2 ^ (w + w) + (2 ^ w - 1)
