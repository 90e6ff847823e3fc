-- What a storage says, read through its masks, on any memory. A mask bit goes before the number under it: a word
-- or block marked empty or full reads as zero or all ones, whatever stands there. Assumes nothing.
use Rattle.std.specs.Prelude.{ℕ, ◌-◌, ◌/◌, ◌%◌, ◌^◌, cond, List}
use Rattle.bits.specs.Bit.{bit}
use Rattle.range_bitset.specs.Layout.{at, word, nonzero, full, top_nonzero, top_full}
use Rattle.range_bitset.specs.declared.State.{State}
use Rattle.range_bitset.specs.declared.State.TheVariants.{Empty, Mixed, Full}

-- a word with every bit set
abbrev pub ALL : ℕ
ALL = 2 ^ 64 - 1

-- block b: all set, all clear, or mixed
unfoldable pub state_of : ℕ → List ℕ → ℕ → State
state_of W st b = cond (bit (at W st top_full) b) Full (cond (bit (at W st top_nonzero) b) Mixed Empty)

-- data word k, where its block is mixed
unfoldable pub mixed_read : ℕ → List ℕ → ℕ → ℕ
mixed_read W st k =
    cond (bit (at W st (full (k / 64))) (k % 64)) ALL
    (cond (bit (at W st (nonzero (k / 64))) (k % 64)) (at W st (word k)) 0)

abbrev pub by_state : State → ℕ → ℕ
by_state Empty m = 0
by_state Mixed m = m
by_state Full m = ALL

-- data word k
unfoldable pub word_read : ℕ → List ℕ → ℕ → ℕ
word_read W st k = by_state (state_of W st (k / 64)) (mixed_read W st k)
