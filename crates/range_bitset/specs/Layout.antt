-- Where each number of a set of W words lies in its storage: 01's "Storage". Assumes nothing.
use Rattle.std.specs.Prelude.{◌≡◌, ℕ, ◌+◌, ◌-◌, ◌*◌, ◌/◌, min, Bool, ◌&&◌, List, drop, ◌==◌, count_ones, nat_le, slice_index}

-- W is a power of two from 1 to 4,096: the one place that asks for a power of two
unfoldable pub allowed : ℕ → Bool
allowed W = count_ones W == 1 && nat_le W 4096

-- the blocks that W words make
abbrev pub blocks : ℕ → ℕ
blocks W = (W + 63) / 64

-- the words of block b
abbrev pub words_of : ℕ → ℕ → ℕ
words_of W b = min 64 (W - 64 * b)

-- how many numbers the storage needs
abbrev pub needed : ℕ → ℕ
needed W = W + 3 * blocks W + 2

-- the numbers past those that W words need are as they were
abbrev pub SamePast : ℕ → List ℕ → List ℕ → Type 0
SamePast W st st' = drop (needed W) st' ≡ drop (needed W) st

-- a storage number, by what it is
pub data Slot : Type 0 where
  word nonzero full population : ℕ → Slot
  top_nonzero top_full : Slot

-- where it lies
abbrev pub address : ℕ → Slot → ℕ
address W (word k) = k
address W (nonzero b) = W + b
address W (full b) = W + blocks W + b
address W (population b) = W + 2 * blocks W + b
address W top_nonzero = W + 3 * blocks W
address W top_full = W + 3 * blocks W + 1

-- what it holds
abbrev pub at : ℕ → List ℕ → Slot → ℕ
at W st s = slice_index st (address W s)
