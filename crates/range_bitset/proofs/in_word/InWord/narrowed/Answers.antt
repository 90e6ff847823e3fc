-- `narrowed` meets its contract: one law of WordBits for each half. Assumes nothing.
use Rattle.range_bitset.proofs.Kit.{arith}
use Rattle.range_bitset.proofs.WordBits.{lower_half, upper_half}
use Rattle.range_bitset.proofs.in_word.InWord.narrowed.Goals as goal

pub returns-then-self-low : goal.returns-then-self-low
returns-then-self-low c = lower_half _ _ _ _ c.requires.0 c.requires.1 (omega arith)

pub returns-else-self-low : goal.returns-else-self-low
returns-else-self-low c = upper_half _ _ _ _ c.requires.0 c.requires.1 (omega arith)
