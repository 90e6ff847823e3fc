-- `stored_population` meets its contract. The invariant: the sum so far and the population of the words that are left make
-- the whole; what is left is still a mask of the words that there are. Assumes nothing.
use Rattle.range_bitset.proofs.Kit.{◌≡◌, ◌+◌, ◌^◌, ◌<◌, length}
use Rattle.range_bitset.proofs.Walked.{stored_count}
use Rattle.range_bitset.proofs.RangeBitset.stored_population.Given as goal

abbrev pub invariant-loop-word : goal.invariant-loop-word
invariant-loop-word l =
    (l.population + stored_count l.«data» l.word-iterator.0 ≡ stored_count l.«data» l.explicit) × (l.word-iterator.0 < 2 ^ length l.«data»)
