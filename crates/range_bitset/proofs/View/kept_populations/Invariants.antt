-- `kept_populations` meets its contract. The invariant: the sum so far and the kept populations of the blocks that are left
-- make the whole, in 32 bits; what is left is still a mask of the blocks that there are. Assumes nothing.
use Rattle.range_bitset.proofs.Kit.{◌≡◌, ◌+◌, ◌%◌, ◌^◌, ◌<◌}
use Rattle.range_bitset.specs.Layout.{blocks}
use Rattle.range_bitset.proofs.Walked.{kept_sum}
use Rattle.range_bitset.proofs.View.kept_populations.Given as goal

abbrev pub invariant-loop-block : goal.invariant-loop-block
invariant-loop-block l =
    ((l.population + kept_sum l.self.words l.self.storage.now l.block-iterator.0) % 2 ^ 32 ≡ (l.known + kept_sum l.self.words l.self.storage.now l.mixed) % 2 ^ 32) × (l.block-iterator.0 < 2 ^ blocks l.self.words)
