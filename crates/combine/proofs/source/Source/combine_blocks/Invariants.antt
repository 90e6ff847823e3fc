-- `Source::combine_blocks` meets its contract. The invariant: the blocks that are past are written, gathered in the top masks and counted. Assumes nothing.
use Rattle.combine.proofs.BlockWalk.{Walk}
use Rattle.combine.proofs.source.Source.combine_blocks.Given as goal

abbrev pub invariant-loop-block : goal.invariant-loop-block
invariant-loop-block g l =
    Walk g.R.Rule.of l.self l.other l.fn.third l.third l.block-iterator.0 l.nonzero l.full l.population
