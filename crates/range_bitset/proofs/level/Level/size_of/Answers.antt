-- `size_of` meets its contract. Assumes nothing.
use Rattle.range_bitset.proofs.Kit.{add-one}
use Rattle.range_bitset.specs.Levels.{size_of}
use Rattle.range_bitset.proofs.level.Level.size_of.Goals as goal

pub returns-then-self : goal.returns-then-self
unfolding size_of
returns-then-self g c = rw (c.if-self.true, c.population-set.ensures)

pub returns-else-self : goal.returns-else-self
unfolding size_of
returns-else-self g c = rw (c.if-self.false, c.population-set.ensures, c.start_of.ensures, add-one c.args.part)
