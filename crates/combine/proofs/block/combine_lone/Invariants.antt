-- `combine_lone` meets its contract. The invariant: the words that are past are written and counted. Assumes nothing.
use Rattle.combine.specs.Inner.{lone_word}
use Rattle.combine.proofs.StoredWords.{Along}
use Rattle.combine.proofs.block.combine_lone.Given as goal

abbrev pub invariant-loop-i : goal.invariant-loop-i
invariant-loop-i l = Along l.fn.mask (lone_word l.stored l.over) l.fn.third l.third l.i-iterator.0 l.population
