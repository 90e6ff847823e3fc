-- `range_bitset::View::word` meets its contract. Assumes nothing.
use Rattle.range_bitset.proofs.Kit.{sym}
use Rattle.range_bitset.specs.Read.{word_read}
use Rattle.range_bitset.proofs.View.word.Goals as goal

pub returns-in-Empty : goal.returns-in-Empty
unfolding word_read
returns-in-Empty c = rw (sym c.in-Empty.ensures)

pub returns-in-Full : goal.returns-in-Full
unfolding word_read
returns-in-Full c = rw (sym c.in-Full.ensures)

pub returns-in-Mixed : goal.returns-in-Mixed
unfolding word_read
returns-in-Mixed c = rw (sym c.in-Mixed.ensures) c.mixed_word.ensures
