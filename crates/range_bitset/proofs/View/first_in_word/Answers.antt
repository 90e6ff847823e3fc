-- `range_bitset::View::first_in_word` meets its contract. Assumes nothing.
use Rattle.range_bitset.proofs.SearchReturns.{valued, first_in_word}
use Rattle.range_bitset.proofs.View.first_in_word.Goals as goal

pub returns : goal.returns
returns c = first_in_word _ _ _ _ _ (valued _ _ _ _ _ c.requires c.word_bits-bits.ensures)
