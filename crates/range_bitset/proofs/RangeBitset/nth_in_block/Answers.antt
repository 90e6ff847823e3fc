-- `nth_in_block` meets its contract: one law of SelectReturns for each return. Assumes nothing.
use Rattle.range_bitset.proofs.Kit.{refl}
use Rattle.range_bitset.proofs.SelectReturns.{in_whole_words, in_one_word}
use Rattle.range_bitset.proofs.RangeBitset.nth_in_block.Goals as goal

pub returns-in-At : goal.returns-in-At
returns-in-At c =
    let p = c.requires in
    in_whole_words _ _ _ p.0 p.1 _ _ c.words_per_block-size.ensures _ refl refl c.candidate_words-some.ensures c.candidate_words-others.ensures _ _ c.in-At.ensures

pub returns-in-Within : goal.returns-in-Within
returns-in-Within c =
    let p = c.requires in
    in_one_word _ _ _ p.0 p.1 _ _ c.words_per_block-size.ensures _ refl refl c.candidate_words-some.ensures c.candidate_words-others.ensures _ _ _ _ _ _ c.in-Within.ensures refl c.word_bits-bits.ensures c.nth_in_word.ensures
