-- `range_bitset::View::next_after` meets its contract: one law of SearchReturns for each return. Assumes nothing.
use Rattle.range_bitset.proofs.SearchReturns.{in_same_block, word_there, past, no_block, block_there, none_in_block, later_there, in_later_block}
use Rattle.range_bitset.proofs.View.next_after.Goals as goal

pub first_in_word-requires : goal.first_in_word-requires
first_in_word-requires c =
    word_there _ _ _ _ c.requires _ _ c.candidate_words.ensures c.above.ensures c.if-later_words-ne0.true

pub returns-then-later_words-ne0 : goal.returns-then-later_words-ne0
returns-then-later_words-ne0 c =
    λ o. in_same_block _ _ _ _ c.requires _ _ c.candidate_words.ensures c.above.ensures c.if-later_words-ne0.true o _ c.first_in_word.ensures

pub returns-then-later_blocks-eq0 : goal.returns-then-later_blocks-eq0
returns-then-later_blocks-eq0 c =
    λ o. no_block _ _ _ _ c.requires c.args.self.room.most _ _ c.candidate_blocks.ensures c.above-2.ensures c.if-later_blocks-eq0.true (past _ _ _ c.args.value c.requires _ _ c.candidate_words.ensures c.above.ensures c.if-later_words-ne0.false o)

pub candidate_words-in_block-requires : goal.candidate_words-in_block-requires
candidate_words-in_block-requires c =
    block_there _ _ _ _ c.requires c.args.self.room.most _ _ c.candidate_blocks.ensures c.above-2.ensures c.if-later_blocks-eq0.false

pub returns-then-in_block-eq0 : goal.returns-then-in_block-eq0
returns-then-in_block-eq0 c =
    λ o. none_in_block _ _ _ _ c.requires c.args.self.room.most _ _ c.candidate_blocks.ensures c.above-2.ensures c.if-later_blocks-eq0.false _ c.candidate_words-in_block.ensures c.if-in_block-eq0.true

pub first_in_word-requires-2 : goal.first_in_word-requires-2
first_in_word-requires-2 c =
    later_there _ _ _ _ c.requires c.args.self.room.most _ _ c.candidate_blocks.ensures c.above-2.ensures c.if-later_blocks-eq0.false _ c.candidate_words-in_block.ensures c.if-in_block-eq0.false

pub returns : goal.returns
returns c =
    λ o. in_later_block _ _ _ _ c.requires c.args.self.room.most _ _ c.candidate_blocks.ensures c.above-2.ensures c.if-later_blocks-eq0.false _ c.candidate_words-in_block.ensures c.if-in_block-eq0.false (past _ _ _ c.args.value c.requires _ _ c.candidate_words.ensures c.above.ensures c.if-later_words-ne0.false o) _ c.first_in_word-2.ensures
