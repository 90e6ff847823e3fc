-- `range_bitset::View::run_from` meets its contract: each return by its law. Assumes nothing.
use Rattle.range_bitset.proofs.SearchReturns.{no_start, run_none, start_there, run_in_word, run_whole, run_on}
use Rattle.range_bitset.proofs.View.run_from.Goals as goal

pub returns-then-end-next : goal.returns-then-end-next
returns-then-end-next g c =
    run_none _ _ _ _ _ c.requires.0 c.requires.1 _ _ c.word_bits-bits.type_inv c.word_bits-bits.ensures c.rest.ensures c.if-later-eq0.true c.if-end-next.true

pub run_after-requires : goal.run_after-requires
run_after-requires g c = (c.args.self.room, c.requires.0, c.requires.1)

pub returns-then-later-eq0 : goal.returns-then-later-eq0
returns-then-later-eq0 g c =
    c.run_after.ensures (no_start _ _ _ _ _ c.requires.0 c.requires.1 _ _ c.word_bits-bits.type_inv c.word_bits-bits.ensures c.rest.ensures c.if-later-eq0.true)

pub returns-then-others-ne0 : goal.returns-then-others-ne0
returns-then-others-ne0 g c =
    run_in_word _ _ _ _ _ c.requires.0 c.requires.1 _ _ c.word_bits-bits.type_inv c.word_bits-bits.ensures c.rest.ensures c.if-later-eq0.false _ c.rest-2.ensures c.if-others-ne0.true

pub returns-then-end-next-2 : goal.returns-then-end-next-2
returns-then-end-next-2 g c =
    run_whole _ _ _ _ _ c.requires.0 c.requires.1 _ _ c.word_bits-bits.type_inv c.word_bits-bits.ensures c.rest.ensures c.if-later-eq0.false _ c.rest-2.ensures c.if-others-ne0.false c.if-end-next-2.true

pub end_after-requires : goal.end_after-requires
end_after-requires g c =
    (c.args.self.room, start_there _ _ _ _ _ c.requires.0 c.requires.1 _ _ c.word_bits-bits.type_inv c.word_bits-bits.ensures c.rest.ensures c.if-later-eq0.false)

pub returns : goal.returns
returns g c =
    run_on _ _ _ _ _ c.requires.0 c.requires.1 _ _ c.word_bits-bits.type_inv c.word_bits-bits.ensures c.rest.ensures c.if-later-eq0.false _ c.rest-2.ensures c.if-others-ne0.false _ c.end_after.ensures
