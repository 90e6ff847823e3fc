-- `Source::combine_block` meets its contract. Assumes nothing.
use Rattle.combine.proofs.Kit.{◌≡◌, refl, ◌∙◌, arith, ◌+◌, ◌*◌, ◌-◌}
use Rattle.range_bitset.specs.Layout.{words_of}
use Rattle.range_bitset.proofs.Walked.{part_long}
use Rattle.combine.proofs.Sides.{laid_nonzero, laid_full, laid_population}
use Rattle.combine.proofs.WrittenBlock.{block_made}
use Rattle.combine.proofs.source.Source.combine_block.Goals as goal

pub returns : goal.returns
returns g c =
    let laid = c.args.self.laid in
    let b = c.args.block in
    let a = c.args.self.at in
    let long = c.requires.0.long in
    let n : 64 * b + c.words_of.result - 64 * b ≡ words_of a.words b = omega (arith, c.words_of.ensures) in
    block_made _ c.args.self c.args.other b _ _ c.combine_words-made.new.third _ _ c.requires.0 c.requires.2
    (part_long c.args.third.now (64 * b) c.words_of.result (omega (arith, c.words_of.ensures, c.requires.2, long)) ∙ c.words_of.ensures)
    (rw (c.words.ensures.0, c.words.ensures.1, c.words-2.ensures.0, c.words-2.ensures.1) at c.combine_words-made.ensures)
    (rw (n, laid_nonzero a laid b, laid_full a laid b, laid_population a laid b) refl)
