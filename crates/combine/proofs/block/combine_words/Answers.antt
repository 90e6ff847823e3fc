-- `combine_words` meets its contract: the words of each kind make the block's. Assumes nothing.
use Rattle.combine.proofs.Kit.{sym, ◌∙◌, arith}
use Rattle.combine.proofs.WordKinds.{pairs_fit, first_fits, second_fits, words_made}
use Rattle.combine.proofs.block.combine_words.Goals as goal

pub combine_pairs-paired-requires : goal.combine_pairs-paired-requires
combine_pairs-paired-requires g c =
    let s = rw c.first.ensures at c.of-split.ensures in
    let fits = pairs_fit _ c.args.x.masks c.args.x.stored.now c.args.y.masks c.args.y.stored.now c.args.third.now c.requires.1 c.of-split.result s
    (omega arith) (omega arith) (omega arith) (omega arith) (omega arith) in
    (c.requires.2, c.requires.3, c.requires.1, rw (c.mixed-x_mixed.ensures, c.mixed-y_mixed.ensures) fits)

pub combine_lone-of_first-requires : goal.combine_lone-of_first-requires
combine_lone-of_first-requires g c =
    let s = rw c.first.ensures at c.of-split.ensures in
    let fits = first_fits _ c.args.x.masks c.args.x.stored.now c.args.y.masks c.args.y.stored.now c.args.third.now c.requires.1 c.of-split.result s
    (omega arith) (omega arith) (omega arith) (omega arith) (omega arith) in
    let n = c.combine_pairs-paired.ensures.puts.same_length in
    (c.requires.2 ∙ sym n, rw n c.requires.1, rw (n, c.mixed-y_mixed.ensures) fits)

pub combine_lone-of_second-requires : goal.combine_lone-of_second-requires
combine_lone-of_second-requires g c =
    let s = rw c.first.ensures at c.of-split.ensures in
    let fits = second_fits _ c.args.x.masks c.args.x.stored.now c.args.y.masks c.args.y.stored.now c.args.third.now c.requires.1 c.of-split.result s
    (omega arith) (omega arith) (omega arith) (omega arith) (omega arith) in
    let n = c.combine_lone-of_first.ensures.puts.same_length ∙ c.combine_pairs-paired.ensures.puts.same_length in
    (c.requires.3 ∙ sym n, rw n c.requires.1, rw (n, c.mixed-x_mixed.ensures) fits)

pub returns : goal.returns
returns g c =
    let x = c.mixed-x_mixed.ensures in
    let y = c.mixed-y_mixed.ensures in
    words_made _ c.args.x.masks c.args.x.stored.now c.args.y.masks c.args.y.stored.now c.args.third.now c.requires.1 c.of-split.result
    (rw c.first.ensures at c.of-split.ensures) (omega arith) (omega arith) (omega arith)
    (omega arith) (omega arith) (omega arith) (omega arith) (omega arith) (rw (x, y) at c.combine_pairs-paired.ensures)
    (rw (y, c.word.ensures) at c.combine_lone-of_first.ensures) (rw (x, c.word-2.ensures) at c.combine_lone-of_second.ensures)
