-- `words_population` meets its contract: one law of Walked for each state of the block. Assumes nothing.
use Rattle.range_bitset.proofs.Kit.{sym, ◌∙◌, arith, ones-le}
use Rattle.range_bitset.proofs.Walked.{words_empty, words_full, words_mixed}
use Rattle.range_bitset.proofs.View.words_population.Goals as goal

pub returns-in-Empty : goal.returns-in-Empty
returns-in-Empty c =
    (sym (words_empty _ _ _ _ (sym c.in-Empty.ensures)), omega arith)

pub returns-in-Full : goal.returns-in-Full
returns-in-Full c =
    (sym (words_full _ _ _ _ c.ranges.mask.fits (sym c.in-Full.ensures)), omega (arith, ones-le 64 c.args.mask c.ranges.mask.fits))

pub returns-in-Mixed : goal.returns-in-Mixed
returns-in-Mixed c =
    (c.mixed_words_population.ensures.0 ∙ sym (words_mixed _ _ _ _ (sym c.in-Mixed.ensures)), c.mixed_words_population.ensures.1)
