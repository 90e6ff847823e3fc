-- `size_of` meets its contract. Assumes nothing.
use Rattle.combine.proofs.Kit.{arith}
use Rattle.combine.proofs.RuleMasks.{bit_set, bit_clear}
use Rattle.combine.proofs.Sides.{laid_blocks, size_without, size_some, size_with}
use Rattle.combine.proofs.source.size_of.Goals as goal

pub overflow_sub-result-else-mask-at-eq0 : goal.overflow_sub-result-else-mask-at-eq0
overflow_sub-result-else-mask-at-eq0 c =
    let e = laid_blocks c.args.at c.requires.0 in
    rw e (size_some c.args.at.words c.args.mask c.requires.2 c.requires.1 c.requires.3 (bit_set c.args.mask _ (omega arith) (rw e at c.if-mask-at-eq0.false)))

pub returns-then-mask-at-eq0 : goal.returns-then-mask-at-eq0
returns-then-mask-at-eq0 c =
    let e = laid_blocks c.args.at c.requires.0 in
    size_without c.args.at.words c.args.mask c.requires.2 c.requires.1 c.requires.3 (bit_clear c.args.mask _ (omega arith) (rw e at c.if-mask-at-eq0.true))

pub returns-else-mask-at-eq0 : goal.returns-else-mask-at-eq0
returns-else-mask-at-eq0 c =
    let e = laid_blocks c.args.at c.requires.0 in
    rw e (size_with c.args.at.words c.args.mask c.requires.2 c.requires.1 c.requires.3 (bit_set c.args.mask _ (omega arith) (rw e at c.if-mask-at-eq0.false)))
