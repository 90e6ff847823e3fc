-- `Source::combine_blocks` meets its contract, by its loop's invariant. Assumes nothing.
use Rattle.combine.proofs.Kit.{refl, ap, ◌∙◌, arith, ℕ, ◌-◌, ◌^◌}
use Rattle.combine.proofs.Sides.{laid_blocks, laid_top_nonzero, laid_top_full}
use Rattle.combine.proofs.BlockWalk.{full_fits, walk_first, next_in, walk_next, walk_last}
use Rattle.combine.proofs.source.Source.combine_blocks.Goals as goal

pub size_of-population-requires : goal.size_of-population-requires
size_of-population-requires g c =
    let laid = c.args.self.laid in
    let room = c.args.self.room in
    let valid = c.first.ensures ∙ ap (λ (n : ℕ). 2 ^ n - 1) (laid_blocks c.args.self.at laid) in
    (laid, room.most, room.some, full_fits _ c.args.self c.args.other c.args.third.now c.requires.1 c.of-split.result (rw valid at c.of-split.ensures) (omega arith))

pub loop-block-init : goal.loop-block-init
loop-block-init g c =
    let valid = c.first.ensures ∙ ap (λ (n : ℕ). 2 ^ n - 1) (laid_blocks c.args.self.at c.args.self.laid) in
    rw (c.into_iter-block-iterator.ensures.into_iter_gives, c.size_of-population.ensures)
    (walk_first _ c.args.self c.args.other c.args.third.now c.requires.1 c.of-split.result (rw valid at c.of-split.ensures) (omega (arith, c.args.self.room.most)) (omega arith) (omega arith))

pub combine_block-made-requires : goal.combine_block-made-requires
combine_block-made-requires g c =
    let v = c.loop-block.invariant in
    let room = c.requires.0 in
    (record { some = room.some; most = room.most; long = omega (arith, v.same_length, room.long) }, c.requires.1, (next_in _ _ _ _ c.requires.1 v c.in-Some.ensures.steps).0)

pub words_of-requires : goal.words_of-requires
words_of-requires g c =
    (c.args.self.laid, c.args.self.room.most, (next_in _ _ _ _ c.requires.1 c.loop-block.invariant c.in-Some.ensures.steps).0)

pub first-requires-in-loop-block : goal.first-requires-in-loop-block
first-requires-in-loop-block g c =
    let l = (next_in _ _ _ _ c.requires.1 c.loop-block.invariant c.in-Some.ensures.steps).0 in
    (omega (arith, c.words_of.ensures, l), omega (arith, c.words_of.ensures))

pub loop-block-preserved : goal.loop-block-preserved
loop-block-preserved g c =
    walk_next _ _ _ _ c.requires.1 c.loop-block.invariant c.in-Some.ensures.steps c.combine_block-made.ensures c.with-nonzero.ensures
    (rw (c.first-in-loop-block.ensures, c.words_of.ensures) at c.with-full.ensures)

pub returns : goal.returns
returns g c =
    let laid = c.args.self.laid in
    walk_last _ _ _ _ c.requires.1 c.requires.0.long c.loop-block.invariant c.in-None.ensures.steps.0
    (rw (laid_top_nonzero c.args.self.at laid, laid_top_full c.args.self.at laid) refl)
