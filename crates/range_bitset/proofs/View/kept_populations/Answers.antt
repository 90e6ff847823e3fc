-- `kept_populations` meets its contract. Assumes nothing.
use Rattle.range_bitset.proofs.Kit.{ap, arith}
use Rattle.bits.proofs.Walks.{left_lt, walk_none}
use Rattle.range_bitset.specs.Layout.{at, population}
use Rattle.range_bitset.proofs.Walked.{lowest_block, kept_sum, kept_step}
use Rattle.range_bitset.proofs.View.kept_populations.Goals as goal

pub bounds-self-population_slot : goal.bounds-self-population_slot
bounds-self-population_slot c =
    let p = c.args.self.room in
    let q = c.in-Some.ensures.steps in
    omega (arith, p.long, c.population_slot.ensures, q.1, lowest_block _ _ p _ q.0 c.loop-block.invariant.1)

pub loop-block-preserved : goal.loop-block-preserved
loop-block-preserved c =
    let q = c.in-Some.ensures.steps in
    (kept_step _ _ c.args.self.room _ _ q c.loop-block.invariant.1 c.population_slot.ensures c.loop-block.invariant.0, left_lt q _ c.loop-block.invariant.1)

pub returns : goal.returns
returns c =
    let a = c.args in
    omega (arith, c.loop-block.invariant.0, ap (kept_sum a.self.words a.self.storage.now) c.in-None.ensures.steps.0, walk_none 64 (λ b. at a.self.words a.self.storage.now (population b)))
