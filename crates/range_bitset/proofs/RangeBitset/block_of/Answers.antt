-- `block_of` meets its contract. Assumes nothing.
use Rattle.range_bitset.proofs.Kit.{sym, arith}
use Rattle.range_bitset.proofs.AcceptedHeads.{point_accepted}
use Rattle.range_bitset.proofs.RangeBitset.block_of.Goals as goal

pub invariant_of-view : goal.invariant_of-view
invariant_of-view c = record { room = (point_accepted c.args.self c.args.storage.now c.args.index (sym c.in_ok-check_point.ensures)).0 }

pub block_state-requires : goal.block_state-requires
block_state-requires c = let q = point_accepted c.args.self c.args.storage.now c.args.index (sym c.in_ok-check_point.ensures) in omega (arith, q.1)

pub words_per_block-requires : goal.words_per_block-requires
words_per_block-requires c = let q = point_accepted c.args.self c.args.storage.now c.args.index (sym c.in_ok-check_point.ensures) in omega (arith, q.1)

pub mixed_block-requires : goal.mixed_block-requires
mixed_block-requires c = let q = point_accepted c.args.self c.args.storage.now c.args.index (sym c.in_ok-check_point.ensures) in omega (arith, q.1)
