-- `range_bitset::RangeBitset::run_after` meets its contract: each return by its law. Assumes nothing.
use Rattle.range_bitset.proofs.SearchReturns.{run_past, run_later}
use Rattle.range_bitset.proofs.Kit.{arith}
use Rattle.range_bitset.proofs.RangeBitset.run_after.Goals as goal

pub next_after-start-requires : goal.next_after-start-requires
next_after-start-requires c = omega (arith, c.requires.1, c.requires.2)

pub returns-then-start-end : goal.returns-then-start-end
returns-then-start-end c = run_past _ _ _ _ c.args.value _ c.requires.1 c.requires.2 c.next_after-start.ensures c.if-start-end.true

pub returns : goal.returns
returns c = run_later _ _ _ _ c.args.value _ c.requires.1 c.requires.2 c.next_after-start.ensures _ c.next_from.ensures
