-- `perform_live` meets its contract: each arm is the promise of the call that it makes. Assumes nothing.
use Rattle.sheetmark.proofs.Kit.{arith}
use Rattle.sheetmark.proofs.Performing.{performed, by_call, by_search}
use Rattle.sheetmark.proofs.perform_live.Goals as goal

pub returns-in-One : goal.returns-in-One
returns-in-One c =
    performed _ _ _ _ _ _ _ c.in-One.is (by_search _ _ _ _ c.next_one.result _ (omega arith) c.next_one.ensures c.from-in-One.ensures)

pub returns-in-Zero : goal.returns-in-Zero
returns-in-Zero c =
    performed _ _ _ _ _ _ _ c.in-Zero.is (by_search _ _ _ _ c.next_zero.result _ (omega arith) c.next_zero.ensures c.from-in-Zero.ensures)

pub returns-in-Wipe : goal.returns-in-Wipe
returns-in-Wipe c =
    performed _ _ _ _ _ _ _ c.in-Wipe.is (by_call _ _ _ _ _ _ c.wipe.result c.of_call-in-Wipe.result c.of_call-in-Wipe.ensures (c.wipe.ensures _))
