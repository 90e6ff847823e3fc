-- `select` meets its contract: one law of SelectReturns for each return. Assumes nothing.
use Rattle.range_bitset.proofs.Kit.{sym}
use Rattle.range_bitset.proofs.AcceptedHeads.{accepted}
use Rattle.range_bitset.proofs.SelectReturns.{select_past, select_found}
use Rattle.range_bitset.proofs.RangeBitset.select.Goals as goal

pub returns-then-n-len : goal.returns-then-n-len
returns-then-n-len c = select_past _ _ _ (sym c.in_ok-check_storage.ensures) c.if-n-len.true

pub invariant_of-view : goal.invariant_of-view
invariant_of-view c = record { room = accepted c.args.self c.args.storage.now (sym c.in_ok-check_storage.ensures) }

pub returns : goal.returns
returns c =
    select_found _ _ _ (sym c.in_ok-check_storage.ensures) _ c.if-n-len.false c.nth.ensures
