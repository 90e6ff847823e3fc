-- `top_masks` meets its contract. Assumes nothing.
use Rattle.range_bitset.proofs.Kit.{sym}
use Rattle.range_bitset.proofs.AcceptedHeads.{accepted}
use Rattle.range_bitset.proofs.ShownReturns.{tops_shown}
use Rattle.range_bitset.proofs.RangeBitset.top_masks.Goals as goal

pub invariant_of-view : goal.invariant_of-view
invariant_of-view c = record { room = accepted c.args.self c.args.storage.now (sym c.in_ok-check_storage.ensures) }

pub returns : goal.returns
returns c =
    let args = c.args in
    tops_shown args.self args.storage.now _ _ _ _ (sym c.in_ok-check_storage.ensures)
    c.top_nonzero_slot.ensures c.top_full_slot.ensures c.blocks-2.ensures c.span.type_inv c.span.ensures
