-- `range_bitset::RangeBitset::clear` meets its contract. Assumes nothing.
use Rattle.range_bitset.proofs.ChangeReturns.{clear_idle, clear_done}
use Rattle.range_bitset.proofs.AcceptedHeads.{accepted}
use Rattle.range_bitset.proofs.BegunStorage.{begins_to}
use Rattle.range_bitset.proofs.Kit.{sym}
use Rattle.std.proofs.Common.{rules}
use Rattle.range_bitset.proofs.RangeBitset.clear.Goals as goal

pub returns-then-self-eq0 : goal.returns-then-self-eq0
returns-then-self-eq0 c = clear_idle _ _ (sym c.in_ok-check_storage.ensures) c.if-self-eq0.true

pub invariant_of-ensure_storage : goal.invariant_of-ensure_storage
invariant_of-ensure_storage c = record { room = accepted _ _ (sym c.in_ok-check_storage.ensures) }

pub returns : goal.returns
returns c =
    clear_done _ _ (sym c.in_ok-check_storage.ensures) _
    c.if-self-eq0.false (begins_to _ _ _ (search rules) c.ensure_storage.ensures.begun)
