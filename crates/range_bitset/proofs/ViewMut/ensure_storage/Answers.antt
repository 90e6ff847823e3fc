-- `range_bitset::ViewMut::ensure_storage` meets its contract. Assumes nothing.
use Rattle.range_bitset.proofs.BegunStorage.{begins_fresh}
use Rattle.range_bitset.proofs.ViewMut.ensure_storage.Goals as goal

pub returns-then-not-allocated-clause-begun : goal.returns-then-not-allocated-clause-begun
returns-then-not-allocated-clause-begun c =
    begins_fresh _ _ _ _ c.args.self.now.room (c.if-not-allocated.true) (rw (c.top_full_slot-full.ensures, c.top_nonzero_slot-nonzero.ensures, c.view-view.ensures.0))
