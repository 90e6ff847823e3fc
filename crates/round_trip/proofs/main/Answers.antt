-- `main` is safe and ends: what was written lies in the buffer. Assumes nothing.
use Rattle.round_trip.proofs.Kit.{arith, sym, length-take-le}
use Rattle.round_trip.proofs.RoundTrips.{agreed_inside}
use Rattle.round_trip.proofs.main.Goals as goal

pub slice_bounds-buffer-end : goal.slice_bounds-buffer-end
slice_bounds-buffer-end c =
    let o = c.open_and_write in
    omega (arith, agreed_inside _ _ _ _ _ o.result _ _ o.ensures c.in-Ok.is, o.auto.buffer)

pub slice_bounds-write_all-end : goal.slice_bounds-write_all-end
slice_bounds-write_all-end c =
    let o = c.open_and_write in
    sym (length-take-le _ _ (omega (arith, agreed_inside _ _ _ _ _ o.result _ _ o.ensures c.in-Ok.is, o.auto.buffer)))
