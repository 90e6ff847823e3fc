-- `open_and_write` meets its contract: not opened, not written, and written. Assumes nothing.
use Rattle.round_trip.proofs.RoundTrips.{agrees_short, agrees_written}
use Rattle.answers.proofs.Numbers.{passed_on}
use Rattle.round_trip.proofs.open_and_write.Goals as goal

pub returns-in_err-length : goal.returns-in_err-length
returns-in_err-length c =
    rw (passed_on _ c.from_residual-in_err-length.ensures.1)
    (agrees_short _ _ _ _ _ _ _ _ _ (λ i. (c.type_inv.file i).fits) c.in_ok-head.ensures c.in_err-length.ensures)

pub returns : goal.returns
returns c = agrees_written _ _ _ _ _ _ _ _ _ (λ i. (c.type_inv.file i).fits) c.in_ok-head.ensures c.in_ok-length.ensures
