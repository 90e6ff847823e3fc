-- `ledger::Ledger::last_call` meets its contract. Assumes nothing.
use Rattle.ledger.proofs.BackReturns.{last_none, last_some}
use Rattle.ledger.proofs.Ledger.last_call.Goals as goal

pub returns-in_err-last : goal.returns-in_err-last
returns-in_err-last c = rw c.from_residual.ensures (last_none _ _ c.requires c.in_err-last.ensures.item.3)

pub returns : goal.returns
returns c = let e = c.in_ok-last.ensures.item in last_some _ _ _ _ c.requires e.3.0 (e.3.1 0) c.min.ensures
