-- `ledger::Ledger::new` meets its contract. Assumes nothing.
use Rattle.ledger.proofs.OpenReturns.{new_size, new_lent, new_done}
use Rattle.answers.proofs.Numbers.{passed_on}
use Rattle.ledger.proofs.Kit.{sym}
use Rattle.ledger.proofs.Ledger.new.Goals as goal

pub returns-in_err-head : goal.returns-in_err-head
returns-in_err-head c = rw (passed_on _ c.from_residual.ensures.1) (new_size _ _ _ _ _ c.in_err-head.ensures)

pub returns-in_err-check : goal.returns-in_err-check
returns-in_err-check c =
    rw (passed_on _ c.from_residual-in_err-check.ensures.1) (new_lent _ _ _ _ _ c.in_ok-head.ensures _ c.in_err-check.ensures)

pub returns : goal.returns
returns c = new_done _ _ _ _ _ c.in_ok-head.ensures (sym c.in_ok-check.ensures)
