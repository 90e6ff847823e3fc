-- `ledger::Ledger::open` meets its contract. Assumes nothing.
use Rattle.ledger.proofs.OpenReturns.{open_header, open_size, open_length, open_lent, open_run, open_done}
use Rattle.answers.proofs.Numbers.{passed_on}
use Rattle.ledger.proofs.Kit.{sym}
use Rattle.ledger.proofs.Ledger.open.Goals as goal

pub returns-in_err-header : goal.returns-in_err-header
returns-in_err-header c = rw (passed_on _ c.from_residual.ensures.1) (open_header _ _ _ _ _ c.in_err-header.ensures)

pub returns-in_err-head : goal.returns-in_err-head
returns-in_err-head c =
    rw (passed_on _ c.from_residual-in_err-head.ensures.1) (open_size _ _ _ _ _ c.in_ok-header.ensures _ c.in_err-head.ensures)

pub returns-in_err-check_length : goal.returns-in_err-check_length
returns-in_err-check_length c =
    rw (passed_on _ c.from_residual-in_err-check_length.ensures.1)
    (open_length _ _ _ _ _ c.in_ok-header.ensures _ c.in_ok-head.ensures _ c.in_err-check_length.ensures)

pub returns-in_err-check : goal.returns-in_err-check
returns-in_err-check c =
    rw (passed_on _ c.from_residual-in_err-check.ensures.1)
    (open_lent _ _ _ _ _ c.in_ok-header.ensures _ c.in_ok-head.ensures _ c.in_ok-check_length.ensures _ c.in_err-check.ensures)

pub returns-in_err-check_runs : goal.returns-in_err-check_runs
returns-in_err-check_runs c =
    rw (passed_on _ c.from_residual-in_err-check_runs.ensures.1)
    (open_run _ _ _ _ _ c.in_ok-header.ensures _ c.in_ok-head.ensures _ c.in_ok-check_length.ensures (sym c.in_ok-check.ensures) _ c.in_err-check_runs.ensures)

pub returns : goal.returns
returns c =
    open_done _ _ _ _ _ c.in_ok-header.ensures _ c.in_ok-head.ensures _ c.in_ok-check_length.ensures (sym c.in_ok-check.ensures) _ c.in_ok-check_runs.ensures _ _
    c.assign_file-set.auto.storage c.assign_file-set.ensures
