-- `ledger::Ledger::wipe` meets its contract. Assumes nothing.
use Rattle.ledger.proofs.Kit.{sym}
use Rattle.ledger.proofs.BackReturns.{wipe_refused, not_refused, wiped}
use Rattle.answers.proofs.Numbers.{passed_on}
use Rattle.ledger.proofs.Ledger.wipe.Goals as goal

pub returns-in_err-check : goal.returns-in_err-check
returns-in_err-check c = λ j. rw (passed_on _ c.from_residual.ensures.1) (wipe_refused _ _ j _ c.in_err-check.ensures)

pub returns-in_err-done : goal.returns-in_err-done
returns-in_err-done c = λ j. absurd (not_refused _ _ j (sym c.in_ok-check.ensures) _ _ c.in_err-done.ensures)

pub returns : goal.returns
returns c = λ j. wiped _ _ j _ _ (sym c.in_ok-check.ensures) c.in_ok-done.ensures c.clear.auto.storage
