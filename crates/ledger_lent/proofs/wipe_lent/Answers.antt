-- `ledger_lent::wipe_lent`: a refused wipe is the core's, whatever the journal. Assumes nothing.
use Rattle.answers.proofs.Numbers.{passed_on}
use Rattle.ledger_lent.proofs.wipe_lent.Goals as goal

pub returns-in_err-done : goal.returns-in_err-done
returns-in_err-done c = λ j. rw (passed_on _ c.from_residual.ensures.1) (c.in_err-done.ensures j)

pub returns : goal.returns
returns c = λ j. rw (c.store.ensures.answer, c.store.ensures.head) (c.in_ok-done.ensures j)
