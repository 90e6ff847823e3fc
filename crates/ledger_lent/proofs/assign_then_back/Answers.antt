-- `ledger_lent::assign_then_back`: a call by value and one in the lent form are a chain. Assumes nothing.
use Rattle.ledger_lent.proofs.Forms.{two_calls}
use Rattle.ledger_lent.proofs.assign_then_back.Goals as goal
use Rattle.ledger_lent.proofs.assign_then_back.Goals.{in-Ok, in-Err}

pub returns : goal.returns
returns c =
    let second = c.take_back_lent-second.ensures in
    elim c.match-assign.branch [
      | in-Ok w ↦ two_calls _ _ _ _ _ _ _ (rw w.first-is w.in-Ok.ensures) second
      | in-Err w ↦ two_calls _ _ _ _ _ _ _ (rw w.first-is w.in-Err.ensures) second
    ]
