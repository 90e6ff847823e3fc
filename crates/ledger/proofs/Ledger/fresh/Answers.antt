-- `fresh` meets its contract. Assumes nothing.
use Rattle.ledger.proofs.OpenReturns.{set_declined, set_made, fresh_capacity, fresh_journal, fresh_done}
use Rattle.answers.proofs.Numbers.{passed_on}
use Rattle.ledger.proofs.Ledger.fresh.Goals as goal

pub returns-in_err-set : goal.returns-in_err-set
returns-in_err-set c =
    let d = set_declined _ _ c.in_err-set.ensures in
    rw (passed_on _ c.from_residual.ensures.1, d.0) (fresh_capacity _ _ d.1)

pub returns-then-limit : goal.returns-then-limit
returns-then-limit c = fresh_journal _ _ (set_made _ _ c.in_ok-set.ensures).0 c.if-limit.true

pub returns : goal.returns
returns c =
    let m = set_made _ _ c.in_ok-set.ensures in
    rw m.1 (fresh_done _ _ m.0 c.if-limit.false)
