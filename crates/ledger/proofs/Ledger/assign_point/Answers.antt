-- `assign_point` meets its contract: a point ends one behind it, and usize's greatest lies above every capacity. Assumes nothing.
use Rattle.ledger.proofs.AssignReturns.{not_lent, outside}
use Rattle.ledger.proofs.Refusals.{lent_accepted, ledger_words}
use Rattle.answers.proofs.Numbers.{passed_on}
use Rattle.ledger.proofs.Kit.{add-one, arith, sym, ◌∙◌}
use Rattle.ledger.proofs.Ledger.assign_point.Goals as goal

pub returns-in_err-check : goal.returns-in_err-check
returns-in_err-check c = rw (passed_on _ c.from_residual.ensures.1) (not_lent _ _ _ _ _ _ _ c.in_err-check.ensures)

pub returns-in_default : goal.returns-in_default
returns-in_default c =
    let l = lent_accepted _ _ _ _ (sym c.in_ok-check.ensures) in
    let w = ledger_words _ l.good in
    outside _ _ _ _ _ _ (sym c.in_ok-check.ensures) (omega (arith, c.in_default.ensures))

pub returns : goal.returns
returns c = rw (c.in-Some.ensures.1 ∙ add-one c.args.index) at c.assign.ensures
