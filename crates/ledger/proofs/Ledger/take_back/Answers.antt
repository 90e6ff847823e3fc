-- `ledger::Ledger::take_back` meets its contract. Assumes nothing.
use Rattle.ledger.proofs.Kit.{sym, arith}
use Rattle.ledger.proofs.Refusals.{lent_accepted}
use Rattle.ledger.proofs.BackReturns.{last_read, last_absent, back_refused, back_none, back_room, taken_back}
use Rattle.answers.proofs.Numbers.{passed_on}
use Rattle.ledger.proofs.Ledger.take_back.Goals as goal

pub returns-in_err-check : goal.returns-in_err-check
returns-in_err-check c = rw (passed_on _ c.from_residual.ensures.1) (back_refused _ _ _ _ c.in_err-check.ensures)

pub last_call-requires : goal.last_call-requires
last_call-requires c =
    let a = lent_accepted _ _ _ _ (sym c.in_ok-check.ensures) in
    omega (arith, a.used_most, a.journal_long)

pub returns-in_default : goal.returns-in_default
returns-in_default c = back_none _ _ _ (sym c.in_ok-check.ensures) (last_absent _ _ c.in_default.ensures)

pub overflow_mul-used : goal.overflow_mul-used
overflow_mul-used c =
    let a = lent_accepted _ _ _ _ (sym c.in_ok-check.ensures) in
    let r = last_read _ _ _ c.in-Some.ensures in
    omega (arith, r.fits, a.used_most, a.journal_most)

pub overflow_add-used : goal.overflow_add-used
overflow_add-used c =
    let a = lent_accepted _ _ _ _ (sym c.in_ok-check.ensures) in
    let r = last_read _ _ _ c.in-Some.ensures in
    omega (arith, r.fits, a.used_most, a.journal_most)

pub overflow_sub-used : goal.overflow_sub-used
overflow_sub-used c = (last_read _ _ _ c.in-Some.ensures).fits

pub assign_runs-back-requires : goal.assign_runs-back-requires
assign_runs-back-requires c =
    back_room _ c.args.storage.now _ _ _ (sym c.in_ok-check.ensures) (last_read _ _ _ c.in-Some.ensures)

pub returns : goal.returns
returns c =
    taken_back _ _ _ _ _ _ _ _ (sym c.in_ok-check.ensures) (last_read _ _ _ c.in-Some.ensures) c.assign_runs-back.auto.storage c.assign_runs-back.ensures
