-- `assign` meets its contract: one law of AssignReturns for each return. Assumes nothing.
use Rattle.ledger.proofs.AssignReturns.{not_lent, outside, too_many, write_room, not_refused, RunsWritten, untouched, recorded}
use Rattle.ledger.proofs.Refusals.{lent_accepted}
use Rattle.answers.proofs.Numbers.{passed_on}
use Rattle.ledger.proofs.Kit.{arith, refl, sym}
use Rattle.ledger.proofs.Ledger.assign.Goals as goal
use Rattle.ledger.proofs.Ledger.assign.Goals.{then-used-self, else-used-self+in_ok-done}

pub returns-in_err-check : goal.returns-in_err-check
returns-in_err-check c = rw (passed_on _ c.from_residual.ensures.1) (not_lent _ _ _ _ _ _ _ c.in_err-check.ensures)

pub returns-then-end-self : goal.returns-then-end-self
returns-then-end-self c = outside _ _ _ _ _ _ (sym c.in_ok-check.ensures) c.if-end-self.true

pub overflow_sub-self : goal.overflow_sub-self
overflow_sub-self c = let l = lent_accepted _ _ _ _ (sym c.in_ok-check.ensures) in omega arith

-- a call that needs more numbers than are left:
-- it is refused, with storage and journal as they were
pub returns-then-not-fit : goal.returns-then-not-fit
returns-then-not-fit c =
    too_many _ _ _ _ _ _ _ _ (sym c.in_ok-check.ensures) (omega arith) (omega arith) c.fit.ensures c.if-not-fit.true

pub write_call-used-requires : goal.write_call-used-requires
write_call-used-requires c = write_room _ c.args.storage.now _ c.args.start c.args.end c.args.value _ (sym c.in_ok-check.ensures) (omega arith)

pub returns-in_err-done : goal.returns-in_err-done
returns-in_err-done c = absurd (not_refused _ _ _ _ _ _ (sym c.in_ok-check.ensures) (omega arith) _ _ c.in_err-done.ensures)

-- the runs are written, and then the range is assigned where there are any
pub returns : goal.returns
returns c =
    let w : RunsWritten c.args.self c.args.storage.now c.args.journal.now c.args.start c.args.end c.args.value c.write_call-used.result _ c.write_call-used.new.journal =
    record {
      lent = sym c.in_ok-check.ensures;
      end_within = omega arith;
      most_is = omega arith;
      fits = rw c.if-not-fit.false at c.fit.ensures;
      writes = c.write_call-used.ensures;
      same_journal = omega arith;
    } in
    elim c.if-used-self.branch [
      | then-used-self x ↦ rw (x.storage-is, x.done-is) (recorded _ _ _ _ _ _ _ _ _ w _ _ (untouched _ _ _ _ _ _ _ _ _ w x.if-used-self.true) refl)
      | else-used-self+in_ok-done x ↦ rw (x.done-is, x.storage-is) (recorded _ _ _ _ _ _ _ _ _ w _ _ x.in_ok-done.ensures (omega arith))
    ]
