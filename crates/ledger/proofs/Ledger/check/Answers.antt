-- `ledger::Ledger::check` meets its contract: one law of Refusals for each return. Assumes nothing.
use Rattle.ledger.proofs.Refusals.{head_refused, journal_above, used_above, storage_less, journal_short, all_enough}
use Rattle.range_bitset.proofs.AcceptedHeads.{head_accepted}
use Rattle.answers.proofs.Numbers.{passed_on}
use Rattle.ledger.proofs.Kit.{sym}
use Rattle.ledger.proofs.Ledger.check.Goals as goal
use Rattle.ledger.proofs.Ledger.check.Goals.{then-self-gt-JOURNAL_MOST-via-then-self-gt-JOURNAL_MOST, then-self-gt-JOURNAL_MOST-via-else-self-gt-JOURNAL_MOST+then-self}

pub returns-in_err-check_head : goal.returns-in_err-check_head
returns-in_err-check_head c = rw (passed_on _ c.from_residual.ensures.1) (head_refused _ _ _ _ _ c.in_err-check_head.ensures)

pub returns-then-self-gt-JOURNAL_MOST : goal.returns-then-self-gt-JOURNAL_MOST
returns-then-self-gt-JOURNAL_MOST c =
    let good = head_accepted _ (sym c.in_ok-check_head.ensures) in
    elim c.then-self-gt-JOURNAL_MOST.branch [
      | then-self-gt-JOURNAL_MOST-via-then-self-gt-JOURNAL_MOST w ↦ journal_above _ _ _ _ good w.if-self-gt-JOURNAL_MOST.true
      | then-self-gt-JOURNAL_MOST-via-else-self-gt-JOURNAL_MOST+then-self w ↦
          used_above _ _ _ _ good w.if-self-gt-JOURNAL_MOST.false w.if-self.true
    ]

pub returns-in_err-check_storage : goal.returns-in_err-check_storage
returns-in_err-check_storage c =
    rw (passed_on _ c.from_residual-in_err-check_storage.ensures.1)
    (storage_less _ _ _ _ (head_accepted _ (sym c.in_ok-check_head.ensures)) c.if-self-gt-JOURNAL_MOST.false c.if-self.false _ c.in_err-check_storage.ensures)

pub returns-then-limit-journal_len : goal.returns-then-limit-journal_len
returns-then-limit-journal_len c =
    journal_short _ _ _ _ (head_accepted _ (sym c.in_ok-check_head.ensures)) c.if-self-gt-JOURNAL_MOST.false c.if-self.false
    (sym c.in_ok-check_storage.ensures) c.if-limit-journal_len.true

pub returns : goal.returns
returns c =
    all_enough _ _ _ _ (head_accepted _ (sym c.in_ok-check_head.ensures)) c.if-self-gt-JOURNAL_MOST.false c.if-self.false
    (sym c.in_ok-check_storage.ensures) c.if-limit-journal_len.false
