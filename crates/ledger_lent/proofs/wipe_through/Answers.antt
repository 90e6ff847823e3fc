-- `ledger_lent::wipe_through`: a refused wipe leaves the lent head, whatever the journal. Assumes nothing.
use Rattle.std.proofs.Common.{◌≡◌, ap}
use Rattle.answers.proofs.Numbers.{passed_on}
use Rattle.ledger.specs.Memory.{Memory}
use Rattle.ledger_lent.proofs.wipe_through.Goals as goal

pub returns-in_err-answer : goal.returns-in_err-answer
returns-in_err-answer c =
    λ j. let refused = c.in_err-answer.ensures j in
    let same : c.wipe_lent.new.head ≡ c.args.head = ap (λ (x : Memory). x.head) (refused.unchanged (λ x. x)) in
    rw (passed_on _ c.from_residual.ensures.1) (rw same at refused)
