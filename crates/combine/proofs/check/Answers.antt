-- `check` meets its contract: each test stops, or passes to the next. Assumes nothing.
use Rattle.combine.proofs.Kit.{◌∙◌}
use Rattle.answers.proofs.Numbers.{passed_on}
use Rattle.combine.specs.Entry.{combine_refusal}
use Rattle.range_bitset.proofs.RefusalChains.{stop, pass}
use Rattle.combine.proofs.CombineReturns.{last_10, last_11, last_0}
use Rattle.combine.proofs.check.Goals as goal

pub returns-in_err-check_head : goal.returns-in_err-check_head
unfolding combine_refusal
returns-in_err-check_head c = rw (passed_on _ c.from_residual.ensures.1) (stop _ _ _ c.in_err-check_head.ensures)

pub returns-in_err-check_head-2 : goal.returns-in_err-check_head-2
unfolding combine_refusal
returns-in_err-check_head-2 c =
    rw (passed_on _ c.from_residual-in_err-check_head-2.ensures.1)
    (stop _ _ _ c.in_err-check_head-2.ensures ∙ pass _ _ c.in_ok-check_head.ensures)

pub returns-in_err-check_storage : goal.returns-in_err-check_storage
unfolding combine_refusal
returns-in_err-check_storage c =
    rw (passed_on _ c.from_residual-in_err-check_storage.ensures.1)
    (stop _ _ _ c.in_err-check_storage.ensures ∙ pass _ _ c.in_ok-check_head-2.ensures ∙ pass _ _ c.in_ok-check_head.ensures)

pub returns-in_err-check_storage-2 : goal.returns-in_err-check_storage-2
unfolding combine_refusal
returns-in_err-check_storage-2 c =
    rw (passed_on _ c.from_residual-in_err-check_storage-2.ensures.1)
    (stop _ _ _ c.in_err-check_storage-2.ensures ∙ pass _ _ c.in_ok-check_storage.ensures ∙ pass _ _ c.in_ok-check_head-2.ensures ∙ pass _ _ c.in_ok-check_head.ensures)

pub returns-in_err-check_storage-3 : goal.returns-in_err-check_storage-3
unfolding combine_refusal
returns-in_err-check_storage-3 c =
    rw (passed_on _ c.from_residual-in_err-check_storage-3.ensures.1)
    (stop _ _ _ c.in_err-check_storage-3.ensures ∙ pass _ _ c.in_ok-check_storage-2.ensures ∙ pass _ _ c.in_ok-check_storage.ensures
    ∙ pass _ _ c.in_ok-check_head-2.ensures ∙ pass _ _ c.in_ok-check_head.ensures)

pub returns-then-first-second : goal.returns-then-first-second
unfolding combine_refusal
returns-then-first-second c =
    last_10 c.args.first.words c.args.second.words c.args.lens.scratch c.if-first-second.true
    ∙ pass _ _ c.in_ok-check_storage-3.ensures ∙ pass _ _ c.in_ok-check_storage-2.ensures ∙ pass _ _ c.in_ok-check_storage.ensures
    ∙ pass _ _ c.in_ok-check_head-2.ensures ∙ pass _ _ c.in_ok-check_head.ensures

pub returns-then-lens-first : goal.returns-then-lens-first
unfolding combine_refusal
returns-then-lens-first c =
    last_11 c.args.first.words c.args.second.words c.args.lens.scratch c.if-first-second.false c.if-lens-first.true
    ∙ pass _ _ c.in_ok-check_storage-3.ensures ∙ pass _ _ c.in_ok-check_storage-2.ensures ∙ pass _ _ c.in_ok-check_storage.ensures
    ∙ pass _ _ c.in_ok-check_head-2.ensures ∙ pass _ _ c.in_ok-check_head.ensures

pub returns : goal.returns
unfolding combine_refusal
returns c =
    last_0 c.args.first.words c.args.second.words c.args.lens.scratch c.if-first-second.false c.if-lens-first.false
    ∙ pass _ _ c.in_ok-check_storage-3.ensures ∙ pass _ _ c.in_ok-check_storage-2.ensures ∙ pass _ _ c.in_ok-check_storage.ensures
    ∙ pass _ _ c.in_ok-check_head-2.ensures ∙ pass _ _ c.in_ok-check_head.ensures
