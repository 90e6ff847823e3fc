-- `ledger::Ledger::assign_file` meets its contract: one run more set with each turn. Assumes nothing.
use Rattle.std.proofs.Common.{Ok, Err}
use Rattle.ledger.proofs.Kit.{refl, ap, ◌∙◌, arith}
use Rattle.ledger.proofs.ReassignedRuns.{file_none, file_next, file_end}
use Rattle.ledger.proofs.Ledger.assign_file.Goals as goal

pub loop-run-init : goal.loop-run-init
loop-run-init c =
    let e = c.new-run-items.ensures in
    rw (c.into_iter-run-iterator.ensures.into_iter_gives, e.file, e.at)
    (record { long = refl; file_is = refl; held = omega arith; passed = file_none _ _ _ })

pub loop-run-preserved-in-Ok : goal.loop-run-preserved-in-Ok
loop-run-preserved-in-Ok c =
    let inv = c.loop-run.invariant in
    let g = c.in-Some.ensures.steps in
    let n = file_next _ _ _ c.loop-run.run-iterator c.next.new.self _ _ inv.long inv.file_is inv.passed _ _ g.0 g.2 (Ok c.in-Ok.done) _ c.in-Ok.ensures in
    record { long = c.assign.auto.storage ∙ inv.long; file_is = ap (λ (b : _). b.now) g.1 ∙ inv.file_is; held = n.0; passed = n.1 }

pub loop-run-preserved : goal.loop-run-preserved
loop-run-preserved c =
    let inv = c.loop-run.invariant in
    let g = c.in-Some.ensures.steps in
    let n = file_next _ _ _ c.loop-run.run-iterator c.next.new.self _ _ inv.long inv.file_is inv.passed _ _ g.0 g.2 (Err c.in_default.field-0) _ c.in_default.ensures in
    record { long = c.assign.auto.storage ∙ inv.long; file_is = ap (λ (b : _). b.now) g.1 ∙ inv.file_is; held = n.0; passed = n.1 }

pub returns : goal.returns
returns c =
    let inv = c.loop-run.invariant in
    file_end _ _ _ c.loop-run.run-iterator c.next.new.self _ _ inv.long inv.file_is inv.passed inv.held c.in-None.ensures.steps.0
