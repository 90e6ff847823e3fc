-- `ledger::Ledger::assign_runs` meets its contract: one run more assigned with each turn. Assumes nothing.
use Rattle.std.proofs.Common.{Ok, Err}
use Rattle.ledger.proofs.Kit.{refl, ◌∙◌, arith, length-append}
use Rattle.ledger.proofs.ReassignedRuns.{assigns_none, assigns_turn, assigns_all, pairs_all, pairs_next}
use Rattle.ledger.proofs.Ledger.assign_runs.Goals as goal

pub loop-run-init : goal.loop-run-init
loop-run-init c =
    rw c.into_iter-run-iterator.ensures.into_iter_gives
    (record {
      long = refl;
      fits = omega arith;
      by_two = c.chunks_exact-run-items.ensures.size;
      left = pairs_all _ _ _ _ _ c.requires.0 (omega arith) c.chunks_exact-run-items.ensures.rest;
      passed = assigns_none _ _ _;
    })

pub loop-run-preserved-in-Ok : goal.loop-run-preserved-in-Ok
loop-run-preserved-in-Ok c =
    let inv = c.loop-run.invariant in
    let g = c.in-Some.ensures.steps in
    let (left, start, end) = pairs_next _ _ _ _ _ _ _ inv.left g.1.0 (g.1.1 ∙ inv.by_two) in
    rw (length-append c.loop-run.yielded _)
    (record {
      long = c.assign.auto.storage ∙ inv.long;
      fits = omega arith;
      by_two = g.0 ∙ inv.by_two;
      left = left;
      passed = assigns_turn _ _ _ _ _ _ _ _ _ inv.passed inv.long _ _ start end (Ok c.in-Ok.done) _ c.in-Ok.ensures _ _ refl refl;
    })

pub loop-run-preserved : goal.loop-run-preserved
loop-run-preserved c =
    let inv = c.loop-run.invariant in
    let g = c.in-Some.ensures.steps in
    let (left, start, end) = pairs_next _ _ _ _ _ _ _ inv.left g.1.0 (g.1.1 ∙ inv.by_two) in
    rw (length-append c.loop-run.yielded _)
    (record {
      long = c.assign.auto.storage ∙ inv.long;
      fits = inv.fits;
      by_two = g.0 ∙ inv.by_two;
      left = left;
      passed = assigns_turn _ _ _ _ _ _ _ _ _ inv.passed inv.long _ _ start end (Err c.in_default.field-0) _ c.in_default.ensures _ _ refl (omega (arith, inv.fits));
    })

pub returns : goal.returns
returns c =
    let inv = c.loop-run.invariant in
    let g = c.in-None.ensures.steps in
    assigns_all _ _ _ _ _ _ _ _ _ inv.passed _ (omega (arith, inv.left.long, g.1.0, inv.by_two))
