-- `price` meets its contract: each step and return by its law. Assumes nothing.
use Rattle.estimate.proofs.Kit.{refl, sym, arith}
use Rattle.answers.proofs.Numbers.{passed_on}
use Rattle.range_bitset.proofs.AcceptedHeads.{range_accepted}
use Rattle.set_runs.proofs.RunWalks.{along_itself, along_finds}
use Rattle.estimate.proofs.EstimateReturns.{declined, numbers_fit, walk_start, walk_next, walk_unmeasured, walk_done}
use Rattle.estimate.proofs.price.Goals as goal

pub returns-in_err-check : goal.returns-in_err-check
returns-in_err-check c = rw (passed_on _ c.from_residual.ensures.1) (declined _ _ _ _ _ _ c.in_err-check.ensures)

pub loop-run-init : goal.loop-run-init
loop-run-init c =
    let d = c.default-order.ensures in
    rw c.into_iter-run-iterator.ensures.into_iter_gives (walk_start _ _ _ _ _ _ _ (along_itself _) refl d.0 d.1.0 d.1.1.long (λ i l. d.1.1.at i 0 l))

pub add_run-requires : goal.add_run-requires
add_run-requires c =
    let inv = c.loop-run.invariant in
    let m = (along_finds _ _ _ _ _ inv.along _ _ c.in-Some.ensures.steps).ahead c.in-Some.run' refl in
    let n = numbers_fit _ _ _ _ (sym c.in_ok-check.ensures) in
    let b = range_accepted _ _ _ n.0 in
    (inv.adds_up, omega (arith, inv.few, m.0), omega (arith, m.1), omega (arith, m.2, b.1, n.1), omega (arith, m.2, m.3))

pub returns-in_err-order : goal.returns-in_err-order
returns-in_err-order c =
    rw (passed_on _ c.from_residual-in_err-order.ensures.1)
    (walk_unmeasured _ _ _ _ _ (sym c.in_ok-check.ensures) _ _ c.loop-run.invariant c.in-Some.run' _ c.in_err-order.field-0.0 c.in-Some.ensures.steps c.in_err-order.ensures)

pub loop-run-preserved : goal.loop-run-preserved
loop-run-preserved c =
    walk_next _ _ _ _ _ (sym c.in_ok-check.ensures) _ _ c.loop-run.invariant c.in-Some.run' _ _ c.in-Some.ensures.steps c.in_ok-order.ensures

pub returns : goal.returns
returns c = walk_done _ _ _ _ _ (sym c.in_ok-check.ensures) _ _ c.loop-run.invariant _ c.in-None.ensures.steps
