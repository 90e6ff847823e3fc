-- `write_runs` meets its contract, by its loop's invariant. Assumes nothing.
use Rattle.set_runs.proofs.RunWalks.{along_next, writing_one, writing_last}
use Rattle.ledger.proofs.RecordedRuns.{stored_pair}
use Rattle.ledger.proofs.Kit.{◌≡◌, ◌+◌, ◌*◌, arith}
use Rattle.ledger.proofs.Ledger.write_runs.Goals as goal

pub loop-run-preserved : goal.loop-run-preserved
loop-run-preserved c =
    let inv = c.loop-run.invariant in
    let g = c.in-Some.ensures.steps in
    let next : c.args.used + 2 * (c.loop-run.written + 1) ≡ c.args.used + 2 * c.loop-run.written + 2 = omega arith in
    record {
      walks = along_next _ _ _ _ _ inv.walks _ _ g.0;
      room = omega (arith, g.1, inv.room);
      writing = writing_one _ _ _ _ _ _ _ _ _ _ _ _ _ _ _ _ inv.walks g.0
          (stored_pair _ _ _ _ _ next (omega (arith, inv.writing.same_length, inv.room, g.1))) inv.writing;
    }

pub returns : goal.returns
returns c =
    let inv = c.loop-run.invariant in
    writing_last _ _ _ _ _ _ _ _ _ _ _ _ _ _ _ inv.walks c.in-None.ensures.steps inv.room inv.writing
