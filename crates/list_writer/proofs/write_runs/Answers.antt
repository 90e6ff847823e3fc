-- `write_runs` meets its contract, by its loop's invariant. Assumes nothing.
use Rattle.list_writer.proofs.Kit.{arith, ◌≡◌, ◌+◌, ◌*◌}
use Rattle.set_runs.proofs.RunWalks.{along_next, writing_one, writing_last}
use Rattle.list_writer.proofs.Stores.{stored_run, stored_word}
use Rattle.list_writer.proofs.write_runs.Goals as goal

pub loop-run-preserved : goal.loop-run-preserved
loop-run-preserved c =
    let inv = c.loop-run.invariant in
    let g = c.in-Some.ensures.steps in
    let next : 11 + 8 * (c.loop-run.written + 1) ≡ 11 + 8 * c.loop-run.written + 8 = omega arith in
    let start = stored_word _ c.in-Some.run'.start _ _ _ c.to_be_bytes.ensures c.put.ensures in
    let end = stored_word _ c.in-Some.run'.end _ _ _ c.to_be_bytes-in-loop-run.ensures c.put-in-loop-run.ensures in
    record {
      walks = along_next _ _ _ _ _ inv.walks _ _ g.0;
      room = omega (arith, g.1, inv.room);
      writing = writing_one _ _ _ _ _ _ _ _ _ _ _ _ _ _ _ _ inv.walks g.0
          (stored_run _ _ _ _ _ _ _ start end next (omega (arith, inv.writing.same_length, inv.room, g.1))) inv.writing;
    }

pub returns : goal.returns
returns c =
    let inv = c.loop-run.invariant in
    writing_last _ _ _ _ _ _ _ _ _ _ _ _ _ _ _ inv.walks c.in-None.ensures.steps inv.room inv.writing
