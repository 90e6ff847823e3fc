-- `replay` meets its contract, by its loop's invariant. Assumes nothing.
use Rattle.std.proofs.Common.{◌<◌, refl, arith}
use Rattle.std.proofs.lemmas.List.{length-take, get_or-take}
use Rattle.ledger.specs.History.{none}
use Rattle.ledger_replay.proofs.Replays.{chained_more}
use Rattle.ledger_replay.proofs.replay.Goals as goal

pub loop-i-init : goal.loop-i-init
loop-i-init c = record { others = refl; chain = none }

pub loop-i-preserved : goal.loop-i-preserved
loop-i-preserved c =
    let long = length-take c.min-count.result c.args.calls.now in
    let test : c.loop-i.i < c.min-count.result = omega arith in
    chained_more _ _ c.loop-i.invariant (omega arith) (omega arith) (rw get_or-take at c.run_lent.ensures)
