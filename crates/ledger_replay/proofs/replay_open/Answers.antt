-- `replay_open` meets its contract. Assumes nothing.
use Rattle.std.proofs.Common.{refl}
use Rattle.ledger.specs.History.{by_open}
use Rattle.ledger_replay.proofs.Replays.{ran_all}
use Rattle.ledger_replay.proofs.replay_open.Goals as goal

pub returns : goal.returns
returns c =
    let given = c.in_ok-head.ensures in
    record {
      refuses = given.refuses;
      unchanged = tt;
      ran = ran_all (given, refl) (by_open given) c.replay.ensures.all c.replay.ensures.chained;
    }
