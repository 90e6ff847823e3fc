-- `replay_new` meets its contract. Assumes nothing.
use Rattle.std.proofs.Common.{refl, sym, ap}
use Rattle.ledger.specs.Entries.{of_new}
use Rattle.ledger.specs.History.{by_new}
use Rattle.ledger_replay.proofs.Replays.{ran_all}
use Rattle.ledger_replay.proofs.replay_new.Goals as goal

pub returns : goal.returns
returns c =
    let given = sym c.in_ok-head.ensures in
    record {
      refuses = ap of_new c.in_ok-head.ensures;
      unchanged = tt;
      ran = ran_all (given, refl, refl) (by_new given) c.replay.ensures.all c.replay.ensures.chained;
    }
