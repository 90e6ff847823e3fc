-- `Call::run` meets its contract: a wipe's promise holds for every journal. Assumes nothing.
use Rattle.ledger_replay.proofs.Call.run.Goals as goal

pub returns-in-Wipe : goal.returns-in-Wipe
returns-in-Wipe c = rw c.in-Wipe.is (c.wipe.ensures _)
