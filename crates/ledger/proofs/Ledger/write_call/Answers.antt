-- `write_call` meets its contract: the runs, then the closing number behind them; nothing where there is no run. Assumes nothing.
use Rattle.ledger.proofs.RecordedRuns.{writing_closed, writing_none}
use Rattle.ledger.proofs.Machines.{numbers_sum}
use Rattle.ledger.proofs.Kit.{arith}
use Rattle.ledger.proofs.Ledger.write_call.Goals as goal

pub returns-then-written-eq0 : goal.returns-then-written-eq0
returns-then-written-eq0 c = writing_none _ _ _ _ _ _ _ _ _ _ c.if-written-eq0.true c.write_runs-written.ensures

pub returns : goal.returns
returns c = writing_closed _ _ _ _ _ _ _ _ _ _ _ _ _ (omega arith) (omega (arith, numbers_sum c.args.most)) (omega arith) c.packed.ensures (omega arith) c.write_runs-written.ensures
