-- `Both::settled_alone` meets its contract. Assumes nothing.
use Rattle.combine.proofs.Kit.{arith}
use Rattle.combine.proofs.RuleMasks.{both_settles}
use Rattle.combine.proofs.rule.BothRule.settled_alone.Goals as goal

pub returns : goal.returns
returns c = both_settles c.args.x c.args.y (omega arith) (omega arith)
