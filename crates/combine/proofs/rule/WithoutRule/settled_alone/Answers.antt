-- `Without::settled_alone` meets its contract. Assumes nothing.
use Rattle.combine.proofs.Kit.{arith}
use Rattle.combine.proofs.RuleMasks.{without_settles}
use Rattle.combine.proofs.rule.WithoutRule.settled_alone.Goals as goal

pub returns : goal.returns
returns c = without_settles c.args.x c.args.y (omega arith) (omega arith)
