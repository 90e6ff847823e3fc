-- `Either::settled_alone` meets its contract. Assumes nothing.
use Rattle.combine.proofs.Kit.{arith}
use Rattle.combine.proofs.RuleMasks.{either_settles}
use Rattle.combine.proofs.rule.EitherRule.settled_alone.Goals as goal

pub returns : goal.returns
returns c = either_settles c.args.x c.args.y (omega arith) (omega arith)
