-- `Either::word` meets its contract. Assumes nothing.
use Rattle.combine.proofs.Kit.{arith}
use Rattle.combine.proofs.RuleMasks.{either_is}
use Rattle.combine.proofs.rule.EitherRule.word.Goals as goal

pub returns : goal.returns
returns c = either_is c.args.x c.args.y (omega arith) (omega arith)
