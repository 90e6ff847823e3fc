-- `Without::word` meets its contract. Assumes nothing.
use Rattle.combine.proofs.Kit.{arith}
use Rattle.combine.proofs.RuleMasks.{without_is}
use Rattle.combine.proofs.rule.WithoutRule.word.Goals as goal

pub returns : goal.returns
returns c = without_is c.args.x c.args.y (omega arith) (omega arith)
