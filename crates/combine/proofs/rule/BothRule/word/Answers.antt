-- `Both::word` meets its contract. Assumes nothing.
use Rattle.combine.proofs.Kit.{arith}
use Rattle.combine.proofs.RuleMasks.{both_is}
use Rattle.combine.proofs.rule.BothRule.word.Goals as goal

pub returns : goal.returns
returns c = both_is c.args.x c.args.y (omega arith)
