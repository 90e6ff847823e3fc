-- `Split::of` meets its contract. Assumes nothing.
use Rattle.combine.proofs.Kit.{arith}
use Rattle.combine.proofs.RuleMasks.{split_is}
use Rattle.combine.proofs.rule.Split.of.Goals as goal

pub returns : goal.returns
returns g c =
    rw (c.mixed.ensures, c.mixed-2.ensures)
    (split_is _ c.args.x c.args.y c.args.valid _ _ (omega arith) (omega arith) (omega arith) (omega arith) (omega arith) c.settled_alone.type_inv
    c.settled_alone.ensures c.word.type_inv c.word.ensures)
