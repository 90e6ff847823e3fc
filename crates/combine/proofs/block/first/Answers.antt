-- `first` meets its contract. Assumes nothing.
use Rattle.combine.proofs.Gathered.{first_is}
use Rattle.combine.proofs.block.first.Goals as goal

pub returns : goal.returns
returns c = first_is c.args.n c.requires.1
