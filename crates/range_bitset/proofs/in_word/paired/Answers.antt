-- `paired` meets its contract. Assumes nothing.
use Rattle.bits.proofs.Fields.{pair}
use Rattle.range_bitset.proofs.in_word.paired.Goals as goal

pub returns : goal.returns
returns c = λ k x e m. rw (e, m) (pair c.args.width k x)
