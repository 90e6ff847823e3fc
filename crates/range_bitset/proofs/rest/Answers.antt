-- `range_bitset::rest` meets its contract. Assumes nothing.
use Rattle.bits.proofs.Masks.{bit_from}
use Rattle.range_bitset.proofs.rest.Goals as goal

pub returns : goal.returns
returns c = λ i. bit_from 64 c.args.from i
