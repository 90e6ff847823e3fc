-- `bits::span` meets its contract. Assumes nothing.
use Rattle.bits.proofs.Masks.{bit_span}
use Rattle.range_bitset.proofs.span.Goals as goal

pub returns : goal.returns
returns c = λ i. bit_span 64 c.args.from c.args.to i c.requires.0 c.requires.1
