-- `range_bitset::has_bit` meets its contract. Assumes nothing.
use Rattle.range_bitset.proofs.Kit.{Bool·not-not, not, ap, ◌∙◌}
use Rattle.bits.proofs.Masks.{test_shifted}
use Rattle.range_bitset.proofs.has_bit.Goals as goal

pub returns : goal.returns
returns c = ap not (test_shifted 64 c.args.word c.args.i c.requires) ∙ Bool·not-not _
