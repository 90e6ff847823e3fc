-- `range_bitset::View::bits_from` meets its contract. Assumes nothing.
use Rattle.range_bitset.proofs.Kit.{arith}
use Rattle.range_bitset.proofs.SearchReturns.{valued, in_first, not_in_first}
use Rattle.range_bitset.proofs.View.bits_from.Goals as goal

pub returns : goal.returns
returns c =
    let bits = valued _ _ _ _ _ (omega (arith, c.requires)) c.word_bits.ensures in
    let some = in_first _ _ _ c.args.value c.requires _ _ c.word_bits.type_inv bits c.rest.ensures in
    let none = not_in_first _ _ _ c.args.value c.requires _ _ c.word_bits.type_inv bits c.rest.ensures in
    record { some = some; none = none }
