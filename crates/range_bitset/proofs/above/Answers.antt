-- `bits::above` meets its contract. Assumes nothing.
use Rattle.range_bitset.proofs.Kit.{ap, ◌&&◌, leb, ltb, ℕ, add-one, sym, ◌∙◌, ◌+◌, arith}
use Rattle.bits.proofs.Bits.{bit_zero}
use Rattle.bits.proofs.Masks.{bit_from, none_above}
use Rattle.range_bitset.proofs.above.Goals as goal

pub returns-then-bit-ge63 : goal.returns-then-bit-ge63
returns-then-bit-ge63 c =
    λ i. bit_zero i ∙ sym (ap (λ (x : ℕ). leb x i && ltb i 64) (add-one c.args.bit) ∙ none_above 64 c.args.bit i (omega arith))

pub returns-else-bit-ge63 : goal.returns-else-bit-ge63
returns-else-bit-ge63 c = λ i. bit_from 64 (c.args.bit + 1) i
