-- The definitions at numbers. Assumes nothing.
use Rattle.bits.proofs.Kit.{◌≡◌, refl, true, false, ◌-◌, ◌^◌, count_trailing_zeros}
use Rattle.positions.specs.Positions.{within, total, sum_over, count_from, count}
use Rattle.bits.specs.Bit.{bit, mask}
use Rattle.bits.specs.Fields.{field_sums, low_fields}

top_bit : bit (2 ^ 64 - 1) 63 ≡ true
unfolding bit
top_bit = refl

past_the_top : bit (2 ^ 64 - 1) 64 ≡ false
unfolding bit
past_the_top = refl

range_of_a_word : mask 64 (within 8 16) ≡ 0xff00
unfolding mask
range_of_a_word = refl

count_of_a_range : count (bit 0xff00) 10 64 ≡ 6
unfolding bit count count_from sum_over total
count_of_a_range = refl

lowest_bit : count_trailing_zeros 64 (2 ^ 40) ≡ 40
unfolding count_trailing_zeros
lowest_bit = refl

sums_of_a_word : field_sums 8 8 0xff00_0301 ≡ 0x0800_0201
unfolding field_sums bit count_from sum_over total
sums_of_a_word = refl

mask_of_a_word : low_fields 8 4 ≡ 0x00ff_00ff_00ff_00ff
unfolding low_fields
mask_of_a_word = refl
