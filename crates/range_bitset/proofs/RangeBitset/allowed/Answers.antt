-- `range_bitset::RangeBitset::allowed` meets its contract. Assumes nothing.
use Rattle.range_bitset.specs.Layout.{allowed}
use Rattle.range_bitset.proofs.Kit.{sym, ◌∙◌}
use Rattle.range_bitset.proofs.RangeBitset.allowed.Goals as goal

pub returns-then-is_power_of_two : goal.returns-then-is_power_of_two
unfolding allowed
returns-then-is_power_of_two c = rw (sym c.is_power_of_two.ensures ∙ c.if-is_power_of_two.true)

pub returns-else-is_power_of_two : goal.returns-else-is_power_of_two
unfolding allowed
returns-else-is_power_of_two c = rw (sym c.is_power_of_two.ensures ∙ c.if-is_power_of_two.false) c.if-is_power_of_two.false
