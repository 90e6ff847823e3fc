-- `nth` meets its contract: one law of SelectReturns for each return. Assumes nothing.
use Rattle.range_bitset.proofs.Kit.{refl}
use Rattle.range_bitset.proofs.SelectReturns.{in_whole_blocks, in_one_block}
use Rattle.range_bitset.proofs.View.nth.Goals as goal

pub returns-in-At : goal.returns-in-At
returns-in-At c =
    in_whole_blocks _ _ c.args.self.room _ _ c.population_slot-from.ensures c.blocks-2.ensures _ refl refl c.candidate_blocks-some.ensures c.candidate_blocks-others.ensures _ _ c.in-At.ensures

pub returns-in-Within : goal.returns-in-Within
returns-in-Within c =
    in_one_block _ _ c.args.self.room _ _ c.population_slot-from.ensures c.blocks-2.ensures _ refl refl c.candidate_blocks-some.ensures c.candidate_blocks-others.ensures _ _ _ _ c.in-Within.ensures c.nth_in_block.ensures
