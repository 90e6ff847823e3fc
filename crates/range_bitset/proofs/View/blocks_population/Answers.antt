-- `blocks_population` meets its contract, by `blocks_total` of Walked. Assumes nothing.
use Rattle.range_bitset.proofs.Kit.{◌∙◌}
use Rattle.range_bitset.proofs.Walked.{blocks_total}
use Rattle.range_bitset.proofs.View.blocks_population.Goals as goal

pub returns : goal.returns
returns c =
    let a = c.args in
    c.kept_populations.ensures
    ∙ blocks_total a.self.words a.self.storage.now a.mask _ _ c.top_full_slot.ensures c.top_nonzero_slot.ensures c.ranges.mask.fits
