-- `mixed_words_population` meets its contract, by `mixed_total` of Walked. Assumes nothing.
use Rattle.range_bitset.proofs.Kit.{ap, ◌∙◌, ℕ, ◌+◌, ◌*◌, arith, bit_and, ones, get_or}
use Rattle.range_bitset.proofs.Walked.{mixed_total, masked_most}
use Rattle.range_bitset.proofs.View.mixed_words_population.Goals as goal

pub returns : goal.returns
returns c =
    let a = c.args in
    let e = mixed_total _ _ _ _ c.requires.1 _ c.data.ensures _ _ c.full_slot.ensures c.nonzero_slot.ensures in (
      ap (λ (x : ℕ). ones (bit_and (get_or a.self.storage.now c.full_slot.result 0) a.mask) * 64 + x) c.stored_population-stored.ensures.0 ∙ e,
      omega (arith, masked_most (get_or a.self.storage.now c.full_slot.result 0) (get_or a.self.storage.now c.nonzero_slot.result 0) a.mask c.ranges.mask.fits, c.stored_population-stored.ensures.1),
    )
