-- `nth_in_word` meets its contract: the sums are paired five times, the range is halved six times. Assumes nothing.
use Rattle.range_bitset.proofs.Kit.{refl, arith}
use Rattle.bits.specs.Fields.{low_fields}
use Rattle.bits.proofs.Fields.{bits_are}
use Rattle.range_bitset.proofs.WordBits.{among_all, among_one}
use Rattle.range_bitset.proofs.in_word.nth_in_word.Goals as goal

pub returns : goal.returns
unfolding low_fields
returns c =
    let bits = c.args.bits in
    let n = c.args.n in
    let fits = c.ranges.bits.fits in
    let single = bits_are 64 bits fits in
    let twos = c.paired-twos.ensures 32 bits single refl in
    let fours = c.paired-fours.ensures 16 bits twos refl in
    let eights = c.paired-eights.ensures 8 bits fours refl in
    let sixteens = c.paired-sixteens.ensures 4 bits eights refl in
    let halves = c.paired-halves.ensures 2 bits sixteens refl in (
      omega arith,
      λ l.
          let in32 = c.narrowed.ensures.among bits n 2 halves refl (among_all bits n fits l) in
          let in16 = c.narrowed-2.ensures.among bits n 4 sixteens refl in32 in
          let in8 = c.narrowed-3.ensures.among bits n 8 eights refl in16 in
          let in4 = c.narrowed-4.ensures.among bits n 16 fours refl in8 in
          let in2 = c.narrowed-5.ensures.among bits n 32 twos refl in4 in
          let in1 = c.narrowed-6.ensures.among bits n 64 single refl in2 in
          among_one bits n _ _ in1,
    )
