-- `combine_pairs` meets its contract. The invariant: the words that are past are written, counted and gathered. Assumes nothing.
use Rattle.combine.proofs.Kit.{ℕ, eqb}
use Rattle.range_bitset.specs.Read.{ALL}
use Rattle.combine.specs.Inner.{pair_word}
use Rattle.combine.proofs.StoredWords.{Along, Gathers}
use Rattle.combine.proofs.block.combine_pairs.Given as goal

abbrev pub invariant-loop-i : goal.invariant-loop-i
invariant-loop-i g l =
    let v : ℕ → ℕ = pair_word g.R.Rule.of l.x l.y in
    Along l.fn.mask v l.fn.third l.third l.i-iterator.0 l.population
    × Gathers l.fn.mask v (λ w. eqb w 0) l.i-iterator.0 l.even.empty × Gathers l.fn.mask v (λ w. eqb w ALL) l.i-iterator.0 l.even.full
