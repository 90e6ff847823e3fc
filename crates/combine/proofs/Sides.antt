-- What a side is read by: its masks, block by block, and how many positions whole blocks have. Assumes nothing.
use Rattle.combine.proofs.Kit.{◌≡◌, refl, ap, sym, ◌∙◌, Bool, true, false, not, ◌&&◌, true≢false, ℕ, zero-le, ◌+◌, ◌*◌, ◌-◌, ◌^◌, ◌<◌, ◌≤◌, arith, eqb, eqb-false, not-true, ones, get_or, pow_mono, lt_of_lt_of_le}
use Rattle.positions.specs.Positions.{sum_over, count_from}
use Rattle.positions.proofs.Bools.{and_left, and_right}
use Rattle.positions.proofs.Counts.{over_const}
use Rattle.positions.proofs.Sums.{over_bound, over_remove}
use Rattle.bits.specs.Bit.{bit}
use Rattle.bits.proofs.Bits.{bit_below}
use Rattle.bits.proofs.Ones.{ones_count_from}
use Rattle.bits.proofs.Walks.{walk_const}
use Rattle.range_bitset.specs.Layout.{blocks, words_of, address, nonzero, full, population, top_nonzero, top_full}
use Rattle.range_bitset.specs.Represents.{valid}
use Rattle.range_bitset.specs.Shown.{parts_of}
use Rattle.range_bitset.specs.declared.Parts.{Parts}
use Rattle.combine.specs.Inner.{masks_of}
use Rattle.combine.specs.declared.rule.Masks.{Masks}
use Rattle.combine.specs.declared.source.Source.{Source}

-- ---- where a side's numbers stand

module _ (a : Parts) (laid : a ≡ parts_of a.words) where
  pub laid_blocks : a.blocks ≡ blocks a.words
  laid_blocks = ap (λ (p : Parts). p.blocks) laid

  pub laid_nonzero : (b : ℕ) → a.nonzero + b ≡ address a.words (nonzero b)
  laid_nonzero b = omega (arith, ap (λ (p : Parts). p.nonzero) laid)

  pub laid_full : (b : ℕ) → a.full + b ≡ address a.words (full b)
  laid_full b = omega (arith, ap (λ (p : Parts). p.full) laid)

  pub laid_population : (b : ℕ) → a.population + b ≡ address a.words (population b)
  laid_population b = omega (arith, ap (λ (p : Parts). p.population) laid)

  pub laid_top_nonzero : a.top_nonzero ≡ address a.words top_nonzero
  laid_top_nonzero = ap (λ (p : Parts). p.top_nonzero) laid

  pub laid_top_full : a.top_full ≡ address a.words top_full
  laid_top_full = ap (λ (p : Parts). p.top_full) laid

-- ---- the masks of a block

module _ (x : Source) (b : ℕ) where
  pub masks_full : (a : ℕ) → bit x.tops.full b ≡ true → a ≡ valid x.at.words b → ◌≡◌ {A = Masks} (record { nonzero = a; full = a }) (masks_of x b)
  unfolding masks_of
  masks_full a e p = rw (e, p) refl

  pub masks_none : bit x.tops.full b ≡ false → bit x.tops.nonzero b ≡ false → ◌≡◌ {A = Masks} (record { nonzero = 0; full = 0 }) (masks_of x b)
  unfolding masks_of
  masks_none e p = rw (e, p) refl

  pub masks_own : (i k : ℕ) → bit x.tops.full b ≡ false → bit x.tops.nonzero b ≡ true → i ≡ address x.at.words (nonzero b) → k ≡ address x.at.words (full b)
      → ◌≡◌ {A = Masks} (record { nonzero = get_or x.storage.now i 0; full = get_or x.storage.now k 0 }) (masks_of x b)
  unfolding masks_of
  masks_own i k e p q r = rw (q, r, e, p) refl

-- ---- how many positions whole blocks have

abbrev pub size : ℕ → ℕ → ℕ
size W b = 64 * words_of W b

-- no sum of them overflows
pub sizes_most : (W m : ℕ) → sum_over (bit m) (size W) 0 64 ≤ 262144
sizes_most W m = omega (arith, over_bound (bit m) (size W) 4096 0 64 (λ i p q. omega arith))

module _ (W m : ℕ) (some : 0 < W) (most : W ≤ 4096) (fit : m < 2 ^ blocks W) where
  abbrev last : ℕ
  last = blocks W - 1

  small : m < 2 ^ 64
  small = lt_of_lt_of_le fit (pow_mono {j = 64} (omega arith))

  -- each but the last has 64 words
  others : (b : ℕ) → bit m b ≡ true → (b ≡ last → ⊥) → size W b ≡ 4096
  others b e n = let l = bit_below (blocks W) m b fit e in omega (arith, n)

  pub size_without : bit m last ≡ false → ones m * 4096 ≡ sum_over (bit m) (size W) 0 64
  size_without e = sym (walk_const 64 (size W) m 4096 small (λ b l t. others b t (λ q. true≢false (sym t ∙ ap (bit m) q ∙ e))))

  module _ (e : bit m last ≡ true) where
    rest : ℕ → Bool
    rest b = bit m b && not (eqb b last)

    one_less : ones m ≡ 1 + count_from rest 0 64
    unfolding count_from rest
    one_less = ones_count_from 64 m small ∙ over_remove (bit m) (λ b. 1) last 0 64 zero-le (omega arith) e

    pub size_some : 4096 * blocks W - 64 * W ≤ ones m * 4096
    size_some = omega (arith, one_less)

    pub size_with : ones m * 4096 - (4096 * blocks W - 64 * W) ≡ sum_over (bit m) (size W) 0 64
    unfolding rest
    size_with =
        omega (
          arith,
          one_less,
          over_remove (bit m) (size W) last 0 64 zero-le (omega arith) e,
          over_const rest (size W) 4096 0 64
              (λ b p q t. others b (and_left (bit m b) _ t) (eqb-false b last (not-true (eqb b last) (and_right (bit m b) _ t)))),
        )
