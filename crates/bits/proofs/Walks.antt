-- The walk over the set bits of a mask, `while m != 0 { .. trailing_zeros(m) ..; m &= m - 1 }`: a sum over those bits.
-- And the first set bit from a place on. Assumes nothing.
use Rattle.bits.proofs.Kit.{◌≡◌, refl, suc, lt_of_le_of_lt, and_le_l, sym, ap, ap₂, ◌∙◌, ◌≢◌, true, not, ◌&&◌, ℕ, ◌+◌, ◌-◌, ◌*◌, ◌^◌, ◌<◌, zero-le, arith, bit_and, ones, count_trailing_zeros, eqb}
use Rattle.positions.specs.Positions.{sum_over}
use Rattle.positions.proofs.Sums as S
use Rattle.positions.proofs.Counts.{over_const}
use Rattle.bits.specs.Bit.{bit}
use Rattle.bits.proofs.Bits.{bit_zero}
use Rattle.bits.proofs.Ones.{bit_drop_lowest, ones_count_from, tz_lt, tz_set}

module _ (w : ℕ) (f : ℕ → ℕ) where
  pub walk_none : sum_over (bit 0) f 0 w ≡ 0
  walk_none = S.over_none (bit 0) f 0 w (λ i p q. bit_zero i)

  -- the lowest bit's term, and the rest
  pub walk_step : (m : ℕ) → m ≢ 0 → m < 2 ^ w
      → sum_over (bit m) f 0 w ≡ f (count_trailing_zeros w m) + sum_over (bit (bit_and m (m - 1))) f 0 w
  walk_step m ne h =
      let t = count_trailing_zeros w m in
      S.over_remove (bit m) f t 0 w zero-le (omega (arith, tz_lt w m ne h)) (tz_set w m ne h)
      ∙ ap (λ (x : ℕ). f t + x)
      (S.over_ext (λ k. bit m k && not (eqb k t)) (bit (bit_and m (m - 1))) f 0 w (λ k p q. sym (bit_drop_lowest w m ne h k)))

  -- the same term at every bit
  pub walk_const : (m v : ℕ) → m < 2 ^ w → ((i : ℕ) → i < w → bit m i ≡ true → f i ≡ v) → sum_over (bit m) f 0 w ≡ ones m * v
  walk_const m v h e = over_const (bit m) f v 0 w (λ i p q. e i (omega arith)) ∙ ap (λ (x : ℕ). x * v) (sym (ones_count_from w m h))

-- one step of `Ones`, from the bits m to i and the bits m'
module _ {m i m' : ℕ} (q : (m ≢ 0) × (i ≡ count_trailing_zeros 64 m) × (m' ≡ bit_and m (m - 1))) where
  pub taken : (f : ℕ → ℕ) → m < 2 ^ 64 → sum_over (bit m) f 0 64 ≡ f i + sum_over (bit m') f 0 64
  taken f h = walk_step 64 f m q.0 h ∙ ap₂ (λ (x y : ℕ). f x + sum_over (bit y) f 0 64) (sym q.1) (sym q.2)

  pub left_lt : (b : ℕ) → m < b → m' < b
  left_lt b h = omega (arith, q.2, and_le_l m (m - 1))

-- without its lowest bit a word has one bit fewer
pub ones_step : (w m : ℕ) → m ≢ 0 → m < 2 ^ w → ones m ≡ suc (ones (bit_and m (m - 1)))
ones_step w m ne h =
    omega (
      arith,
      walk_step w (λ i. 1) m ne h,
      walk_const w (λ i. 1) m 1 h (λ i l e. refl),
      walk_const w (λ i. 1) (bit_and m (m - 1)) 1 (lt_of_le_of_lt (and_le_l m (m - 1)) h) (λ i l e. refl),
    )
