-- Sets that agree below the capacity are held by the same storages, and a memory represents one set below it. Assumes nothing.
use Rattle.range_bitset.proofs.Kit.{◌≡◌, refl, sym, ap, ◌∙◌, ap₂, Bool, true, false, not, ◌&&◌, List, ℕ, ◌+◌, ◌*◌, ◌/◌, ◌%◌, ◌<◌, arith, eqb}
use Rattle.positions.specs.Positions.{Positions}
use Rattle.positions.proofs.Counts.{count_same}
use Rattle.bits.specs.Bit.{bit}
use Rattle.bits.proofs.Words.{mask_ext}
use Rattle.range_bitset.specs.Layout.{blocks}
use Rattle.range_bitset.specs.Read.{ALL, word_read}
use Rattle.range_bitset.specs.Represents.{word_of, nonzero_mask, full_mask, block_count, valid, closed, masked, Stored, Represents, capacity_of}
use Rattle.range_bitset.specs.declared.RangeBitset.{RangeBitset}
use Rattle.range_bitset.proofs.SetWords.{in_word, word_is}

module _ (W : ℕ) (s t : Positions) (e : (i : ℕ) → i < 64 * W → s i ≡ t i) where
  word_agrees : (k : ℕ) → k < W → word_of s k ≡ word_of t k
  unfolding word_of
  word_agrees k l = mask_ext 64 _ _ (λ i h. e (64 * k + i) (omega arith))

  nonzero_agrees : (b : ℕ) → nonzero_mask W s b ≡ nonzero_mask W t b
  unfolding nonzero_mask
  nonzero_agrees b = mask_ext _ _ _ (λ j h. ap (λ (x : ℕ). not (eqb x 0)) (word_agrees (64 * b + j) (omega arith)))

  full_agrees : (b : ℕ) → full_mask W s b ≡ full_mask W t b
  unfolding full_mask
  full_agrees b = mask_ext _ _ _ (λ j h. ap (λ (x : ℕ). eqb x ALL) (word_agrees (64 * b + j) (omega arith)))

  population_agrees : (b : ℕ) → b < blocks W → block_count W s b ≡ block_count W t b
  unfolding block_count
  population_agrees b l = count_same s t _ _ (λ i p q. e i (omega arith))

  masked_agrees : (b : ℕ) → masked W s closed b ≡ masked W t closed b
  masked_agrees b = ap₂ (λ (n f : ℕ). not (eqb n 0) && not (eqb f (valid W b))) (nonzero_agrees b) (full_agrees b)

  pub stored_agrees : (st : List ℕ) → Stored W st s → Stored W st t
  stored_agrees st h =
      record {
        top_nonzero_is = h.top_nonzero_is ∙ mask_ext (blocks W) _ _ (λ b l. ap (λ (x : ℕ). not (eqb x 0)) (nonzero_agrees b));
        top_full_is = h.top_full_is ∙ mask_ext (blocks W) _ _ (λ b l. ap (λ (x : ℕ). eqb x (valid W b)) (full_agrees b));
        nonzeros = λ b l m. h.nonzeros b l (masked_agrees b ∙ m) ∙ nonzero_agrees b;
        fulls = λ b l m. h.fulls b l (masked_agrees b ∙ m) ∙ full_agrees b;
        counts = λ b l m. h.counts b l (masked_agrees b ∙ m) ∙ population_agrees b l;
        stored = λ k l m a f.
            let w = word_agrees k l in
            h.stored k l (masked_agrees (k / 64) ∙ m) (ap (λ (x : ℕ). not (eqb x 0)) w ∙ a) (ap (λ (x : ℕ). eqb x ALL) w ∙ f) ∙ w;
      }

-- what a memory represents is one set, as far as its capacity
pub represented_one : (h : RangeBitset) (st : List ℕ) (s t : Positions) → Represents h st s → Represents h st t → (i : ℕ) → i < capacity_of h → s i ≡ t i
represented_one h st s t p q i l = by h.allocated refl
  where
    read : (r : Positions) → Stored h.words st r → r i ≡ bit (word_read h.words st (i / 64)) (i % 64)
    read r z = sym (ap (λ (x : ℕ). bit x (i % 64)) (word_is h.words st r closed z (i / 64) (omega arith)) ∙ in_word r i)

    by : (b : Bool) → h.allocated ≡ b → s i ≡ t i
    by true e = read s (p.begun e) ∙ sym (read t (q.begun e))
    by false e = p.fresh e i l ∙ sym (q.fresh e i l)
