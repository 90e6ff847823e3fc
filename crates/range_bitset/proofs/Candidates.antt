-- The candidate masks: what a word, a block and the masks over them say of the positions of a value. Assumes nothing.
use Rattle.range_bitset.proofs.Kit.{◌≡◌, refl, ap, sym, ◌∙◌, Bool, true, false, not, ◌&&◌, true≢false, false≢true, List, ℕ, suc, ◌+◌, ◌*◌, ◌-◌, ◌^◌, ◌≤◌, ◌<◌, le_refl, lt_of_le_of_lt, lt_of_lt_of_le, arith, bit_and, and_le_l, pow_mono, pow_pos, lt-ltb, eq-eqb, not-false}
use Rattle.positions.specs.Positions.{Positions}
use Rattle.positions.proofs.Ranges.{within_in}
use Rattle.positions.specs.Walks.{Lacks}
use Rattle.bits.specs.Bit.{bit, mask}
use Rattle.bits.proofs.Bits.{bit_zero, bit_ones, bit_of_and, bit_not, bit_none, bit_all}
use Rattle.bits.proofs.Words.{mask_lt, mask_at}
use Rattle.range_bitset.specs.Layout.{blocks, words_of, at, nonzero, full, top_nonzero, top_full}
use Rattle.range_bitset.specs.Read.{ALL, state_of}
use Rattle.range_bitset.specs.Represents.{word_of, any_word, all_word, valid, full_mask, any_block, all_block, closed}
use Rattle.range_bitset.specs.Inner.{Spans, Marks, word_start, CandidateWords, CandidateBlocks}
use Rattle.range_bitset.specs.declared.State.TheVariants.{Empty, Mixed, Full}
use Rattle.range_bitset.proofs.SpanMasks.{spans_lt}
use Rattle.range_bitset.proofs.SetWords.{valid_fits, nonzero_bit, word_lt, word_bit, word_all, word_none, block_none, block_all, clear_positions, full_positions, state_empty, state_full, state_masked}

never : (v : Bool) → v ≡ not v → ⊥
never true e = true≢false e
never false e = false≢true e

-- ---- a word that lacks a value

bit_all_ones : (i : ℕ) → i < 64 → bit ALL i ≡ true
bit_all_ones i h = bit_ones 64 i ∙ lt-ltb i 64 h

module _ (s : Positions) (k : ℕ) where
  place : (i : ℕ) → 64 * k ≤ i → i < 64 * suc k → bit (word_of s k) (i - 64 * k) ≡ s i
  place i l u =
      let q : 64 * k + (i - 64 * k) ≡ i = omega arith in
      word_bit s k (i - 64 * k) (omega arith) ∙ ap s q

  pub clear_lacks : word_of s k ≡ 0 → Lacks s true (64 * k) (64 * suc k)
  clear_lacks e i l u = sym (place i l u) ∙ ap (λ (x : ℕ). bit x (i - 64 * k)) e ∙ bit_zero (i - 64 * k)

  pub full_lacks : word_of s k ≡ ALL → Lacks s false (64 * k) (64 * suc k)
  full_lacks e i l u = sym (place i l u) ∙ ap (λ (x : ℕ). bit x (i - 64 * k)) e ∙ bit_all_ones (i - 64 * k) (omega arith)

  pub lacks_clear : Lacks s true (64 * k) (64 * suc k) → word_of s k ≡ 0
  lacks_clear h = bit_none 64 (word_of s k) (word_lt s k) (λ i l. word_bit s k i l ∙ h (64 * k + i) (omega arith) (omega arith))

  pub lacks_full : Lacks s false (64 * k) (64 * suc k) → word_of s k ≡ ALL
  lacks_full h = bit_all 64 (word_of s k) (word_lt s k) (λ i l. word_bit s k i l ∙ h (64 * k + i) (omega arith) (omega arith))

-- ---- the candidate words of a block

module _ (W b : ℕ) where
  -- every position has the value, or none has
  alike : (s : Positions) (v : Bool) → ((i : ℕ) → 4096 * b ≤ i → i < 4096 * b + 64 * words_of W b → s i ≡ v) → Marks s v (words_of W b) (word_start b) (valid W b)
  alike s v h =
      record {
        lacks = λ j l e. absurd (true≢false (sym (bit_ones (words_of W b) j ∙ lt-ltb j (words_of W b) l) ∙ e));
        has = λ j l e k. never v (sym (h (word_start b j) (omega arith) (omega arith)) ∙ k (word_start b j) (omega arith) (omega arith));
      }

  barren : (s : Positions) (v : Bool) → Lacks s v (4096 * b) (4096 * b + 64 * words_of W b) → Marks s v (words_of W b) (word_start b) 0
  barren s v h =
      record {
        lacks = λ j l e i p q. h i (omega arith) (omega arith);
        has = λ j l e k. absurd (false≢true (sym (bit_zero j) ∙ e));
      }

  -- a block of both values, by its masks
  nonzero_marks : (s : Positions) (x : ℕ) → ((j : ℕ) → j < words_of W b → bit x j ≡ any_word s (64 * b + j)) → Marks s true (words_of W b) (word_start b) x
  nonzero_marks s x h =
      record {
        lacks = λ j l e i p q. clear_lacks s (64 * b + j) (word_none s (64 * b + j) (sym (h j l) ∙ e)) i p (omega arith);
        has = λ j l e k.
            true≢false (sym (sym (h j l) ∙ e) ∙ ap not (eq-eqb (word_of s (64 * b + j)) 0 (lacks_clear s (64 * b + j) (λ i p q. k i p (omega arith)))));
      }

  full_marks : (s : Positions) (x : ℕ) → ((j : ℕ) → j < words_of W b → bit x j ≡ not (all_word s (64 * b + j))) → Marks s false (words_of W b) (word_start b) x
  full_marks s x h =
      record {
        lacks = λ j l e i p q. full_lacks s (64 * b + j) (word_all s (64 * b + j) (not-false _ (sym (h j l) ∙ e))) i p (omega arith);
        has = λ j l e k.
            true≢false (sym (sym (h j l) ∙ e) ∙ ap not (eq-eqb (word_of s (64 * b + j)) ALL (lacks_full s (64 * b + j) (λ i p q. k i p (omega arith)))));
      }

-- ---- the returns of `candidate_words`

module _ (W : ℕ) (st : List ℕ) (b : ℕ) (l : b < blocks W) where
  -- a mask cut to the block's words
  cut_fits : (m x : ℕ) → m ≡ valid W b → bit_and m x < 2 ^ words_of W b
  cut_fits m x e = omega (arith, and_le_l m x, valid_fits W b e)

  cut_bit : (m x j : ℕ) → m ≡ valid W b → j < words_of W b → bit (bit_and m x) j ≡ bit x j
  cut_bit m x j e h =
      bit_of_and m x j
      ∙ ap (λ (y : Bool). y && bit x j) (ap (λ (y : ℕ). bit y j) e ∙ bit_ones (words_of W b) j ∙ lt-ltb j (words_of W b) h)

  pub empty_ones : (v : Bool) → v ≡ true → state_of W st b ≡ Empty → CandidateWords W b v st 0
  empty_ones false e w = absurd (false≢true e)
  empty_ones true e w =
      record {
        fits = pow_pos (words_of W b);
        marks = λ s h. barren W b s true (clear_positions W s b (state_empty W st b l s h w));
      }

  pub full_zeros : (v : Bool) → v ≡ false → state_of W st b ≡ Full → CandidateWords W b v st 0
  full_zeros true e w = absurd (true≢false e)
  full_zeros false e w =
      record {
        fits = pow_pos (words_of W b);
        marks = λ s h. barren W b s false (full_positions W s b (state_full W st b l s h w));
      }

  module _ (m : ℕ) (k : m ≡ valid W b) where
    pub empty_zeros : (v : Bool) → v ≡ false → state_of W st b ≡ Empty → CandidateWords W b v st m
    empty_zeros true e w = absurd (true≢false e)
    empty_zeros false e w =
        rw k
        (record {
          fits = valid_fits W b refl;
          marks = λ s h. alike W b s false (clear_positions W s b (state_empty W st b l s h w));
        })

    pub full_ones : (v : Bool) → v ≡ true → state_of W st b ≡ Full → CandidateWords W b v st m
    full_ones false e w = absurd (false≢true e)
    full_ones true e w =
        rw k
        (record {
          fits = valid_fits W b refl;
          marks = λ s h. alike W b s true (full_positions W s b (state_full W st b l s h w));
        })

    pub mixed_ones : (v : Bool) (x : ℕ) → v ≡ true → state_of W st b ≡ Mixed → at W st (nonzero b) ≡ x → CandidateWords W b v st (bit_and m x)
    mixed_ones false x e w q = absurd (false≢true e)
    mixed_ones true x e w q =
        record {
          fits = cut_fits m x k;
          marks = λ s h.
              nonzero_marks W b s (bit_and m x)
              (λ j u.
              cut_bit m x j k u ∙ ap (λ (y : ℕ). bit y j) (sym q)
              ∙ nonzero_bit W st s closed h b j l u (state_masked W st b l s h w));
        }

    pub mixed_zeros : (v : Bool) (x : ℕ) → v ≡ false → state_of W st b ≡ Mixed → at W st (full b) ≡ x → CandidateWords W b v st (bit_and m (ALL - x))
    unfolding full_mask
    mixed_zeros true x e w q = absurd (true≢false e)
    mixed_zeros false x e w q =
        record {
          fits = cut_fits m (ALL - x) k;
          marks = λ s h.
              let p : x ≡ full_mask W s b = sym q ∙ h.fulls b l (state_masked W st b l s h w) in
              let n : words_of W b ≤ 64 = omega arith in
              let f : full_mask W s b < 2 ^ 64 = lt_of_lt_of_le (mask_lt (words_of W b) _) (pow_mono n) in
              full_marks W b s (bit_and m (ALL - x))
              (λ j u.
              cut_bit m (ALL - x) j k u ∙ bit_not 64 x j (omega (arith, p, f)) (omega arith)
              ∙ ap not (ap (λ (y : ℕ). bit y j) p ∙ mask_at (words_of W b) _ j u));
        }

-- ---- the returns of `candidate_blocks`

module _ (W : ℕ) (s : Positions) (b : ℕ) where
  pub lacks_any : Lacks s true (4096 * b) (4096 * b + 64 * words_of W b) → any_block W s b ≡ false
  lacks_any h = block_none W s b (λ j u. lacks_clear s (64 * b + j) (λ i p q. h i (omega arith) (omega arith)))

  pub lacks_all : Lacks s false (4096 * b) (4096 * b + 64 * words_of W b) → all_block W s b ≡ true
  lacks_all h = block_all W s b (λ j u. lacks_full s (64 * b + j) (λ i p q. h i (omega arith) (omega arith)))

module _ (W : ℕ) (st : List ℕ) (c : W ≤ 4096) (m : ℕ) (f : m < 2 ^ 64) (k : Spans m 0 (blocks W)) where
  top_fits : (x : ℕ) → bit_and m x < 2 ^ blocks W
  top_fits x = lt_of_le_of_lt (and_le_l m x) (spans_lt m 0 (blocks W) (blocks W) f k (le_refl (blocks W)))

  top_bit : (x b : ℕ) → b < blocks W → bit (bit_and m x) b ≡ bit x b
  top_bit x b h = bit_of_and m x b ∙ ap (λ (y : Bool). y && bit x b) (k b ∙ within_in 0 (blocks W) b (omega arith) h)

  pub top_ones : (v : Bool) (x : ℕ) → v ≡ true → at W st top_nonzero ≡ x → CandidateBlocks W v st (bit_and m x)
  top_ones false x e q = absurd (false≢true e)
  top_ones true x e q =
      record {
        fits = top_fits x;
        marks = λ s h.
            let p : (b : ℕ) → b < blocks W → bit (bit_and m x) b ≡ any_block W s b =
            (λ b l. top_bit x b l ∙ ap (λ (y : ℕ). bit y b) (sym q ∙ h.top_nonzero_is) ∙ mask_at (blocks W) _ b l) in
            record {
              lacks = λ b l z i u w. clear_positions W s b (sym (p b l) ∙ z) i (omega arith) (omega arith);
              has = λ b l z g. true≢false (sym (sym (p b l) ∙ z) ∙ lacks_any W s b (λ i u w. g i (omega arith) (omega arith)));
            };
      }

  pub top_zeros : (v : Bool) (x : ℕ) → v ≡ false → at W st top_full ≡ x → CandidateBlocks W v st (bit_and m (ALL - x))
  top_zeros true x e q = absurd (true≢false e)
  top_zeros false x e q =
      record {
        fits = top_fits (ALL - x);
        marks = λ s h.
            let n : blocks W ≤ 64 = omega arith in
            let y : x ≡ mask (blocks W) (λ b. all_block W s b) = sym q ∙ h.top_full_is in
            let g : x < 2 ^ 64 = rw y (lt_of_lt_of_le (mask_lt (blocks W) _) (pow_mono n)) in
            let p : (b : ℕ) → b < blocks W → bit (bit_and m (ALL - x)) b ≡ not (all_block W s b) =
            (λ b l.
            top_bit (ALL - x) b l ∙ bit_not 64 x b g (omega arith)
            ∙ ap not (ap (λ (z : ℕ). bit z b) y ∙ mask_at (blocks W) _ b l)) in
            record {
              lacks = λ b l z i u w. full_positions W s b (not-false _ (sym (p b l) ∙ z)) i (omega arith) (omega arith);
              has = λ b l z r.
                  true≢false (sym (sym (p b l) ∙ z) ∙ ap not (lacks_all W s b (λ i u w. r i (omega arith) (omega arith))));
            };
      }
