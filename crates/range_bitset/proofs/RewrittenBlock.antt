-- One block written anew: what the storage holds where only the numbers of one open block change. Assumes nothing.
use Rattle.range_bitset.proofs.Kit.{◌≡◌, refl, ap, sym, ◌∙◌, subst, ap₂, Bool, true, false, not, ◌&&◌, ◌||◌, List, ℕ, ◌+◌, ◌*◌, ◌/◌, ◌<◌, arith, eqb, eqb-true}
use Rattle.positions.specs.Positions.{Positions}
use Rattle.positions.proofs.Counts.{count_same}
use Rattle.bits.proofs.Words.{mask_ext}
use Rattle.range_bitset.specs.Layout.{blocks, words_of, at, word, nonzero, full, population, top_nonzero, top_full, Slot}
use Rattle.range_bitset.specs.Read.{ALL}
use Rattle.range_bitset.specs.Represents.{word_of, any_word, all_word, valid, nonzero_mask, full_mask, block_count, any_block, all_block, only, masked, StoredOpen}
use Rattle.range_bitset.specs.Inner.{In}
use Rattle.range_bitset.proofs.SetWords.{word_same, in_block}

-- the number at a slot belongs to block b
unfoldable pub touches : ℕ → Slot → Bool
touches b (word k) = eqb (k / 64) b
touches b (nonzero c) = eqb c b
touches b (full c) = eqb c b
touches b (population c) = eqb c b
touches b top_nonzero = false
touches b top_full = false

-- sets that agree outside block b
module _ (W : ℕ) (s s' : Positions) (b : ℕ) (agree : (i : ℕ) → i < 64 * W → eqb (i / 4096) b ≡ false → s' i ≡ s i) where
  word_apart : (k : ℕ) → k < W → eqb (k / 64) b ≡ false → word_of s' k ≡ word_of s k
  word_apart k h e =
      word_same s' s k
      (λ i l.
      let d : (64 * k + i) / 4096 ≡ k / 64 = omega arith in
      agree (64 * k + i) (omega arith) (ap (λ (x : ℕ). eqb x b) d ∙ e))

  module _ (c : ℕ) (k : c < blocks W) (e : eqb c b ≡ false) where
    word_other : (j : ℕ) → j < words_of W c → word_of s' (64 * c + j) ≡ word_of s (64 * c + j)
    word_other j h =
        let d : (64 * c + j) / 64 ≡ c = omega arith in
        word_apart (64 * c + j) (omega arith) (ap (λ (x : ℕ). eqb x b) d ∙ e)

    same_nonzero : nonzero_mask W s' c ≡ nonzero_mask W s c
    unfolding nonzero_mask
    same_nonzero = mask_ext (words_of W c) _ _ (λ j h. ap (λ (x : ℕ). not (eqb x 0)) (word_other j h))

    same_full : full_mask W s' c ≡ full_mask W s c
    unfolding full_mask
    same_full = mask_ext (words_of W c) _ _ (λ j h. ap (λ (x : ℕ). eqb x ALL) (word_other j h))

    same_count : block_count W s' c ≡ block_count W s c
    unfolding block_count
    same_count =
        count_same s' s (4096 * c) (4096 * c + 64 * words_of W c)
        (λ i l h.
        let d : i / 4096 ≡ c = omega arith in
        agree i (omega arith) (ap (λ (x : ℕ). eqb x b) d ∙ e))

    same_any : any_block W s' c ≡ any_block W s c
    same_any = ap (λ (x : ℕ). not (eqb x 0)) same_nonzero

    same_all : all_block W s' c ≡ all_block W s c
    same_all = ap (λ (x : ℕ). eqb x (valid W c)) same_full

  same_masked : (c : ℕ) → c < blocks W → masked W s' (only b) c ≡ masked W s (only b) c
  same_masked c k = by (eqb c b) refl
    where
      by : (x : Bool) → eqb c b ≡ x → (x || (any_block W s' c && not (all_block W s' c))) ≡ (x || (any_block W s c && not (all_block W s c)))
      by true p = refl
      by false p = ap₂ (λ (u v : Bool). u && not v) (same_any c k p) (same_all c k p)

  -- what hangs on block b's being open, and else on its truth
  split : (F : Bool → Bool → Bool) → ((x y : Bool) → F true x ≡ F true y) → (c : ℕ) → (u v : Bool) → (eqb c b ≡ false → u ≡ v) → F (eqb c b) u ≡ F (eqb c b) v
  split F t c u v e = by (eqb c b) refl
    where
      by : (x : Bool) → eqb c b ≡ x → F x u ≡ F x v
      by true p = t u v
      by false p = ap (F false) (e p)

  -- the law of `assign_in_word` and `assign_words`: the numbers of block b are s''s, all others are as they were
  pub rewrite_block : (st st' : List ℕ) → StoredOpen W st s (only b)
      → ((t : Slot) → In W t → touches b t ≡ false → at W st' t ≡ at W st t)
      → at W st' (nonzero b) ≡ nonzero_mask W s' b → at W st' (full b) ≡ full_mask W s' b → at W st' (population b) ≡ block_count W s' b
      → ((j : ℕ) → j < W → j / 64 ≡ b → any_word s' j ≡ true → all_word s' j ≡ false → at W st' (word j) ≡ word_of s' j)
      → StoredOpen W st' s' (only b)
  unfolding touches
  rewrite_block st st' r o n f p d =
      record {
        top_nonzero_is =
            o top_nonzero (omega arith) refl ∙ r.top_nonzero_is
            ∙ mask_ext (blocks W) _ _ (λ c k. split ◌||◌ (λ x y. refl) c _ _ (λ e. sym (same_any c k e)));
        top_full_is =
            o top_full (omega arith) refl ∙ r.top_full_is
            ∙ mask_ext (blocks W) _ _ (λ c k. split (λ x u. not x && u) (λ x y. refl) c _ _ (λ e. sym (same_all c k e)));
        nonzeros = λ c k m.
            pick c (λ x. at W st' (nonzero x) ≡ nonzero_mask W s' x) n
            (λ e. o (nonzero c) k e ∙ r.nonzeros c k (sym (same_masked c k) ∙ m) ∙ sym (same_nonzero c k e));
        fulls = λ c k m.
            pick c (λ x. at W st' (full x) ≡ full_mask W s' x) f
            (λ e. o (full c) k e ∙ r.fulls c k (sym (same_masked c k) ∙ m) ∙ sym (same_full c k e));
        counts = λ c k m.
            pick c (λ x. at W st' (population x) ≡ block_count W s' x) p
            (λ e. o (population c) k e ∙ r.counts c k (sym (same_masked c k) ∙ m) ∙ sym (same_count c k e));
        stored = λ j h m a g. by j h m a g (eqb (j / 64) b) refl;
      }
    where
      pick : (c : ℕ) (P : ℕ → Type 0) → P b → (eqb c b ≡ false → P c) → P c
      pick c P t e = go (eqb c b) refl
        where
          go : (x : Bool) → eqb c b ≡ x → P c
          go true q = subst P (sym (eqb-true c b q)) t
          go false q = e q

      by : (j : ℕ) → j < W → masked W s' (only b) (j / 64) ≡ true → any_word s' j ≡ true → all_word s' j ≡ false
          → (x : Bool) → eqb (j / 64) b ≡ x → at W st' (word j) ≡ word_of s' j
      by j h m a g true q = d j h (eqb-true _ _ q) a g
      by j h m a g false q =
          let w = word_apart j h q in
          o (word j) h q
          ∙ r.stored j h (sym (same_masked (j / 64) (in_block W j h).0) ∙ m) (ap (λ (x : ℕ). not (eqb x 0)) (sym w) ∙ a) (ap (λ (x : ℕ). eqb x ALL) (sym w) ∙ g)
          ∙ sym w
