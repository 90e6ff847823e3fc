-- What a side that holds a set tells of a block, and what is then made of the block. Assumes nothing.
use Rattle.combine.proofs.Kit.{◌≡◌, refl, ap, ap₂, sym, ◌∙◌, Bool, true, false, not, ◌&&◌, ◌||◌, not-true, cond, true≢false, ℕ, zero-le, ◌+◌, ◌*◌, ◌-◌, ◌/◌, ◌^◌, ◌<◌, suc, arith, eqb, le-leb, ltb, get_or, ones}
use Rattle.positions.specs.Positions.{Positions, count}
use Rattle.positions.proofs.Bools.{and_left, and_right}
use Rattle.bits.specs.Bit.{bit}
use Rattle.bits.proofs.Bits.{bit_ones}
use Rattle.bits.proofs.Words.{mask_at, mask_ext}
use Rattle.range_bitset.specs.Layout.{blocks, words_of}
use Rattle.range_bitset.specs.Read.{ALL}
use Rattle.range_bitset.specs.Represents.{word_of, any_word, all_word, nonzero_mask, full_mask, block_count, any_block, all_block, closed, masked}
use Rattle.range_bitset.specs.Inner.{Room}
use Rattle.range_bitset.proofs.SetWords.{word_ones, word_all, word_none, full_words, clear_words, full_nonzero, full_full, clear_nonzero, clear_full}
use Rattle.range_bitset.proofs.Populations.{masked_rows}
use Rattle.range_bitset.proofs.Walked.{part_at}
use Rattle.range_bitset.specs.declared.Parts.{Parts}
use Rattle.combine.specs.Rules.{Rule, combined}
use Rattle.combine.specs.Inner.{unsettled_by, unsettled_at, full_at, lone_at, read_word, block_word, by_tops, masks_of, stored_of, Summed, Tells}
use Rattle.combine.specs.declared.block.Made.{Made}
use Rattle.combine.specs.declared.source.Source.{Source}
use Rattle.combine.proofs.SettledParts.{made_is, lone_mixed}

module _ (x : Source) (s : Positions) (h : Tells x s) (b : ℕ) (l : b < blocks x.at.words) where
  abbrev W : ℕ
  W = x.at.words

  -- the bits of the top masks
  pub top_any : bit x.tops.nonzero b ≡ any_block W s b
  top_any = ap (λ (z : ℕ). bit z b) h.nonzero_is ∙ mask_at (blocks W) _ b l

  pub top_all : bit x.tops.full b ≡ all_block W s b
  top_all = ap (λ (z : ℕ). bit z b) h.full_is ∙ mask_at (blocks W) _ b l

  -- the masks of the block, by what the top masks say of it
  by_block : (v n a : ℕ) → (all_block W s b ≡ true → v ≡ a) → (any_block W s b ≡ false → 0 ≡ a) → (masked W s closed b ≡ true → n ≡ a)
      → by_tops x.tops b v n ≡ a
  by_block v n a p q r = ap₂ (λ (c d : Bool). cond c v (cond d n 0)) top_all top_any ∙ by (all_block W s b) refl (any_block W s b) refl
    where
      by : (c : Bool) → all_block W s b ≡ c → (d : Bool) → any_block W s b ≡ d → cond c v (cond d n 0) ≡ a
      by true e d g = p e
      by false e true g = r (ap₂ (λ (y z : Bool). y && not z) g e)
      by false e false g = q g

  pub masks_nonzero : (masks_of x b).nonzero ≡ nonzero_mask W s b
  unfolding masks_of
  masks_nonzero = by_block _ _ _ (λ e. sym (full_nonzero W s b e)) (λ e. sym (clear_nonzero W s b e)) (h.nonzeros b l)

  pub masks_full : (masks_of x b).full ≡ full_mask W s b
  unfolding masks_of
  masks_full = by_block _ _ _ (λ e. sym (full_full W s b e)) (λ e. sym (clear_full W s b e)) (h.fulls b l)

  module _ (j : ℕ) (u : j < words_of W b) where
    pub word_any : bit (masks_of x b).nonzero j ≡ any_word s (64 * b + j)
    unfolding nonzero_mask
    word_any = ap (λ (z : ℕ). bit z j) masks_nonzero ∙ mask_at (words_of W b) _ j u

    pub word_full : bit (masks_of x b).full j ≡ all_word s (64 * b + j)
    unfolding full_mask
    word_full = ap (λ (z : ℕ). bit z j) masks_full ∙ mask_at (words_of W b) _ j u

    -- the block of a word that is stored is mixed
    mixed : any_word s (64 * b + j) ≡ true → all_word s (64 * b + j) ≡ false → masked W s closed b ≡ true
    mixed p q = by (any_block W s b) refl (all_block W s b) refl
      where
        by : (c : Bool) → any_block W s b ≡ c → (d : Bool) → all_block W s b ≡ d → (c && not d) ≡ true
        by true e true g = absurd (true≢false (sym (full_words W s b g j u) ∙ q))
        by true e false g = refl
        by false e d g = absurd (true≢false (sym p ∙ clear_words W s b e j u))

    pub word_read : Room W x.storage.now → read_word (masks_of x b) (stored_of x b) j ≡ word_of s (64 * b + j)
    word_read room =
        ap₂ (λ (c d : Bool). cond c ALL (cond d (get_or (stored_of x b) j 0) 0)) word_full word_any
        ∙ by (all_word s (64 * b + j)) refl (any_word s (64 * b + j)) refl
      where
        d : (64 * b + j) / 64 ≡ b
        d = omega arith

        by : (c : Bool) → all_word s (64 * b + j) ≡ c → (e : Bool) → any_word s (64 * b + j) ≡ e
            → cond c ALL (cond e (get_or (stored_of x b) j 0) 0) ≡ word_of s (64 * b + j)
        by true p e q = sym (word_all s (64 * b + j) p)
        by false p true q =
            part_at x.storage.now (64 * b) (words_of W b) j u
            ∙ h.stored (64 * b + j) (omega arith) (ap (masked W s closed) d ∙ mixed q p) q p
        by false p false q = sym (word_none s (64 * b + j) q)

-- ---- the block of the combination

module _ (f : Rule) (x y : Source) (same : y.at ≡ x.at) (s t : Positions) (hs : Tells x s) (ht : Tells y t) (b : ℕ) (l : b < blocks x.at.words) where
  abbrev u : Positions
  u = combined f s t

  l' : b < blocks y.at.words
  l' = rw same l

  pub top_unsettled : unsettled_at f x.tops y.tops b
      ≡ unsettled_by f (any_block x.at.words s b) (all_block x.at.words s b) (any_block x.at.words t b) (all_block x.at.words t b)
  top_unsettled =
      rw (top_any x s hs b l, top_all x s hs b l, top_any y t ht b l', top_all y t ht b l')
      (ap (λ (p : Parts). unsettled_by f (any_block x.at.words s b) (all_block x.at.words s b) (any_block p.words t b) (all_block p.words t b)) same)

  pub top_full_at : full_at f x.tops y.tops b ≡ f (all_block x.at.words s b) (all_block x.at.words t b)
  top_full_at =
      ap₂ f (top_all x s hs b l) (top_all y t ht b l') ∙ ap (λ (p : Parts). f (all_block x.at.words s b) (all_block p.words t b)) same

  pub block_word_is : (j : ℕ) → j < words_of x.at.words b → block_word f x y b j ≡ word_of u (64 * b + j)
  block_word_is j h =
      let h' : j < words_of y.at.words b = rw same h in
      made_is f s t (masks_of x b) (stored_of x b) (masks_of y b) (stored_of y b) j (64 * b + j) (word_any x s hs b l j h) (word_full x s hs b l j h)
      (word_any y t ht b l' j h') (word_full y t ht b l' j h') (word_read x s hs b l j h x.room) (word_read y t ht b l' j h' y.room)

  -- a lone word has some of its positions and not all
  lone_is : (j : ℕ) → j < words_of x.at.words b → lone_at f (masks_of x b) (masks_of y b) j ≡ true
      → (any_word u (64 * b + j) ≡ true) × (all_word u (64 * b + j) ≡ false)
  lone_is j h e =
      let h' : j < words_of y.at.words b = rw same h in
      let n = word_any x s hs b l j h in
      let a = word_full x s hs b l j h in
      let m = word_any y t ht b l' j h' in
      let o = word_full y t ht b l' j h' in
      let p = and_left (unsettled_at f (masks_of x b) (masks_of y b) j) _ e in
      let q = not-true _ (and_right (unsettled_at f (masks_of x b) (masks_of y b) j) _ e) in
      lone_mixed f s t (64 * b + j) (rw (n, a, m, o) at p) (rw (n, a, m, o) at q)

  module _ (r : Made) (m : Summed (words_of x.at.words b) (block_word f x y b) (lone_at f (masks_of x b) (masks_of y b)) r) where
    pub made_nonzero : r.masks.nonzero ≡ nonzero_mask x.at.words u b
    unfolding nonzero_mask
    made_nonzero =
        m.nonzero_is
        ∙ mask_ext (words_of x.at.words b) _ _
        (λ j h.
        ap (λ (z : ℕ). lone_at f (masks_of x b) (masks_of y b) j || not (eqb z 0)) (block_word_is j h)
        ∙ by j h (lone_at f (masks_of x b) (masks_of y b) j) refl)
      where
        by : (j : ℕ) → j < words_of x.at.words b → (c : Bool) → lone_at f (masks_of x b) (masks_of y b) j ≡ c → (c || any_word u (64 * b + j)) ≡ any_word u (64 * b + j)
        by j h true e = sym (lone_is j h e).0
        by j h false e = refl

    pub made_full : r.masks.full ≡ full_mask x.at.words u b
    unfolding full_mask
    made_full =
        m.full_is
        ∙ mask_ext (words_of x.at.words b) _ _
        (λ j h.
        ap (λ (z : ℕ). not (lone_at f (masks_of x b) (masks_of y b) j) && eqb z ALL) (block_word_is j h)
        ∙ by j h (lone_at f (masks_of x b) (masks_of y b) j) refl)
      where
        by : (j : ℕ) → j < words_of x.at.words b → (c : Bool) → lone_at f (masks_of x b) (masks_of y b) j ≡ c
            → (not c && all_word u (64 * b + j)) ≡ all_word u (64 * b + j)
        by j h true e = sym (lone_is j h e).1
        by j h false e = refl

    pub made_count : r.population ≡ block_count x.at.words u b
    unfolding block_count
    made_count =
        let n = words_of x.at.words b in
        let from : 64 * (64 * b + 0) ≡ 4096 * b = omega arith in
        let to : 64 * (64 * b + n) ≡ 4096 * b + 64 * n = omega arith in
        m.counted
        ∙ masked_rows u (λ j. 64 * (64 * b + j)) (λ j. omega arith) (2 ^ n - 1) 0 n (λ j. ones (block_word f x y b j))
        (λ i. bit_ones n i ∙ ap (λ (z : Bool). z && ltb i n) (sym (le-leb 0 i zero-le))) (omega arith) (omega arith)
        (λ j p q.
        let next : 64 * (64 * b + j) + 64 ≡ 64 * (64 * b + suc j) = omega arith in
        ap ones (block_word_is j q) ∙ word_ones u (64 * b + j) ∙ ap (count u (64 * (64 * b + j))) next)
        ∙ ap₂ (count u) from to
