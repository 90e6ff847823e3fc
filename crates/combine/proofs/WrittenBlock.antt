-- One block written into the third storage: its words as a part, then its masks and its population. Assumes nothing.
use Rattle.combine.proofs.Kit.{◌≡◌, refl, ap, sym, ◌∙◌, false, dec_lt, List, [], ◌∷◌, ◌⊎◌, inl, inr, ℕ, ◌+◌, ◌*◌, ◌-◌, ◌/◌, ◌<◌, ◌≤◌, arith, eqb-false, length, get_or, take, drop, length-set, length-drop, length-take-le, get_or-append, get_or-append-add, get_or-take, get_or-drop, drop-drop}
use borrow.Rule.Slice.PartMut.{put_mid, same_len_mid, drop_put}
use Rattle.range_bitset.specs.Layout.{blocks, words_of, needed, SamePast, Slot, word, nonzero, full, population, top_nonzero, top_full, at}
use Rattle.range_bitset.specs.Inner.{Room, In, Store, ◌≔◌, stores, find, AllIn}
use Rattle.range_bitset.proofs.Slots.{leaves_at, leaves_kept}
use Rattle.range_bitset.proofs.RewrittenBlock.{touches}
use Rattle.range_bitset.proofs.AssignedWord.{cond_same}
use Rattle.combine.specs.Rules.{Rule}
use Rattle.combine.specs.Inner.{masks_of, stored_of, MakesWords, MakesBlock}
use Rattle.combine.specs.declared.block.Made.{Made}
use Rattle.combine.specs.declared.source.Source.{Source}

-- ---- the words, a part of the storage

module _ (W b : ℕ) (st part : List ℕ) (long : needed W ≤ length st) (l : b < blocks W) (p : length part ≡ words_of W b) where
  abbrev worded : List ℕ
  worded = put_mid (64 * b) (words_of W b) st part

  before : length (take (64 * b) st) ≡ 64 * b
  before = length-take-le (64 * b) st (omega arith)

  worded_length : length worded ≡ length st
  worded_length =
      same_len_mid (64 * b) (words_of W b) st part
      (p ∙ sym (length-take-le (words_of W b) (drop (64 * b) st) (omega (arith, length-drop (64 * b) st))))

  after : drop (64 * b + words_of W b) worded ≡ drop (64 * b + words_of W b) st
  after =
      let e : 64 * b + words_of W b - 64 * b ≡ words_of W b = omega arith in
      ap (λ (n : ℕ). drop (64 * b + words_of W b) (put_mid (64 * b) n st part)) (sym e)
      ∙ drop_put (64 * b) (64 * b + words_of W b) st part (omega arith) (omega arith) (p ∙ sym e)

  worded_in : (i : ℕ) → i < words_of W b → get_or worded (64 * b + i) 0 ≡ get_or part i 0
  worded_in i h =
      ap (λ (n : ℕ). get_or worded (n + i) 0) (sym before)
      ∙ get_or-append-add (take (64 * b) st) _ i 0 ∙ get_or-append part _ 0 i (omega (arith, p))

  worded_out : (k : ℕ) → (k < 64 * b) ⊎ (64 * b + words_of W b ≤ k) → get_or worded k 0 ≡ get_or st k 0
  worded_out k (inl h) = get_or-append (take (64 * b) st) _ 0 k (omega (arith, before)) ∙ get_or-take (64 * b) st k 0 h
  worded_out k (inr h) =
      let e : 64 * b + words_of W b + (k - (64 * b + words_of W b)) ≡ k = omega arith in
      ap (λ (n : ℕ). get_or worded n 0) (sym e)
      ∙ sym (get_or-drop (64 * b + words_of W b) worded _ 0)
      ∙ ap (λ (x : List ℕ). get_or x (k - (64 * b + words_of W b)) 0) after
      ∙ get_or-drop (64 * b + words_of W b) st _ 0
      ∙ ap (λ (n : ℕ). get_or st n 0) e

  worded_kept : SamePast W st worded
  worded_kept =
      let e : 64 * b + words_of W b + (needed W - (64 * b + words_of W b)) ≡ needed W = omega arith in
      ap (λ (n : ℕ). drop n worded) (sym e)
      ∙ sym (drop-drop (needed W - (64 * b + words_of W b)) (64 * b + words_of W b) worded)
      ∙ ap (drop (needed W - (64 * b + words_of W b))) after
      ∙ drop-drop (needed W - (64 * b + words_of W b)) (64 * b + words_of W b) st
      ∙ ap (λ (n : ℕ). drop n st) e

  -- a number of another block, or of no block's words
  worded_other : (t : Slot) → In W t → touches b t ≡ false → at W worded t ≡ at W st t
  unfolding touches
  worded_other (word k) i e = let n = eqb-false (k / 64) b e in worded_out k (by (dec_lt k (64 * b)) n)
    where
      by : Dec (k < 64 * b) → (k / 64 ≡ b → ⊥) → (k < 64 * b) ⊎ (64 * b + words_of W b ≤ k)
      by (yes h) n = inl h
      by (no h) n = inr (omega (arith, n))
  worded_other (nonzero c) i e = worded_out _ (inr (omega arith))
  worded_other (full c) i e = worded_out _ (inr (omega arith))
  worded_other (population c) i e = worded_out _ (inr (omega arith))
  worded_other top_nonzero i e = worded_out _ (inr (omega arith))
  worded_other top_full i e = worded_out _ (inr (omega arith))

-- ---- the masks and the population

abbrev pub block_stores : ℕ → Made → List Store
block_stores b r = population b ≔ r.population ∷ full b ≔ r.masks.full ∷ nonzero b ≔ r.masks.nonzero ∷ []

pub block_made : (f : Rule) (x y : Source) (b : ℕ) (st old part st' : List ℕ) (r : Made) → Room x.at.words st → b < blocks x.at.words
    → length old ≡ words_of x.at.words b → MakesWords f (masks_of x b) (stored_of x b) (masks_of y b) (stored_of y b) old part r
    → st' ≡ stores x.at.words (put_mid (64 * b) (words_of x.at.words b) st part) (block_stores b r) → MakesBlock f x y b st st' r
unfolding touches
block_made f x y b st old part st' r room l n m e =
    record {
      same_length = ap length e ∙ length-set _ _ _ ∙ length-set _ _ _ ∙ length-set _ _ _ ∙ worded_length W b st part room.long l p;
      storage_kept = leaves_kept W worded' long us within e ∙ worded_kept W b st part room.long l p;
      others = λ t i h. now t i ∙ apart t h ∙ worded_other W b st part room.long l p t i h;
      nonzero_put = now (nonzero b) l ∙ cond_same b _ _;
      full_put = now (full b) l ∙ cond_same b _ _;
      population_put = now (population b) l ∙ cond_same b _ _;
      summed = rw n at m.summed;
      stored = λ i h u. now (word (64 * b + i)) (omega arith) ∙ worded_in W b st part room.long l p i h ∙ m.stored i (omega (arith, n)) u;
    }
  where
    W : ℕ
    W = x.at.words

    p : length part ≡ words_of W b
    p = m.same_length ∙ n

    worded' : List ℕ
    worded' = put_mid (64 * b) (words_of W b) st part

    long : needed W ≤ length worded'
    long = omega (arith, worded_length W b st part room.long l p, room.long)

    us : List Store
    us = block_stores b r

    within : AllIn W us
    within = (l, (l, (l, omega arith)))

    now : (t : Slot) → In W t → at W st' t ≡ find us t (at W worded' t)
    now t i = leaves_at W worded' long us within e t i

    apart : (t : Slot) {old : ℕ} → touches b t ≡ false → find us t old ≡ old
    apart (word k) h = refl
    apart (nonzero c) h = rw h refl
    apart (full c) h = rw h refl
    apart (population c) h = rw h refl
    apart top_nonzero h = refl
    apart top_full h = refl
