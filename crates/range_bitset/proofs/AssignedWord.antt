-- `assign_in_word`: one word written anew in an open block. Assumes nothing.
use Rattle.range_bitset.proofs.Kit.{◌≡◌, refl, ap, sym, ◌∙◌, ap₂, Bool, true, false, not, cond, List, ℕ, ◌+◌, ◌*◌, ◌/◌, ◌%◌, ◌^◌, ◌≤◌, ◌<◌, arith, eqb, ones, eq-eqb, ne_eqb, eqb-true, eqb-false}
use Rattle.positions.specs.Positions.{Positions, assigned, changed_count}
use Rattle.positions.proofs.Ranges.{Place, inside, before, behind, place}
use Rattle.positions.proofs.Counts.{count_swap}
use Rattle.positions.proofs.Assigned.{assigned_before, assigned_behind, changed_apart}
use Rattle.bits.specs.Bit.{mask, put}
use Rattle.bits.proofs.Words.{mask_ext, put_one}
use Rattle.std.specs.Int.{abs_diff}
use Rattle.range_bitset.specs.Layout.{blocks, words_of, at, word, nonzero, full, population, top_nonzero, top_full, Slot, SamePast}
use Rattle.range_bitset.specs.Read.{ALL, mixed_read}
use Rattle.range_bitset.specs.Represents.{word_of, any_word, all_word, nonzero_mask, full_mask, block_count, only, masked, StoredOpen}
use Rattle.range_bitset.specs.Inner.{Room, Spans, moved, In, stores, find, AllIn, write_word, count_moved, Opens, Closes, Assigns}
use Rattle.range_bitset.proofs.Slots.{leaves_at, twice_at, twice_kept}
use Rattle.range_bitset.proofs.SetWords.{in_block, word_same, word_ones, ones_most, block_most, mixed_is}
use Rattle.range_bitset.proofs.OpenBlocks.{open_here}
use Rattle.range_bitset.proofs.RewrittenBlock.{touches, rewrite_block}
use Rattle.range_bitset.proofs.SpanMasks.{put_word}

-- what the storage holds after an opened block is written and closed, put together
pub assigns_by : (W b X Y : ℕ) (v : Bool) (st st₁ st₃ st₄ : List ℕ) (r : ℕ) → Opens W b st st₁ → SamePast W st₁ st₃ → Closes W b st₃ st₄
    → ((s : Positions) → StoredOpen W st₁ s (only b) → StoredOpen W st₃ (assigned s X Y v) (only b))
    → ((s : Positions) → StoredOpen W st₁ s (only b) → r ≡ changed_count s X Y v)
    → Assigns W X Y v st st₄ r
assigns_by W b X Y v st st₁ st₃ st₄ r o k c h n =
    record {
      storage_kept = c.storage_kept ∙ k ∙ o.storage_kept;
      holds = λ s t. c.holds (assigned s X Y v) (h s (o.holds s t));
      changed = λ s t. n s (o.holds s t);
    }

-- a kept population moved by what changed
pub moves : (p q o n : ℕ) → q + o ≡ p + n → o ≤ 4096 → q ≤ 4096 → p ≤ 4096 → moved p o n ≡ q
moves p q o n e h l k = omega arith

-- a number at a slot stored last
pub cond_same : (c x y : ℕ) → cond (eqb c c) x y ≡ x
cond_same c x y = ap (λ (t : Bool). cond t x y) (eq-eqb c c refl)

-- s and s' agree outside word k
module _ (W : ℕ) (st : List ℕ) (s s' : Positions) (k : ℕ) (room : Room W st) (l : k < W)
    (agree : (i : ℕ) → (i / 64 ≡ k → ⊥) → s' i ≡ s i) where
  in_k : (k / 64 < blocks W) × (k % 64 < words_of W (k / 64)) × (64 * (k / 64) + k % 64 ≡ k)
  in_k = in_block W k l

  word_other : (j : ℕ) → (j ≡ k → ⊥) → word_of s' j ≡ word_of s j
  word_other j n =
      word_same s' s j
      (λ i h.
      let d : (64 * j + i) / 64 ≡ j = omega arith in
      agree (64 * j + i) (λ e. n (sym d ∙ e)))

  block_moved : block_count W s' (k / 64) + ones (word_of s k) ≡ block_count W s (k / 64) + ones (word_of s' k)
  unfolding block_count
  block_moved =
      let i = in_k in
      let q =
      count_swap s s' (4096 * (k / 64)) (64 * k) (64 * k + 64) (4096 * (k / 64) + 64 * words_of W (k / 64)) (omega arith) (omega arith) (omega arith)
      (λ i p q. agree i (λ e. omega arith)) (λ i p q. agree i (λ e. omega arith)) in
      omega (arith, q, word_ones s k, word_ones s' k)

  -- a mask over the block's words, with word k's bit put
  mask_put : (g : ℕ → Bool) → put 64 (mask (words_of W (k / 64)) (λ j. g (word_of s (64 * (k / 64) + j)))) (2 ^ (k % 64)) (g (word_of s' k))
      ≡ mask (words_of W (k / 64)) (λ j. g (word_of s' (64 * (k / 64) + j)))
  mask_put g =
      put_one 64 (words_of W (k / 64)) _ (k % 64) (g (word_of s' k)) (omega arith) in_k.1
      ∙ mask_ext (words_of W (k / 64)) _ _ (λ j h. by j h (eqb j (k % 64)) refl)
    where
      by : (j : ℕ) → j < words_of W (k / 64) → (x : Bool) → eqb j (k % 64) ≡ x
          → cond x (g (word_of s' k)) (g (word_of s (64 * (k / 64) + j))) ≡ g (word_of s' (64 * (k / 64) + j))
      by j h true e =
          let q : j ≡ k % 64 = eqb-true _ _ e in
          let z : k ≡ 64 * (k / 64) + j = omega arith in
          ap (λ (x : ℕ). g (word_of s' x)) z
      by j h false e =
          let n : j ≡ k % 64 → ⊥ = eqb-false _ _ e in
          ap g (sym (word_other (64 * (k / 64) + j) (λ z. n (omega arith))))

  -- word k and its bits written, and the block's population moved, in a block that is open
  write_holds : (st₂ st₃ : List ℕ) (new : ℕ) → StoredOpen W st s (only (k / 64)) → new ≡ word_of s' k
      → st₂ ≡ stores W st (write_word W st k new)
      → st₃ ≡ stores W st₂ (count_moved W st₂ (k / 64) (ones (word_of s k)) (ones new))
      → StoredOpen W st₃ s' (only (k / 64))
  unfolding touches nonzero_mask full_mask
  write_holds st₂ st₃ new r z e₂ e₃ =
      rewrite_block W s s' (k / 64) agree_b st st₃ r others
      (now (nonzero (k / 64)) i.0
      ∙ cond_same (k / 64) _ _
      ∙ ap₂ (λ (x y : ℕ). put 64 x (2 ^ (k % 64)) (not (eqb y 0))) (r.nonzeros (k / 64) i.0 here) z
      ∙ mask_put (λ x. not (eqb x 0)))
      (now (full (k / 64)) i.0
      ∙ cond_same (k / 64) _ _
      ∙ ap₂ (λ (x y : ℕ). put 64 x (2 ^ (k % 64)) (eqb y ALL)) (r.fulls (k / 64) i.0 here) z
      ∙ mask_put (λ x. eqb x ALL))
      (now (population (k / 64)) i.0
      ∙ cond_same (k / 64) _ _
      ∙ ap₂ (λ (x y : ℕ). moved x (ones (word_of s k)) (ones y)) (leaves_at W st room.long (write_word W st k new) written e₂ (population (k / 64)) i.0 ∙ r.counts (k / 64) i.0 here) z
      ∙ moves _ _ _ _ block_moved (omega (arith, ones_most s k)) (block_most W s' (k / 64)) (block_most W s (k / 64)))
      (λ j h d a f. now (word j) h ∙ by j h d a f (eqb j k) refl)
    where
      i : (k / 64 < blocks W) × (k % 64 < words_of W (k / 64)) × (64 * (k / 64) + k % 64 ≡ k)
      i = in_k

      here : masked W s (only (k / 64)) (k / 64) ≡ true
      here = open_here W s (k / 64)

      agree_b : (j : ℕ) → j < 64 * W → eqb (j / 4096) (k / 64) ≡ false → s' j ≡ s j
      agree_b j h e = let n : j / 4096 ≡ k / 64 → ⊥ = eqb-false _ _ e in agree j (λ q. n (omega arith))

      written : AllIn W (write_word W st k new)
      written = (i.0, (i.0, (l, omega arith)))

      now : (t : Slot) → In W t
          → at W st₃ t ≡ find (count_moved W st₂ (k / 64) (ones (word_of s k)) (ones new)) t (find (write_word W st k new) t (at W st t))
      now t j =
          twice_at W st room.long (write_word W st k new) (count_moved W st₂ (k / 64) (ones (word_of s k)) (ones new)) written (i.0, omega arith)
          e₂ e₃ t j

      others : (t : Slot) → In W t → touches (k / 64) t ≡ false → at W st₃ t ≡ at W st t
      others (word j) h e =
          let n : j / 64 ≡ k / 64 → ⊥ = eqb-false _ _ e in
          now (word j) h ∙ ap (λ (t : Bool). cond t new (at W st (word j))) (ne_eqb j k (λ q. n (ap (λ (x : ℕ). x / 64) q)))
      others (nonzero c) h e = rw e at (now (nonzero c) h)
      others (full c) h e = rw e at (now (full c) h)
      others (population c) h e = rw e at (now (population c) h)
      others top_nonzero h e = now top_nonzero h
      others top_full h e = now top_full h

      by : (j : ℕ) → j < W → j / 64 ≡ k / 64 → any_word s' j ≡ true → all_word s' j ≡ false → (x : Bool) → eqb j k ≡ x
          → cond x new (at W st (word j)) ≡ word_of s' j
      by j h d a f true e = z ∙ ap (word_of s') (sym (eqb-true _ _ e))
      by j h d a f false e =
          let w = word_other j (eqb-false j k e) in
          r.stored j h (ap (masked W s (only (k / 64))) d ∙ here) (ap (λ (x : ℕ). not (eqb x 0)) (sym w) ∙ a) (ap (λ (x : ℕ). eqb x ALL) (sym w) ∙ f)
          ∙ sym w

-- the contract of `assign_in_word`, from those of the functions that it calls
pub word_assigned : (W k m : ℕ) (v : Bool) (st st₁ st₂ st₃ st₄ : List ℕ) (old new n : ℕ)
    → Room W st₁ → k < W → m < 2 ^ 64
    → Opens W (k / 64) st st₁ → old ≡ mixed_read W st₁ k → new ≡ put 64 old m v
    → st₂ ≡ stores W st₁ (write_word W st₁ k new)
    → st₃ ≡ stores W st₂ (count_moved W st₂ (k / 64) (ones old) (ones new))
    → n ≡ abs_diff (ones old) (ones new)
    → Closes W (k / 64) st₃ st₄
    → (a b : ℕ) → Spans m a b → a ≤ b → b ≤ 64 → Assigns W (64 * k + a) (64 * k + b) v st st₄ n
word_assigned W k m v st st₁ st₂ st₃ st₄ old new n room l fit o eo en e₂ e₃ ed c a b sp h u =
    assigns_by W (k / 64) X Y v st st₁ st₃ st₄ n o kept c
    (λ s t. write_holds W st₁ s (assigned s X Y v) k room l (agree s) st₂ st₃ new t (fresh s t) e₂
    (e₃ ∙ ap (λ (x : ℕ). stores W st₂ (count_moved W st₂ (k / 64) (ones x) (ones new))) (was s t)))
    (λ s t.
    ed ∙ ap₂ (λ (x y : ℕ). abs_diff (ones x) (ones y)) (was s t) (fresh s t)
    ∙ ap₂ abs_diff (word_ones s k) (word_ones (assigned s X Y v) k)
    ∙ changed_apart s X Y v (64 * k) (64 * k + 64) (omega arith) (omega arith))
  where
    X : ℕ
    X = 64 * k + a

    Y : ℕ
    Y = 64 * k + b

    agree : (s : Positions) (i : ℕ) → (i / 64 ≡ k → ⊥) → assigned s X Y v i ≡ s i
    agree s i z = go (place X Y i)
      where
        go : Place X Y i → assigned s X Y v i ≡ s i
        go (inside p q e) = absurd (z (omega arith))
        go (before p e) = assigned_before s X Y v i p
        go (behind p e) = assigned_behind s X Y v i p

    i : (k / 64 < blocks W) × (k % 64 < words_of W (k / 64)) × (64 * (k / 64) + k % 64 ≡ k)
    i = in_block W k l

    was : (s : Positions) → StoredOpen W st₁ s (only (k / 64)) → old ≡ word_of s k
    was s t = eo ∙ mixed_is W st₁ s (only (k / 64)) t k l (open_here W s (k / 64))

    fresh : (s : Positions) → StoredOpen W st₁ s (only (k / 64)) → new ≡ word_of (assigned s X Y v) k
    fresh s t = en ∙ ap (λ (x : ℕ). put 64 x m v) (was s t) ∙ put_word s k a b v m fit sp

    kept : SamePast W st₁ st₃
    kept =
        twice_kept W st₁ room.long (write_word W st₁ k new) (count_moved W st₂ (k / 64) (ones old) (ones new))
        (i.0, (i.0, (l, omega arith))) (i.0, omega arith) e₂ e₃
