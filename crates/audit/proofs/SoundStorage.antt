-- A storage that meets 01's rules holds the set that its words read, and a storage that holds a set meets the rules.
-- Assumes nothing.
use Rattle.audit.proofs.Kit.{◌≡◌, refl, ap, sym, ◌∙◌, subst, ap₂, Bool, true, false, not, ◌&&◌, cond, true≢false, false≢true, List, ℕ, ◌+◌, ◌*◌, ◌/◌, ◌%◌, ◌^◌, ◌<◌, arith, eqb, eq-eqb, ne_eqb}
use Rattle.positions.specs.Positions.{Positions}
use Rattle.positions.proofs.Counts.{count_same}
use Rattle.bits.specs.Bit.{bit}
use Rattle.bits.proofs.Words.{mask_lt, mask_at, mask_true, mask_of}
use Rattle.range_bitset.specs.Layout.{blocks, words_of, at, word, nonzero, full, top_nonzero, top_full}
use Rattle.range_bitset.specs.Read.{ALL, state_of, mixed_read, word_read, by_state}
use Rattle.range_bitset.specs.Represents.{word_of, any_word, all_word, nonzero_mask, full_mask, block_count, any_block, all_block, closed, masked, Stored}
use Rattle.audit.specs.Sound.{plain, SoundBlock, SoundStorage, Words}
use Rattle.range_bitset.specs.declared.State.{State}
use Rattle.range_bitset.specs.declared.State.TheVariants.{Empty, Mixed, Full}
use Rattle.range_bitset.proofs.Walked.{mixed_row, mixed_lt, read_by}
use Rattle.range_bitset.proofs.SetWords.{all_any, in_word, in_block, block_none, block_all, none_all_block, all_any_block, state_mixed, state_masked, full_bit, nonzero_bit, word_is}

-- a state is mixed where the block has some and not all of its positions
mixed_cond : (f n : Bool) → (n && not f) ≡ true → cond f Full (cond n Mixed Empty) ≡ Mixed
mixed_cond true true e = absurd (false≢true e)
mixed_cond true false e = absurd (false≢true e)
mixed_cond false true e = refl
mixed_cond false false e = absurd (false≢true e)

-- ---- the words that a storage reads

module _ (W : ℕ) (st : List ℕ) (u : Words st) where
  pub read_lt : (k : ℕ) → word_read W st k < 2 ^ 64
  unfolding word_read
  read_lt k = by (state_of W st (k / 64))
    where
      by : (x : State) → by_state x (mixed_read W st k) < 2 ^ 64
      by Empty = omega arith
      by Mixed = mixed_lt W st u k
      by Full = omega arith

  -- the words of the set that is read are the words that are read
  pub plain_word : (k : ℕ) → word_of (plain W st) k ≡ word_read W st k
  unfolding word_of plain
  plain_word k =
      sym
      (mask_of 64 _ _ (read_lt k)
      (λ i h.
      let d : (64 * k + i) / 64 ≡ k = omega arith in
      let m : (64 * k + i) % 64 ≡ i = omega arith in
      sym (ap₂ (λ (x y : ℕ). bit (word_read W st x) y) d m)))

  -- ---- from the rules to the set

  module _ (o : SoundStorage W st) (b : ℕ) (l : b < blocks W) where
    -- a word of the set, by its block's state
    word_by : (x : State) → state_of W st b ≡ x → (j : ℕ) → j < words_of W b
        → word_of (plain W st) (64 * b + j) ≡ by_state x (mixed_read W st (64 * b + j))
    word_by x e j h = plain_word (64 * b + j) ∙ read_by W st b x e j (omega arith)

    -- what the masks of a mixed block say of its words
    module _ (m : state_of W st b ≡ Mixed) where
      z : SoundBlock W st b
      z = o.block b l m

      mixed_by : (j : ℕ) → j < words_of W b
          → word_of (plain W st) (64 * b + j)
          ≡ cond (bit (at W st (full b)) j) ALL (cond (bit (at W st (nonzero b)) j) (at W st (word (64 * b + j))) 0)
      mixed_by j h = word_by Mixed m j h ∙ mixed_row W st b j (omega arith)

      any_by : (j : ℕ) → j < words_of W b → bit (at W st (nonzero b)) j ≡ any_word (plain W st) (64 * b + j)
      unfolding z
      any_by j h = by (bit (at W st (full b)) j) refl (bit (at W st (nonzero b)) j) refl ∙ ap (λ (x : ℕ). not (eqb x 0)) (sym (mixed_by j h))
        where
          by : (f : Bool) → bit (at W st (full b)) j ≡ f → (n : Bool) → bit (at W st (nonzero b)) j ≡ n
              → n ≡ not (eqb (cond f ALL (cond n (at W st (word (64 * b + j))) 0)) 0)
          by true p true q = refl
          by true p false q = absurd (true≢false (sym (z.within_nonzero j p) ∙ q))
          by false p true q = sym (ap not (ne_eqb _ _ (z.mixed_words j h p q).0))
          by false p false q = refl

      all_by : (j : ℕ) → j < words_of W b → bit (at W st (full b)) j ≡ all_word (plain W st) (64 * b + j)
      unfolding z
      all_by j h = by (bit (at W st (full b)) j) refl (bit (at W st (nonzero b)) j) refl ∙ ap (λ (x : ℕ). eqb x ALL) (sym (mixed_by j h))
        where
          by : (f : Bool) → bit (at W st (full b)) j ≡ f → (n : Bool) → bit (at W st (nonzero b)) j ≡ n
              → f ≡ eqb (cond f ALL (cond n (at W st (word (64 * b + j))) 0)) ALL
          by true p n q = refl
          by false p true q = sym (ne_eqb _ _ (z.mixed_words j h p q).1)
          by false p false q = refl

      nonzero_by : at W st (nonzero b) ≡ nonzero_mask W (plain W st) b
      unfolding nonzero_mask z
      nonzero_by = mask_of (words_of W b) _ _ z.nonzero_fits any_by

      full_by : at W st (full b) ≡ full_mask W (plain W st) b
      unfolding full_mask z
      full_by = mask_of (words_of W b) _ _ z.full_fits all_by

      -- a stored word
      stored_by : (j : ℕ) → j < words_of W b → any_word (plain W st) (64 * b + j) ≡ true → all_word (plain W st) (64 * b + j) ≡ false
          → at W st (word (64 * b + j)) ≡ word_of (plain W st) (64 * b + j)
      stored_by j h a f =
          sym (ap₂ (λ (y n : Bool). cond y ALL (cond n (at W st (word (64 * b + j))) 0)) (all_by j h ∙ f) (any_by j h ∙ a))
          ∙ sym (mixed_by j h)

    -- the truths of a block, by its state
    full_state : state_of W st b ≡ Full → all_block W (plain W st) b ≡ true
    full_state m = block_all W (plain W st) b (word_by Full m)

    empty_state : state_of W st b ≡ Empty → any_block W (plain W st) b ≡ false
    empty_state m = block_none W (plain W st) b (word_by Empty m)

    -- a top bit is the truth that it stands for
    truths : (bit (at W st top_nonzero) b ≡ any_block W (plain W st) b) × (bit (at W st top_full) b ≡ all_block W (plain W st) b)
    unfolding state_of z
    truths = by (bit (at W st top_full) b) refl (bit (at W st top_nonzero) b) refl
      where
        is : (f n : Bool) → bit (at W st top_full) b ≡ f → bit (at W st top_nonzero) b ≡ n → state_of W st b ≡ cond f Full (cond n Mixed Empty)
        is f n p q = ap₂ (λ (x y : Bool). cond x Full (cond y Mixed Empty)) p q

        by : (f : Bool) → bit (at W st top_full) b ≡ f → (n : Bool) → bit (at W st top_nonzero) b ≡ n
            → (bit (at W st top_nonzero) b ≡ any_block W (plain W st) b) × (bit (at W st top_full) b ≡ all_block W (plain W st) b)
        by true p n q =
            let a = full_state (is true n p q) in
            (o.top_within b p ∙ sym (all_any_block W (plain W st) b l a), p ∙ sym a)
        by false p true q =
            let m = is false true p q in (
              q ∙ sym (ap not (ne_eqb _ _ (λ e. (z m).some (nonzero_by m ∙ e)))),
              p ∙ sym (ne_eqb _ _ (λ e. (z m).not_all (full_by m ∙ e))),
            )
        by false p false q =
            let a = empty_state (is false false p q) in
            (q ∙ sym a, p ∙ sym (none_all_block W (plain W st) b l a))

    state_by : masked W (plain W st) closed b ≡ true → state_of W st b ≡ Mixed
    unfolding state_of
    state_by m =
        ap₂ (λ (x y : Bool). cond x Full (cond y Mixed Empty)) truths.1 truths.0
        ∙ mixed_cond (all_block W (plain W st) b) (any_block W (plain W st) b) m

  pub sound_stored : SoundStorage W st → Stored W st (plain W st)
  unfolding z
  sound_stored o =
      record {
        top_nonzero_is = mask_of (blocks W) _ _ o.top_nonzero_fits (λ b l. (truths o b l).0);
        top_full_is = mask_of (blocks W) _ _ o.top_full_fits (λ b l. (truths o b l).1);
        nonzeros = λ b l m. nonzero_by o b l (state_by o b l m);
        fulls = λ b l m. full_by o b l (state_by o b l m);
        counts = λ b l m. (z o b l (state_by o b l m)).counted;
        stored = λ k h m a f.
            let i = in_block W k h in
            let e = i.2 in
            ap (λ (x : ℕ). at W st (word x)) (sym e)
            ∙ stored_by o (k / 64) i.0 (state_by o (k / 64) i.0 m) (k % 64) i.1 (ap (any_word (plain W st)) e ∙ a) (ap (all_word (plain W st)) e ∙ f)
            ∙ ap (word_of (plain W st)) e;
      }

-- ---- and back, from any set

module _ (W : ℕ) (st : List ℕ) (s : Positions) (r : Stored W st s) where
  -- the set that it holds is the one that its words read
  pub stored_plain : (i : ℕ) → i < 64 * W → plain W st i ≡ s i
  unfolding plain
  stored_plain i h = ap (λ (x : ℕ). bit x (i % 64)) (word_is W st s closed r (i / 64) (omega arith)) ∙ in_word s i

  sound_block : (b : ℕ) → b < blocks W → state_of W st b ≡ Mixed → SoundBlock W st b
  unfolding nonzero_mask full_mask block_count
  sound_block b l m =
      record {
        nonzero_fits = subst (λ (x : ℕ). x < 2 ^ words_of W b) (sym n) (mask_lt (words_of W b) _);
        full_fits = subst (λ (x : ℕ). x < 2 ^ words_of W b) (sym f) (mask_lt (words_of W b) _);
        within_nonzero = λ j e.
            let p = mask_true (words_of W b) _ j (ap (λ (x : ℕ). bit x j) (sym f) ∙ e) in
            nonzero_bit W st s closed r b j l p.0 k ∙ all_any s _ p.1;
        some = λ e. true≢false (sym q.0 ∙ ap not (eq-eqb _ _ (sym n ∙ e)));
        not_all = λ e. true≢false (sym (eq-eqb _ _ (sym f ∙ e)) ∙ q.1);
        mixed_words = λ j h p t.
            let d : (64 * b + j) / 64 ≡ b = omega arith in
            let y : all_word s (64 * b + j) ≡ false = sym (full_bit W st s closed r b j l h k) ∙ p in
            let z : any_word s (64 * b + j) ≡ true = sym (nonzero_bit W st s closed r b j l h k) ∙ t in
            let w : at W st (word (64 * b + j)) ≡ word_of s (64 * b + j) =
            r.stored (64 * b + j) (omega arith) (ap (masked W s closed) d ∙ k) z y in
            (λ e. true≢false (sym z ∙ ap not (eq-eqb _ _ (sym w ∙ e))), λ e. true≢false (sym (eq-eqb _ _ (sym w ∙ e)) ∙ y));
        counted = r.counts b l k ∙ count_same _ _ _ _ (λ i g e. sym (stored_plain i (omega arith)));
      }
    where
      q : (any_block W s b ≡ true) × (all_block W s b ≡ false)
      q = state_mixed W st b l s r m

      k : masked W s closed b ≡ true
      k = state_masked W st b l s r m

      n : at W st (nonzero b) ≡ nonzero_mask W s b
      n = r.nonzeros b l k

      f : at W st (full b) ≡ full_mask W s b
      f = r.fulls b l k

  pub stored_sound : SoundStorage W st
  stored_sound =
      record {
        top_nonzero_fits = subst (λ (x : ℕ). x < 2 ^ blocks W) (sym r.top_nonzero_is) (mask_lt (blocks W) _);
        top_full_fits = subst (λ (x : ℕ). x < 2 ^ blocks W) (sym r.top_full_is) (mask_lt (blocks W) _);
        top_within = λ b e.
            let p = mask_true (blocks W) _ b (ap (λ (x : ℕ). bit x b) (sym r.top_full_is) ∙ e) in
            ap (λ (x : ℕ). bit x b) r.top_nonzero_is ∙ mask_at (blocks W) _ b p.0 ∙ all_any_block W s b p.0 p.1;
        block = sound_block;
      }
