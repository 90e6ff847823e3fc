-- `assign_words` and `assign_blocks`: whole words of an open block, and whole blocks, given one value by the masks alone.
-- The words themselves are left as they are, and are stale then. Assumes nothing.
use Rattle.range_bitset.proofs.Kit.{◌≡◌, refl, ap, sym, ◌∙◌, subst, ap₂, Bool, true, false, not, ◌&&◌, cond, true≢false, false≢true, List, ℕ, ◌+◌, ◌*◌, ◌-◌, ◌/◌, ◌%◌, ◌^◌, ◌≤◌, ◌<◌, arith, eqb, ones, pow_mono, lt_of_lt_of_le, eq-eqb, ne_eqb, eqb-false}
use Rattle.positions.specs.Positions.{Positions, within, assigned, count}
use Rattle.positions.proofs.Ranges.{Place, inside, before, behind, place, within_in, within_before, within_behind, within_shift}
use Rattle.positions.proofs.Counts.{count_swap, count_same, count_le}
use Rattle.positions.proofs.Assigned.{assigned_before, assigned_behind, changed_apart}
use Rattle.bits.specs.Bit.{bit, mask, put}
use Rattle.bits.proofs.Words.{mask_ext, mask_none, mask_all, put_mask}
use Rattle.std.specs.Int.{abs_diff}
use Rattle.range_bitset.specs.Layout.{blocks, words_of, at, word, nonzero, full, population, top_nonzero, top_full, Slot, SamePast}
use Rattle.range_bitset.specs.Read.{ALL}
use Rattle.range_bitset.specs.Represents.{word_of, any_word, all_word, valid, nonzero_mask, full_mask, block_count, any_block, all_block, closed, only, masked, StoredOpen, Stored}
use Rattle.range_bitset.specs.Inner.{Room, Spans, moved, In, stores, find, AllIn, write_masks, count_moved, Opens, Closes, Assigns}
use Rattle.range_bitset.proofs.Slots.{stores_at, leaves_at, leaves_kept, twice_at, twice_kept}
use Rattle.range_bitset.proofs.SetWords.{words_some, block_most}
use Rattle.range_bitset.proofs.OpenBlocks.{open_here}
use Rattle.range_bitset.proofs.RewrittenBlock.{touches, rewrite_block}
use Rattle.range_bitset.proofs.SpanMasks.{spans_ones, count_value, put_words}
use Rattle.range_bitset.proofs.AssignedWord.{assigns_by, moves, cond_same}

-- a truth of a word that all ones and zero decide: `any` and `all` of a word
module _ (g : ℕ → Bool) (all : g ALL ≡ true) (none : g 0 ≡ false) where
  decided : (x v : Bool) (w : ℕ) → g (cond x (cond v ALL 0) w) ≡ cond x v (g w)
  decided true true w = all
  decided true false w = none
  decided false v w = refl

-- a population after whole words or blocks were set or cleared
value_count : (m a b each : ℕ) (v : Bool) → m < 2 ^ 64 → Spans m a b → a ≤ b → b ≤ 64 → (s : Positions) (X Y : ℕ) → Y - X ≡ (b - a) * each
    → cond v (ones m * each) 0 ≡ count (assigned s X Y v) X Y
value_count m a b each v fit sp h l s X Y e =
    ap (λ (x : ℕ). cond v (x * each) 0) (spans_ones m a b fit sp h l) ∙ ap (λ (x : ℕ). cond v x 0) (sym e) ∙ sym (count_value s X Y v)

-- ---- whole words of one block: bits a..b of the mask are the words 64 * blk + a .. 64 * blk + b

module _ (W blk m a b : ℕ) (v : Bool) (l : blk < blocks W) (fit : m < 2 ^ words_of W blk) (sp : Spans m a b) (h : a ≤ b) (u : b ≤ words_of W blk) where
  abbrev X : ℕ
  X = 64 * (64 * blk + a)

  abbrev Y : ℕ
  Y = 64 * (64 * blk + b)

  small : m < 2 ^ 64
  small = lt_of_lt_of_le fit (pow_mono {j = 64} (omega arith))

  module _ (st : List ℕ) (room : Room W st) (s : Positions) where
    word_put : (j : ℕ) → word_of (assigned s X Y v) (64 * blk + j) ≡ cond (bit m j) (cond v ALL 0) (word_of s (64 * blk + j))
    word_put j =
        put_words s (64 * blk + a) (64 * blk + b) v (64 * blk + j)
        ∙ ap (λ (x : Bool). cond x (cond v ALL 0) (word_of s (64 * blk + j))) (within_shift (64 * blk) a b j ∙ sym (sp j))

    mask_put : (g : ℕ → Bool) → g ALL ≡ true → g 0 ≡ false
        → put 64 (mask (words_of W blk) (λ j. g (word_of s (64 * blk + j)))) m v ≡ mask (words_of W blk) (λ j. g (word_of (assigned s X Y v) (64 * blk + j)))
    mask_put g p q =
        put_mask 64 (words_of W blk) _ m v (omega arith) fit
        ∙ mask_ext (words_of W blk) _ _ (λ j k. sym (ap g (word_put j) ∙ decided g p q (bit m j) v _))

    block_moved : block_count W (assigned s X Y v) blk + count s X Y ≡ block_count W s blk + count (assigned s X Y v) X Y
    unfolding block_count
    block_moved =
        count_swap s (assigned s X Y v) (4096 * blk) X Y (4096 * blk + 64 * words_of W blk) (omega arith) (omega arith) (omega arith)
        (λ i p q. assigned_before s X Y v i q) (λ i p q. assigned_behind s X Y v i p)

    old_most : count s X Y ≤ 4096
    old_most = omega (arith, count_le s X Y)

    words_hold : (st₂ st₃ : List ℕ) (old new : ℕ) → StoredOpen W st s (only blk) → old ≡ count s X Y → new ≡ count (assigned s X Y v) X Y
        → st₂ ≡ stores W st (write_masks W st (nonzero blk) (full blk) m v) → st₃ ≡ stores W st₂ (count_moved W st₂ blk old new)
        → StoredOpen W st₃ (assigned s X Y v) (only blk)
    unfolding touches nonzero_mask full_mask
    words_hold st₂ st₃ old new r eo en e₂ e₃ =
        rewrite_block W s (assigned s X Y v) blk agree st st₃ r others
        (now (nonzero blk) l ∙ cond_same blk _ _ ∙ ap (λ (x : ℕ). put 64 x m v) (r.nonzeros blk l (open_here W s blk)) ∙ mask_put (λ x. not (eqb x 0)) refl refl)
        (now (full blk) l ∙ cond_same blk _ _ ∙ ap (λ (x : ℕ). put 64 x m v) (r.fulls blk l (open_here W s blk)) ∙ mask_put (λ x. eqb x ALL) refl refl)
        (now (population blk) l
        ∙ cond_same blk _ _
        ∙ ap (λ (x : ℕ). moved x old new) (leaves_at W st room.long (write_masks W st (nonzero blk) (full blk) m v) written e₂ (population blk) l ∙ r.counts blk l (open_here W s blk))
        ∙ ap₂ (λ (x y : ℕ). moved (block_count W s blk) x y) eo en
        ∙ moves _ _ _ _ block_moved old_most (block_most W (assigned s X Y v) blk) (block_most W s blk))
        (λ j h d p f. now (word j) h ∙ stay j h d p f)
      where
        agree : (i : ℕ) → i < 64 * W → eqb (i / 4096) blk ≡ false → assigned s X Y v i ≡ s i
        agree i q e = go (place X Y i)
          where
            n : i / 4096 ≡ blk → ⊥
            n = eqb-false _ _ e

            go : Place X Y i → assigned s X Y v i ≡ s i
            go (inside p z w) = absurd (n (omega arith))
            go (before p w) = assigned_before s X Y v i p
            go (behind p w) = assigned_behind s X Y v i p

        written : AllIn W (write_masks W st (nonzero blk) (full blk) m v)
        written = (l, (l, omega arith))

        now : (t : Slot) → In W t → at W st₃ t ≡ find (count_moved W st₂ blk old new) t (find (write_masks W st (nonzero blk) (full blk) m v) t (at W st t))
        now t j = twice_at W st room.long (write_masks W st (nonzero blk) (full blk) m v) (count_moved W st₂ blk old new) written (l, omega arith) e₂ e₃ t j

        others : (t : Slot) → In W t → touches blk t ≡ false → at W st₃ t ≡ at W st t
        others (word j) q e = now (word j) q
        others (nonzero c) q e = rw e at (now (nonzero c) q)
        others (full c) q e = rw e at (now (full c) q)
        others (population c) q e = rw e at (now (population c) q)
        others top_nonzero q e = now top_nonzero q
        others top_full q e = now top_full q

        -- a word that is stored afterwards was stored before
        stay : (j : ℕ) → j < W → j / 64 ≡ blk → any_word (assigned s X Y v) j ≡ true → all_word (assigned s X Y v) j ≡ false
            → at W st (word j) ≡ word_of (assigned s X Y v) j
        stay j q d p f = by (bit m (j % 64)) refl v refl
          where
            k : 64 * blk + j % 64 ≡ j
            k = omega arith

            is : word_of (assigned s X Y v) j ≡ cond (bit m (j % 64)) (cond v ALL 0) (word_of s j)
            is =
                ap (word_of (assigned s X Y v)) (sym k) ∙ word_put (j % 64)
                ∙ ap (λ (x : ℕ). cond (bit m (j % 64)) (cond v ALL 0) (word_of s x)) k

            by : (x : Bool) → bit m (j % 64) ≡ x → (w : Bool) → v ≡ w → at W st (word j) ≡ word_of (assigned s X Y v) j
            by true e true z = absurd (true≢false (sym (eq-eqb _ _ (is ∙ ap₂ (λ (x y : Bool). cond x (cond y ALL 0) (word_of s j)) e z)) ∙ f))
            by true e false z = absurd (true≢false (sym p ∙ ap not (eq-eqb _ _ (is ∙ ap₂ (λ (x y : Bool). cond x (cond y ALL 0) (word_of s j)) e z))))
            by false e w z =
                let y : word_of (assigned s X Y v) j ≡ word_of s j = is ∙ ap (λ (x : Bool). cond x (cond v ALL 0) (word_of s j)) e in
                r.stored j q (ap (masked W s (only blk)) d ∙ open_here W s blk) (ap (λ (x : ℕ). not (eqb x 0)) (sym y) ∙ p) (ap (λ (x : ℕ). eqb x ALL) (sym y) ∙ f)
                ∙ sym y

  -- the contract of `assign_words`, from those of the functions that it calls
  pub words_assigned : (st st₁ st₂ st₃ st₄ : List ℕ) (old new n : ℕ) → Room W st₁
      → Opens W blk st st₁ → ((s : Positions) → StoredOpen W st₁ s (only blk) → old ≡ count s (64 * (64 * blk + a)) (64 * (64 * blk + b)))
      → new ≡ cond v (ones m * 64) 0
      → st₂ ≡ stores W st₁ (write_masks W st₁ (nonzero blk) (full blk) m v) → st₃ ≡ stores W st₂ (count_moved W st₂ blk old new)
      → n ≡ abs_diff old new → Closes W blk st₃ st₄
      → Assigns W (64 * (64 * blk + a)) (64 * (64 * blk + b)) v st st₄ n
  words_assigned st st₁ st₂ st₃ st₄ old new n room o eo en e₂ e₃ ed c =
      assigns_by W blk X Y v st st₁ st₃ st₄ n o kept c
      (λ s t. words_hold st₁ room s st₂ st₃ old new t (eo s t) (fresh s) e₂ e₃)
      (λ s t. ed ∙ ap₂ abs_diff (eo s t) (fresh s) ∙ changed_apart s X Y v X Y (omega arith) (omega arith))
    where
      fresh : (s : Positions) → new ≡ count (assigned s X Y v) X Y
      fresh s = en ∙ value_count m a b 64 v small sp h (omega arith) s X Y (omega arith)

      kept : SamePast W st₁ st₃
      kept =
          twice_kept W st₁ room.long (write_masks W st₁ (nonzero blk) (full blk) m v) (count_moved W st₂ blk old new) (l, (l, omega arith)) (l, omega arith) e₂ e₃

-- ---- whole blocks: bits a..b of the mask are the blocks a..b, of 64 words each

module _ (W m a b : ℕ) (v : Bool) (fit : m < 2 ^ blocks W) (sp : Spans m a b) (h : a ≤ b) (u : 64 * b ≤ W) (st : List ℕ) (room : Room W st) (s : Positions) where
  abbrev s' : Positions
  s' = assigned s (4096 * a) (4096 * b) v

  -- a word of a block that is put, and of one that is not
  word_block : (k : ℕ) → word_of s' k ≡ cond (bit m (k / 64)) (cond v ALL 0) (word_of s k)
  word_block k =
      let p : 4096 * a ≡ 64 * (64 * a) = omega arith in
      let q : 4096 * b ≡ 64 * (64 * b) = omega arith in
      ap₂ (λ (x y : ℕ). word_of (assigned s x y v) k) p q
      ∙ put_words s (64 * a) (64 * b) v k
      ∙ ap (λ (x : Bool). cond x (cond v ALL 0) (word_of s k)) (go (place a b (k / 64)) ∙ sym (sp (k / 64)))
    where
      go : Place a b (k / 64) → within (64 * a) (64 * b) k ≡ within a b (k / 64)
      go (inside p q e) = within_in (64 * a) (64 * b) k (omega arith) (omega arith) ∙ sym e
      go (before p e) = within_before (64 * a) (64 * b) k (omega arith) ∙ sym e
      go (behind p e) = within_behind (64 * a) (64 * b) k (omega arith) ∙ sym e

  -- a mask of block c, by a truth of each word that a full word and an empty one decide
  mask_block : (g : ℕ → Bool) → g ALL ≡ true → g 0 ≡ false → (c : ℕ)
      → mask (words_of W c) (λ j. g (word_of s' (64 * c + j))) ≡ cond (bit m c) (cond v (valid W c) 0) (mask (words_of W c) (λ j. g (word_of s (64 * c + j))))
  mask_block g all none c =
      mask_ext (words_of W c) _ _
      (λ j l.
      let d : (64 * c + j) / 64 ≡ c = omega arith in
      ap g (word_block (64 * c + j) ∙ ap (λ (x : ℕ). cond (bit m x) (cond v ALL 0) (word_of s (64 * c + j))) d)
      ∙ decided g all none (bit m c) v _)
      ∙ by (bit m c) v
    where
      by : (x w : Bool) → mask (words_of W c) (λ j. cond x w (g (word_of s (64 * c + j))))
          ≡ cond x (cond w (valid W c) 0) (mask (words_of W c) (λ j. g (word_of s (64 * c + j))))
      by true true = mask_all (words_of W c)
      by true false = mask_none (words_of W c)
      by false w = refl

  any_block_lem : (c : ℕ) → c < blocks W → any_block W s' c ≡ cond (bit m c) v (any_block W s c)
  unfolding nonzero_mask
  any_block_lem c l = ap (λ (x : ℕ). not (eqb x 0)) (mask_block (λ x. not (eqb x 0)) refl refl c) ∙ by (bit m c) v
    where
      by : (x w : Bool) → not (eqb (cond x (cond w (valid W c) 0) (mask (words_of W c) (λ j. not (eqb (word_of s (64 * c + j)) 0)))) 0)
          ≡ cond x w (not (eqb (mask (words_of W c) (λ j. not (eqb (word_of s (64 * c + j)) 0))) 0))
      by true true = let k = words_some W c l in ap not (ne_eqb (valid W c) 0 (λ e. omega arith))
      by true false = refl
      by false w = refl

  all_block_lem : (c : ℕ) → c < blocks W → all_block W s' c ≡ cond (bit m c) v (all_block W s c)
  unfolding full_mask
  all_block_lem c l = ap (λ (x : ℕ). eqb x (valid W c)) (mask_block (λ x. eqb x ALL) refl refl c) ∙ by (bit m c) v
    where
      by : (x w : Bool) → eqb (cond x (cond w (valid W c) 0) (mask (words_of W c) (λ j. eqb (word_of s (64 * c + j)) ALL))) (valid W c)
          ≡ cond x w (eqb (mask (words_of W c) (λ j. eqb (word_of s (64 * c + j)) ALL)) (valid W c))
      by true true = eq-eqb (valid W c) (valid W c) refl
      by true false = let k = words_some W c l in ne_eqb 0 (valid W c) (λ e. omega arith)
      by false w = refl

  -- a block that is mixed afterwards was not put
  unput : (c : ℕ) → c < blocks W → masked W s' closed c ≡ true → (bit m c ≡ false) × (masked W s closed c ≡ true)
  unput c l e = by (bit m c) refl v (ap₂ (λ (x y : Bool). x && not y) (sym (any_block_lem c l)) (sym (all_block_lem c l)) ∙ e)
    where
      by : (x : Bool) → bit m c ≡ x → (w : Bool) → (cond x w (any_block W s c) && not (cond x w (all_block W s c))) ≡ true
          → (bit m c ≡ false) × (masked W s closed c ≡ true)
      by true p true q = absurd (false≢true q)
      by true p false q = absurd (false≢true q)
      by false p w q = (p, q)

  few : blocks W ≤ 64
  few = let k = room.most in omega arith

  blocks_hold : Stored W st s → Stored W (stores W st (write_masks W st top_nonzero top_full m v)) s'
  unfolding nonzero_mask full_mask block_count
  blocks_hold r =
      record {
        top_nonzero_is =
            now top_nonzero (omega arith) ∙ ap (λ (x : ℕ). put 64 x m v) r.top_nonzero_is ∙ put_mask 64 (blocks W) _ m v few fit
            ∙ mask_ext (blocks W) _ _ (λ c l. sym (any_block_lem c l));
        top_full_is =
            now top_full (omega arith) ∙ ap (λ (x : ℕ). put 64 x m v) r.top_full_is ∙ put_mask 64 (blocks W) _ m v few fit
            ∙ mask_ext (blocks W) _ _ (λ c l. sym (all_block_lem c l));
        nonzeros = λ c l e.
            let q = unput c l e in
            now (nonzero c) l ∙ r.nonzeros c l q.1 ∙ sym (mask_block (λ x. not (eqb x 0)) refl refl c ∙ miss c q.0 _ _);
        fulls = λ c l e.
            let q = unput c l e in
            now (full c) l ∙ r.fulls c l q.1 ∙ sym (mask_block (λ x. eqb x ALL) refl refl c ∙ miss c q.0 _ _);
        counts = λ c l e.
            let q = unput c l e in
            now (population c) l ∙ r.counts c l q.1
            ∙ sym (count_same s' s (4096 * c) (4096 * c + 64 * words_of W c) (λ i p k. apart_of c q.0 i (omega arith)));
        stored = λ k p e x f.
            let q = unput (k / 64) (omega arith) e in
            let w = word_block k ∙ miss (k / 64) q.0 _ _ in
            now (word k) p ∙ r.stored k p q.1 (ap (λ (x : ℕ). not (eqb x 0)) (sym w) ∙ x) (ap (λ (x : ℕ). eqb x ALL) (sym w) ∙ f) ∙ sym w;
      }
    where
      now : (t : Slot) → In W t → at W (stores W st (write_masks W st top_nonzero top_full m v)) t ≡ find (write_masks W st top_nonzero top_full m v) t (at W st t)
      now t i = stores_at W st room.long (write_masks W st top_nonzero top_full m v) (omega arith) t i

      miss : (c : ℕ) → bit m c ≡ false → (x y : ℕ) → cond (bit m c) x y ≡ y
      miss c p x y = ap (λ (t : Bool). cond t x y) p

      -- a position of a block that is not put
      apart_of : (c : ℕ) → bit m c ≡ false → (i : ℕ) → i / 4096 ≡ c → s' i ≡ s i
      apart_of c p i d = go (place (4096 * a) (4096 * b) i)
        where
          go : Place (4096 * a) (4096 * b) i → s' i ≡ s i
          go (inside x y w) =
              absurd (true≢false (sym (within_in a b c (omega arith) (omega arith)) ∙ sym (sp c) ∙ p))
          go (before x w) = assigned_before s (4096 * a) (4096 * b) v i x
          go (behind x w) = assigned_behind s (4096 * a) (4096 * b) v i x

-- the contract of `assign_blocks`, from those of the functions that it calls
pub blocks_assigned : (W m a b : ℕ) (v : Bool) → m < 2 ^ blocks W → Spans m a b → a ≤ b → 64 * b ≤ W → (st st₂ : List ℕ) → Room W st → (old new n : ℕ)
    → ((s : Positions) → Stored W st s → old ≡ count s (4096 * a) (4096 * b)) → new ≡ cond v (ones m * 4096) 0
    → st₂ ≡ stores W st (write_masks W st top_nonzero top_full m v) → n ≡ abs_diff old new
    → Assigns W (4096 * a) (4096 * b) v st st₂ n
blocks_assigned W m a b v fit sp h u st st₂ room old new n eo en e ed =
    record {
      storage_kept = leaves_kept W st room.long (write_masks W st top_nonzero top_full m v) (omega arith) e;
      holds = λ s r. subst (λ (x : List ℕ). Stored W x (assigned s (4096 * a) (4096 * b) v)) (sym e) (blocks_hold W m a b v fit sp h u st room s r);
      changed = λ s r.
          ed ∙ ap₂ abs_diff (eo s r) (fresh s) ∙ changed_apart s (4096 * a) (4096 * b) v (4096 * a) (4096 * b) (omega arith) (omega arith);
    }
  where
    fresh : (s : Positions) → new ≡ count (assigned s (4096 * a) (4096 * b) v) (4096 * a) (4096 * b)
    fresh s =
        let k = room.most in
        en ∙ value_count m a b 4096 v (lt_of_lt_of_le fit (pow_mono {j = 64} (omega arith))) sp h (omega arith) s (4096 * a) (4096 * b) (omega arith)
