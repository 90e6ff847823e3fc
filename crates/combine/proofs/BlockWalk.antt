-- The walk over the blocks that are to be looked into: what the third storage holds up to a block, and at the end. Assumes nothing.
use Rattle.combine.proofs.Kit.{◌≡◌, refl, ap, ap₂, sym, ◌∙◌, ◌≢◌, Bool, true, false, not, ◌&&◌, ◌||◌, cond, true≢false, false≢true, eq-eqb, subst, List, [], ◌∷◌, ℕ, suc, zero-le, ◌+◌, ◌*◌, ◌-◌, ◌/◌, ◌%◌, ◌^◌, ◌<◌, ◌≤◌, arith, eqb, eqb-true, eqb-false, ne_eqb, ltb, le-leb, bit_and, bit_or, and_le_l, ones, ones-le, count_trailing_zeros, length, length-set, ones_lt}
use Rattle.positions.specs.Positions.{Positions, sum_over, count}
use Rattle.positions.proofs.Bools.{and_left}
use Rattle.bits.specs.Bit.{bit, mask}
use Rattle.bits.proofs.Bits.{bit_zero, bit_ones, bit_below, bits_fit}
use Rattle.bits.proofs.Ones.{tz_set}
use Rattle.bits.proofs.Walks.{taken, walk_none, ones_step}
use Rattle.bits.proofs.Words.{mask_ext}
use Rattle.range_bitset.specs.Layout.{blocks, words_of, needed, SamePast, Slot, word, nonzero, full, population, top_nonzero, top_full, at}
use Rattle.range_bitset.specs.Read.{ALL}
use Rattle.range_bitset.specs.Represents.{word_of, any_word, all_word, valid, nonzero_mask, full_mask, block_count, any_block, all_block, closed, masked}
use Rattle.range_bitset.specs.Inner.{In, Store, ◌≔◌, stores, find, AllIn, block_start}
use Rattle.range_bitset.proofs.SetWords.{in_block}
use Rattle.range_bitset.proofs.Slots.{leaves_at, leaves_kept}
use Rattle.range_bitset.proofs.RewrittenBlock.{touches}
use Rattle.range_bitset.proofs.Populations.{masked_rows}
use Rattle.combine.specs.Rules.{Rule, combined}
use Rattle.combine.specs.Inner.{unsettled_at, full_at, masks_of, stored_of, Splits, MakesBlock, Tells, MakesBlocks}
use Rattle.combine.specs.declared.rule.Split.{Split}
use Rattle.combine.specs.declared.block.Made.{Made}
use Rattle.combine.specs.declared.source.Source.{Source}
use Rattle.combine.proofs.WordKinds.{made_settled}
use Rattle.combine.proofs.Gathered.{past_more, left_bit, still_left, gathered_first, gathered_next, unsettled_in, unsettled_here, split_sum}
use Rattle.combine.proofs.Sides.{size, sizes_most}
use Rattle.combine.proofs.SettledParts.{block_settled}
use Rattle.combine.proofs.TellingSides.{top_full_at, top_unsettled, block_word_is, made_nonzero, made_full, made_count}

-- the numbers of block b are those of the set
pub record BlockHolds (W : ℕ) (st : List ℕ) (u : Positions) (b : ℕ) : Type 0 where
  pub nonzero_at : at W st (nonzero b) ≡ nonzero_mask W u b
  pub full_at : at W st (full b) ≡ full_mask W u b
  pub population_at : at W st (population b) ≡ block_count W u b
  pub stored : (j : ℕ) → j < words_of W b → any_word u (64 * b + j) ≡ true → all_word u (64 * b + j) ≡ false
      → at W st (word (64 * b + j)) ≡ word_of u (64 * b + j)

-- two storages that agree on block b
pub holds_again : (W : ℕ) (st st' : List ℕ) (u : Positions) (b c : ℕ) → c < blocks W → (c ≡ b → ⊥)
    → ((t : Slot) → In W t → touches b t ≡ false → at W st' t ≡ at W st t) → BlockHolds W st u c → BlockHolds W st' u c
unfolding touches
holds_again W st st' u b c l n same h =
    record {
      nonzero_at = same (nonzero c) l (ne_eqb c b n) ∙ h.nonzero_at;
      full_at = same (full c) l (ne_eqb c b n) ∙ h.full_at;
      population_at = same (population c) l (ne_eqb c b n) ∙ h.population_at;
      stored = λ j k p q. same (word (64 * c + j)) (omega arith) (ne_eqb ((64 * c + j) / 64) b (λ e. n (omega (arith, e)))) ∙ h.stored j k p q;
    }

module _ (f : Rule) (x y : Source) (st : List ℕ) where
  abbrev W : ℕ
  W = x.at.words

  -- for two sets that the sides hold
  pub record SetWalk (s t : Positions) (st' : List ℕ) (left any all n : ℕ) : Type 0 where
    pub any_is : any ≡ mask (blocks W) (λ b. not (bit left b) && any_block W (combined f s t) b)
    pub all_is : all ≡ mask (blocks W) (λ b. not (bit left b) && all_block W (combined f s t) b)
    pub counted : n + sum_over (bit left) (block_count W (combined f s t)) 0 64 ≡ count (combined f s t) 0 (64 * W)
    pub done : (b : ℕ) → b < blocks W → unsettled_at f x.tops y.tops b ≡ true → bit left b ≡ false → BlockHolds W st' (combined f s t) b

  -- `left` are the blocks yet to come, `any` and `all` the top masks gathered, n the population so far
  pub record Walk (st' : List ℕ) (left any all n : ℕ) : Type 0 where
    pub same_length : length st' ≡ length st
    pub storage_kept : SamePast W st st'
    pub fits : left < 2 ^ 64
    pub part : (b : ℕ) → bit left b ≡ true → (b < blocks W) × (unsettled_at f x.tops y.tops b ≡ true)
    pub most : n + 4096 * ones left ≤ 524288
    pub sets : (s t : Positions) → Tells x s → Tells y t → SetWalk s t st' left any all n

  module _ (same : y.at ≡ x.at) where
    module _ (s t : Positions) (hs : Tells x s) (ht : Tells y t) where
      -- a settled block of the combination
      settled : (b : ℕ) → b < blocks W → unsettled_at f x.tops y.tops b ≡ false
          → (any_block W (combined f s t) b ≡ full_at f x.tops y.tops b) × (all_block W (combined f s t) b ≡ full_at f x.tops y.tops b)
          × (block_count W (combined f s t) b ≡ cond (full_at f x.tops y.tops b) (size W b) 0)
      settled b l z =
          let p = block_settled W f s t b l (sym (top_unsettled f x y same s t hs ht b l) ∙ z) in
          let g = sym (top_full_at f x y same s t hs ht b l) in
          (p.0 ∙ g, p.1 ∙ g, p.2 ∙ ap (λ (c : Bool). cond c (size W b) 0) g)

      -- and so a mixed one is not settled
      mixed_unsettled : (b : ℕ) → b < blocks W → masked W (combined f s t) closed b ≡ true → unsettled_at f x.tops y.tops b ≡ true
      mixed_unsettled b l e = by (unsettled_at f x.tops y.tops b) refl
        where
          never : (g : Bool) → (g && not g) ≡ true → ⊥
          never true z = false≢true z
          never false z = false≢true z

          by : (c : Bool) → unsettled_at f x.tops y.tops b ≡ c → c ≡ true
          by true z = refl
          by false z =
              let p = settled b l z in
              absurd (never (full_at f x.tops y.tops b) (sym (ap₂ (λ (c d : Bool). c && not d) p.0 p.1) ∙ e))

      -- a stored word is not settled
      stored_unsettled : (b j : ℕ) → b < blocks W → j < words_of W b → any_word (combined f s t) (64 * b + j) ≡ true → all_word (combined f s t) (64 * b + j) ≡ false
          → unsettled_at f (masks_of x b) (masks_of y b) j ≡ true
      stored_unsettled b j l h p q = by (unsettled_at f (masks_of x b) (masks_of y b) j) refl
        where
          never : (g : Bool) → word_of (combined f s t) (64 * b + j) ≡ cond g ALL 0 → ⊥
          never true z = true≢false (sym (eq-eqb _ _ z) ∙ q)
          never false z = true≢false (sym p ∙ ap not (eq-eqb _ _ z))

          by : (c : Bool) → unsettled_at f (masks_of x b) (masks_of y b) j ≡ c → c ≡ true
          by true z = refl
          by false z =
              absurd
              (never (full_at f (masks_of x b) (masks_of y b) j)
              (sym (block_word_is f x y same s t hs ht b l j h) ∙ made_settled f (masks_of x b) (stored_of x b) (masks_of y b) (stored_of y b) j z))

    module _ (r : Split) (k : Splits f x.tops y.tops (2 ^ blocks W - 1) r) where
      pub full_fits : r.full < 2 ^ 64 → r.full < 2 ^ blocks W
      full_fits h =
          bits_fit 64 (blocks W) r.full h
          (λ b e. bit_below (blocks W) _ b (ones_lt (blocks W)) (and_left _ _ (and_left _ _ (sym (k.full_is b) ∙ e))))

      -- the blocks of a set, side by side
      whole : (u : Positions) → blocks W ≤ 64 → sum_over (bit (2 ^ blocks W - 1)) (block_count W u) 0 64 ≡ count u 0 (64 * W)
      unfolding block_count
      whole u few =
          let from : block_start W 0 ≡ 0 = omega arith in
          let to : block_start W (blocks W) ≡ 64 * W = omega arith in
          masked_rows u (block_start W) (λ b. omega arith) (2 ^ blocks W - 1) 0 (blocks W) (block_count W u)
          (λ i. bit_ones (blocks W) i ∙ ap (λ (z : Bool). z && ltb i (blocks W)) (sym (le-leb 0 i zero-le))) zero-le few
          (λ b p q.
          let low : 4096 * b ≡ block_start W b = omega arith in
          let high : 4096 * b + 64 * words_of W b ≡ block_start W (suc b) = omega arith in
          ap₂ (count u) low high)
          ∙ ap₂ (count u) from to

      module _ (few : blocks W ≤ 64) (h : r.unsettled < 2 ^ 64) (e : r.full < 2 ^ 64) where
        sets_first : (s t : Positions) → Tells x s → Tells y t → SetWalk s t st r.unsettled r.full r.full (sum_over (bit r.full) (size W) 0 64)
        sets_first s t hs ht =
            record {
              any_is = gathered_first f x.tops y.tops (blocks W) r k _ (full_fits e) (λ b l z. (settled s t hs ht b l z).0);
              all_is = gathered_first f x.tops y.tops (blocks W) r k _ (full_fits e) (λ b l z. (settled s t hs ht b l z).1);
              counted =
                  sym (split_sum f x.tops y.tops (blocks W) r k (block_count W (combined f s t)) (size W) (λ b l z. (settled s t hs ht b l z).2))
                  ∙ whole (combined f s t) few;
              done = λ b l p q. absurd (true≢false (sym (unsettled_here f x.tops y.tops (blocks W) r k b l ∙ p) ∙ q));
            }

        pub walk_first : Walk st r.unsettled r.full r.full (sum_over (bit r.full) (size W) 0 64)
        walk_first =
            record {
              same_length = refl;
              storage_kept = refl;
              fits = h;
              part = unsettled_in f x.tops y.tops (blocks W) r k;
              most = omega (arith, sizes_most W r.full, ones-le 64 r.unsettled h);
              sets = sets_first;
            }

    module _ {st' : List ℕ} {left any all n b left' : ℕ} (v : Walk st' left any all n)
        (q : (left ≢ 0) × (b ≡ count_trailing_zeros 64 left) × (left' ≡ bit_and left (left - 1))) where
      -- the next block
      pub next_in : (b < blocks W) × (unsettled_at f x.tops y.tops b ≡ true)
      next_in = v.part b (ap (bit left) q.1 ∙ tz_set 64 left q.0 v.fits)

      module _ {st'' : List ℕ} {r : Made} (m : MakesBlock f x y b st' st'' r) where
        pub next_most : n + r.population + 4096 * ones left' ≤ 524288
        next_most = omega (arith, v.most, m.summed.few, ones_step 64 left q.0 v.fits, ap ones q.2)

        module _ (s t : Positions) (hs : Tells x s) (ht : Tells y t) where
          abbrev u : Positions
          u = combined f s t

          this : BlockHolds W st'' u b
          this =
              record {
                nonzero_at = m.nonzero_put ∙ made_nonzero f x y same s t hs ht b next_in.0 r m.summed;
                full_at = m.full_put ∙ made_full f x y same s t hs ht b next_in.0 r m.summed;
                population_at = m.population_put ∙ made_count f x y same s t hs ht b next_in.0 r m.summed;
                stored = λ j h d e.
                    m.stored j h (stored_unsettled s t hs ht b j next_in.0 h d e) ∙ block_word_is f x y same s t hs ht b next_in.0 j h;
              }

          sets_next : {any' all' : ℕ} → any' ≡ cond (not (eqb r.masks.nonzero 0)) (bit_or any (2 ^ b)) any
              → all' ≡ cond (eqb r.masks.full (valid W b)) (bit_or all (2 ^ b)) all → SetWalk s t st'' left' any' all' (n + r.population)
          sets_next d e =
              record {
                any_is = gathered_next (blocks W) (any_block W u) _ _ b past _ _ next_in.0 w.any_is
                    (d ∙ ap (λ (z : ℕ). cond (not (eqb z 0)) (bit_or any (2 ^ b)) any) (made_nonzero f x y same s t hs ht b next_in.0 r m.summed));
                all_is = gathered_next (blocks W) (all_block W u) _ _ b past _ _ next_in.0 w.all_is
                    (e ∙ ap (λ (z : ℕ). cond (eqb z (valid W b)) (bit_or all (2 ^ b)) all) (made_full f x y same s t hs ht b next_in.0 r m.summed));
                counted = omega (arith, w.counted, taken q (block_count W u) v.fits, made_count f x y same s t hs ht b next_in.0 r m.summed);
                done = λ c l g z. by c l g (sym (left_bit q v.fits c) ∙ z) (eqb c b) refl;
              }
            where
              w : SetWalk s t st' left any all n
              w = v.sets s t hs ht

              past : (c : ℕ) → not (bit left' c) ≡ (not (bit left c) || eqb c b)
              past = past_more q v.fits (λ c. true) refl

              apart : (c : Bool) → (c && not false) ≡ false → c ≡ false
              apart true z = z
              apart false z = refl

              by : (c : ℕ) → c < blocks W → unsettled_at f x.tops y.tops c ≡ true → (bit left c && not (eqb c b)) ≡ false → (a : Bool) → eqb c b ≡ a
                  → BlockHolds W st'' u c
              by c l g z true a = subst (BlockHolds W st'' u) (sym (eqb-true c b a)) this
              by c l g z false a =
                  holds_again W st' st'' u b c l (eqb-false c b a) m.others
                  (w.done c l g (apart (bit left c) (ap (λ (o : Bool). bit left c && not o) (sym a) ∙ z)))

        pub walk_next : {any' all' : ℕ} → any' ≡ cond (not (eqb r.masks.nonzero 0)) (bit_or any (2 ^ b)) any
            → all' ≡ cond (eqb r.masks.full (valid W b)) (bit_or all (2 ^ b)) all → Walk st'' left' any' all' (n + r.population)
        walk_next d e =
            record {
              same_length = m.same_length ∙ v.same_length;
              storage_kept = m.storage_kept ∙ v.storage_kept;
              fits = omega (arith, q.2, and_le_l left (left - 1), v.fits);
              part = λ c z. v.part c (still_left q v.fits c z);
              most = next_most;
              sets = λ s t hs ht. sets_next s t hs ht d e;
            }

    abbrev pub top_stores : ℕ → ℕ → List Store
    top_stores any all = top_full ≔ all ∷ top_nonzero ≔ any ∷ []

    pub walk_last : {st' st'' : List ℕ} {left any all n : ℕ} → needed W ≤ length st → Walk st' left any all n → left ≡ 0 → st'' ≡ stores W st' (top_stores any all)
        → MakesBlocks f x y st st'' n
    walk_last {st'} {st''} {left} {any} {all} {n} long v z e =
        record {
          same_length = ap length e ∙ length-set _ _ _ ∙ length-set _ _ _ ∙ v.same_length;
          storage_kept = leaves_kept W st' long' us within e ∙ v.storage_kept;
          holds = λ s t hs ht.
              let w = v.sets s t hs ht in
              let none : (b : ℕ) → bit left b ≡ false = λ b. ap (λ (c : ℕ). bit c b) z ∙ bit_zero b in
              let done : (b : ℕ) → b < blocks W → masked W (combined f s t) closed b ≡ true → BlockHolds W st' (combined f s t) b = λ b l g.
              w.done b l (mixed_unsettled s t hs ht b l g) (none b)
              in
              record {
                top_nonzero_is = now top_nonzero (omega arith) ∙ w.any_is ∙ mask_ext (blocks W) _ _ (λ b l. ap (λ (c : Bool). not c && any_block W (combined f s t) b) (none b));
                top_full_is = now top_full (omega arith) ∙ w.all_is ∙ mask_ext (blocks W) _ _ (λ b l. ap (λ (c : Bool). not c && all_block W (combined f s t) b) (none b));
                nonzeros = λ b l g. now (nonzero b) l ∙ (done b l g).nonzero_at;
                fulls = λ b l g. now (full b) l ∙ (done b l g).full_at;
                counts = λ b l g. now (population b) l ∙ (done b l g).population_at;
                stored = λ j h g p o.
                    let i = in_block W j h in
                    now (word j) h ∙ ap (λ (c : ℕ). at W st' (word c)) (sym i.2)
                    ∙ (done (j / 64) i.0 g).stored (j % 64) i.1 (ap (any_word (combined f s t)) i.2 ∙ p) (ap (all_word (combined f s t)) i.2 ∙ o)
                    ∙ ap (word_of (combined f s t)) i.2;
              };
          counted = λ s t hs ht.
              let w = v.sets s t hs ht in
              omega (arith, w.counted, ap (λ (c : ℕ). sum_over (bit c) (block_count W (combined f s t)) 0 64) z, walk_none 64 (block_count W (combined f s t)));
        }
      where
        long' : needed W ≤ length st'
        long' = omega (arith, v.same_length)

        us : List Store
        us = top_stores any all

        within : AllIn W us
        within = (omega arith, (omega arith, omega arith))

        now : (t : Slot) → In W t → at W st'' t ≡ find us t (at W st' t)
        now t i = leaves_at W st' long' us within e t i
