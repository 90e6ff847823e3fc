-- What opening and closing a block does: between `Stored` and `StoredOpen` with that block open. Assumes nothing.
use Rattle.range_bitset.proofs.Kit.{◌≡◌, refl, ap, sym, ◌∙◌, subst, Bool, true, false, not, ◌&&◌, ◌||◌, cond, true≢false, or-true, List, [], ◌∷◌, ℕ, ◌+◌, ◌*◌, ◌/◌, ◌%◌, ◌^◌, ◌≤◌, ◌<◌, arith, eqb, drop, eq-eqb, ne_eqb, eqb-true}
use Rattle.positions.specs.Positions.{Positions}
use Rattle.bits.specs.Bit.{mask, put}
use Rattle.bits.proofs.Words.{mask_ext, put_one}
use Rattle.range_bitset.specs.Layout.{blocks, needed, words_of, at, word, nonzero, full, population, top_nonzero, top_full, Slot, SamePast}
use Rattle.range_bitset.specs.Read.{state_of}
use Rattle.range_bitset.specs.Represents.{word_of, any_word, all_word, valid, nonzero_mask, full_mask, block_count, any_block, all_block, closed, only, masked, StoredOpen, Stored}
use Rattle.range_bitset.specs.Inner.{Room, In, kind, index, Store, ◌≔◌, stores, find, AllIn, open_with, close_clear, close_full, Opens, Closes}
use Rattle.range_bitset.specs.declared.State.TheVariants.{Empty, Mixed, Full}
use Rattle.range_bitset.proofs.Slots.{stores_at, leaves_kept}
use Rattle.range_bitset.proofs.SetWords.{state_full, state_empty, state_mixed, full_words, full_nonzero, full_full, full_count, clear_words, clear_nonzero, clear_full, clear_count, none_all_block}

-- what changes a truth at b alone, and there to what it is, changes nothing
same_by : (F : Bool → Bool → Bool) (f : ℕ → Bool) (b c : ℕ) → F true (f b) ≡ f b → ((x : Bool) → F false x ≡ x) → F (eqb c b) (f c) ≡ f c
same_by F f b c t e = by (eqb c b) refl
  where
    by : (x : Bool) → eqb c b ≡ x → F x (f c) ≡ f c
    by true p = subst (λ (y : ℕ). F true (f y) ≡ f y) (sym (eqb-true c b p)) t
    by false p = e (f c)

-- a number that a store may have changed, at b
at_one : (b c x y : ℕ) (g : ℕ → ℕ) → x ≡ g b → (eqb c b ≡ false → y ≡ g c) → cond (eqb c b) x y ≡ g c
at_one b c x y g t e = by (eqb c b) refl
  where
    by : (z : Bool) → eqb c b ≡ z → cond z x y ≡ g c
    by true p = t ∙ ap g (sym (eqb-true c b p))
    by false p = e p

-- a top mask with the bit of block b given a value
or_put : (x y : Bool) → cond x true y ≡ (x || y)
or_put true y = refl
or_put false y = refl

and_put : (x y : Bool) → cond x false y ≡ (not x && y)
and_put true y = refl
and_put false y = refl

-- the masks of an open block are read
pub open_here : (W : ℕ) (s : Positions) (b : ℕ) → masked W s (only b) b ≡ true
open_here W s b = ap (λ (z : Bool). z || (any_block W s b && not (all_block W s b))) (eq-eqb b b refl)

module _ (W : ℕ) (st : List ℕ) (s : Positions) (b : ℕ) (room : Room W st) (l : b < blocks W) where
  few : blocks W ≤ 64
  few = let h = room.most in omega arith

  -- ---- opening
  module _ (r : Stored W st s) where
    -- a mixed block needs nothing
    open_mixed : any_block W s b ≡ true → all_block W s b ≡ false → StoredOpen W st s (only b)
    open_mixed a f =
        record {
          top_nonzero_is = r.top_nonzero_is ∙ mask_ext (blocks W) _ _ (λ c k. sym (same_by ◌||◌ (any_block W s) b c (sym a) (λ x. refl)));
          top_full_is = r.top_full_is ∙ mask_ext (blocks W) _ _ (λ c k. sym (same_by (λ e x. not e && x) (all_block W s) b c (sym f) (λ x. refl)));
          nonzeros = λ c k m. r.nonzeros c k (back c m);
          fulls = λ c k m. r.fulls c k (back c m);
          counts = λ c k m. r.counts c k (back c m);
          stored = λ k h m. r.stored k h (back (k / 64) m);
        }
      where
        here : (any_block W s b && not (all_block W s b)) ≡ true
        here = ap (λ (x : Bool). x && not (all_block W s b)) a ∙ ap not f

        back : (c : ℕ) → masked W s (only b) c ≡ true → masked W s closed c ≡ true
        back c m = sym (same_by ◌||◌ (λ d. any_block W s d && not (all_block W s d)) b c (sym here) (λ x. refl)) ∙ m

    -- any other block is given the masks and the population that it reads as
    open_other : (m p : ℕ) → m ≡ nonzero_mask W s b → m ≡ full_mask W s b → p ≡ block_count W s b
        → ((k : ℕ) → k < W → k / 64 ≡ b → any_word s k ≡ true → all_word s k ≡ false → ⊥)
        → StoredOpen W (stores W st (open_with W st b m p)) s (only b)
    open_other m p hn hf hp hw =
        record {
          top_nonzero_is =
              now top_nonzero (omega arith) ∙ ap (λ (x : ℕ). put 64 x (2 ^ b) true) r.top_nonzero_is
              ∙ put_one 64 (blocks W) (any_block W s) b true few l ∙ mask_ext (blocks W) _ _ (λ c k. or_put (eqb c b) (any_block W s c));
          top_full_is =
              now top_full (omega arith) ∙ ap (λ (x : ℕ). put 64 x (2 ^ b) false) r.top_full_is
              ∙ put_one 64 (blocks W) (all_block W s) b false few l ∙ mask_ext (blocks W) _ _ (λ c k. and_put (eqb c b) (all_block W s c));
          nonzeros = λ c k x. now (nonzero c) k ∙ at_one b c m _ (nonzero_mask W s) hn (λ e. r.nonzeros c k (other c e x));
          fulls = λ c k x. now (full c) k ∙ at_one b c m _ (full_mask W s) hf (λ e. r.fulls c k (other c e x));
          counts = λ c k x. now (population c) k ∙ at_one b c p _ (block_count W s) hp (λ e. r.counts c k (other c e x));
          stored = λ k h x a f. now (word k) h ∙ by k h x a f (eqb (k / 64) b) refl;
        }
      where
        us : List Store
        us = open_with W st b m p

        now : (t : Slot) → In W t → at W (stores W st us) t ≡ find us t (at W st t)
        now t i = stores_at W st room.long us (omega arith) t i

        other : (c : ℕ) → eqb c b ≡ false → masked W s (only b) c ≡ true → masked W s closed c ≡ true
        other c e x = ap (λ (z : Bool). z || (any_block W s c && not (all_block W s c))) (sym e) ∙ x

        by : (k : ℕ) → k < W → masked W s (only b) (k / 64) ≡ true → any_word s k ≡ true → all_word s k ≡ false
            → (z : Bool) → eqb (k / 64) b ≡ z → at W st (word k) ≡ word_of s k
        by k h x a f true e = absurd (hw k h (eqb-true _ _ e) a f)
        by k h x a f false e = r.stored k h (other (k / 64) e x) a f

  -- ---- closing
  module _ (r : StoredOpen W st s (only b)) where
    -- the masks that the code tests are the set's
    close_nonzero : at W st (nonzero b) ≡ nonzero_mask W s b
    close_nonzero = r.nonzeros b l (open_here W s b)

    close_full_lem : at W st (full b) ≡ full_mask W s b
    close_full_lem = r.fulls b l (open_here W s b)

    up : (c : ℕ) → masked W s closed c ≡ true → masked W s (only b) c ≡ true
    up c e = ap (λ (z : Bool). eqb c b || z) e ∙ or-true (eqb c b)

    -- the top masks after closing, and all else as it was
    finish : (st' : List ℕ) → ((t : Slot) → In W t → kind t < 4 → at W st' t ≡ at W st t)
        → at W st' top_nonzero ≡ mask (blocks W) (any_block W s) → at W st' top_full ≡ mask (blocks W) (all_block W s) → Stored W st' s
    finish st' e n f =
        record {
          top_nonzero_is = n;
          top_full_is = f;
          nonzeros = λ c k x. e (nonzero c) k (omega arith) ∙ r.nonzeros c k (up c x);
          fulls = λ c k x. e (full c) k (omega arith) ∙ r.fulls c k (up c x);
          counts = λ c k x. e (population c) k (omega arith) ∙ r.counts c k (up c x);
          stored = λ k h x a g. e (word k) h (omega arith) ∙ r.stored k h (up (k / 64) x) a g;
        }

    top_only : (u : Store) → In W u.slot → 4 ≤ kind u.slot → (t : Slot) → In W t → kind t < 4
        → at W (stores W st (u ∷ [])) t ≡ at W st t
    top_only u i h t j k =
        stores_at W st room.long (u ∷ []) (i, omega arith) t j
        ∙ ap (λ (z : Bool). cond (z && eqb (index t) (index u.slot)) u.value (at W st t)) (ne_eqb (kind t) (kind u.slot) (λ e. omega arith))

    any_of : (nonzero_mask W s b ≡ 0 → ⊥) → any_block W s b ≡ true
    any_of h = ap not (ne_eqb _ _ h)

    close_clear_lem : at W st (nonzero b) ≡ 0 → Stored W (stores W st (close_clear W st b)) s
    close_clear_lem z =
        finish (stores W st us) (top_only (top_nonzero ≔ _) (omega arith) (omega arith))
        (stores_at W st room.long us (omega arith) top_nonzero (omega arith)
        ∙ ap (λ (x : ℕ). put 64 x (2 ^ b) false) r.top_nonzero_is
        ∙ put_one 64 (blocks W) _ b false few l
        ∙ mask_ext (blocks W) _ _ (λ c k. same_by (λ e x. cond e false (e || x)) (any_block W s) b c (sym a) (λ x. refl)))
        (stores_at W st room.long us (omega arith) top_full (omega arith)
        ∙ r.top_full_is
        ∙ mask_ext (blocks W) _ _ (λ c k. same_by (λ e x. not e && x) (all_block W s) b c (sym (none_all_block W s b l a)) (λ x. refl)))
      where
        us : List Store
        us = close_clear W st b

        a : any_block W s b ≡ false
        a = ap not (eq-eqb _ _ (sym close_nonzero ∙ z))

    close_all : (at W st (nonzero b) ≡ 0 → ⊥) → at W st (full b) ≡ valid W b → Stored W (stores W st (close_full W st b)) s
    close_all n z =
        finish (stores W st us) (top_only (top_full ≔ _) (omega arith) (omega arith))
        (stores_at W st room.long us (omega arith) top_nonzero (omega arith)
        ∙ r.top_nonzero_is
        ∙ mask_ext (blocks W) _ _ (λ c k. same_by ◌||◌ (any_block W s) b c (sym a) (λ x. refl)))
        (stores_at W st room.long us (omega arith) top_full (omega arith)
        ∙ ap (λ (x : ℕ). put 64 x (2 ^ b) true) r.top_full_is
        ∙ put_one 64 (blocks W) _ b true few l
        ∙ mask_ext (blocks W) _ _ (λ c k. same_by (λ e x. cond e true (not e && x)) (all_block W s) b c (sym f) (λ x. refl)))
      where
        us : List Store
        us = close_full W st b

        a : any_block W s b ≡ true
        a = any_of (λ e. n (close_nonzero ∙ e))

        f : all_block W s b ≡ true
        f = eq-eqb _ _ (sym close_full_lem ∙ z)

    close_mixed : (at W st (nonzero b) ≡ 0 → ⊥) → (at W st (full b) ≡ valid W b → ⊥) → Stored W st s
    close_mixed n z =
        finish st (λ t i k. refl)
        (r.top_nonzero_is ∙ mask_ext (blocks W) _ _ (λ c k. same_by ◌||◌ (any_block W s) b c (sym a) (λ x. refl)))
        (r.top_full_is ∙ mask_ext (blocks W) _ _ (λ c k. same_by (λ e x. not e && x) (all_block W s) b c (sym f) (λ x. refl)))
      where
        a : any_block W s b ≡ true
        a = any_of (λ e. n (close_nonzero ∙ e))

        f : all_block W s b ≡ false
        f = ne_eqb _ _ (λ e. z (close_full_lem ∙ e))

-- ---- the contracts of `open_block` and `close_block`, from what the code has at each return

module _ (W : ℕ) (b : ℕ) (st st' : List ℕ) (room : Room W st) (l : b < blocks W) where
  kept_by : (us : List Store) → st' ≡ stores W st us → AllIn W us → SamePast W st st'
  kept_by us e a = leaves_kept W st room.long us a e

  pub closes_clear : at W st (nonzero b) ≡ 0 → st' ≡ stores W st (close_clear W st b) → Closes W b st st'
  closes_clear z e =
      record {
        storage_kept = kept_by (close_clear W st b) e (omega arith);
        holds = λ s r. subst (λ (x : List ℕ). Stored W x s) (sym e) (close_clear_lem W st s b room l r z);
      }

  pub closes_all : (at W st (nonzero b) ≡ 0 → ⊥) → at W st (full b) ≡ valid W b → st' ≡ stores W st (close_full W st b) → Closes W b st st'
  closes_all n z e =
      record {
        storage_kept = kept_by (close_full W st b) e (omega arith);
        holds = λ s r. subst (λ (x : List ℕ). Stored W x s) (sym e) (close_all W st s b room l r n z);
      }

  pub closes_mixed : (at W st (nonzero b) ≡ 0 → ⊥) → (at W st (full b) ≡ valid W b → ⊥) → st' ≡ st → Closes W b st st'
  closes_mixed n z e =
      record {
        storage_kept = ap (drop (needed W)) e;
        holds = λ s r. subst (λ (x : List ℕ). Stored W x s) (sym e) (close_mixed W st s b room l r n z);
      }

  pub opens_mixed : state_of W st b ≡ Mixed → st' ≡ st → Opens W b st st'
  opens_mixed m e =
      record {
        storage_kept = ap (drop (needed W)) e;
        holds = λ s r.
            let q = state_mixed W st b l s r m in
            subst (λ (x : List ℕ). StoredOpen W x s (only b)) (sym e) (open_mixed W st s b room l r q.0 q.1);
      }

  -- a block that is not mixed, given masks and a population that are right for every set that reads so
  opens_with : (m p : ℕ) → st' ≡ stores W st (open_with W st b m p)
      → ((s : Positions) → Stored W st s → (m ≡ nonzero_mask W s b) × (m ≡ full_mask W s b) × (p ≡ block_count W s b))
      → ((s : Positions) → Stored W st s → (j : ℕ) → j < words_of W b → any_word s (64 * b + j) ≡ true → all_word s (64 * b + j) ≡ false → ⊥)
      → Opens W b st st'
  opens_with m p e right never =
      record {
        storage_kept = kept_by (open_with W st b m p) e (omega arith);
        holds = λ s r.
            let q = right s r in
            subst (λ (x : List ℕ). StoredOpen W x s (only b)) (sym e)
            (open_other W st s b room l r m p q.0 q.1 q.2
            (λ k h d a f.
            let i : 64 * b + k % 64 ≡ k = omega arith in
            never s r (k % 64) (omega arith) (ap (any_word s) i ∙ a) (ap (all_word s) i ∙ f)));
      }

  pub opens_full : state_of W st b ≡ Full → st' ≡ stores W st (open_with W st b (valid W b) (64 * words_of W b)) → Opens W b st st'
  opens_full m e =
      opens_with (valid W b) (64 * words_of W b) e
      (λ s r.
      let q = state_full W st b l s r m in
      (sym (full_nonzero W s b q), sym (full_full W s b q), sym (full_count W s b q)))
      (λ s r j h a f. true≢false (sym (full_words W s b (state_full W st b l s r m) j h) ∙ f))

  pub opens_empty : state_of W st b ≡ Empty → st' ≡ stores W st (open_with W st b 0 0) → Opens W b st st'
  opens_empty m e =
      opens_with 0 0 e
      (λ s r.
      let q = state_empty W st b l s r m in
      (sym (clear_nonzero W s b q), sym (clear_full W s b q), sym (clear_count W s b q)))
      (λ s r j h a f. true≢false (sym a ∙ clear_words W s b (state_empty W st b l s r m) j h))
