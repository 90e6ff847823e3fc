-- A settled part of a combination: it is what the rule makes of the two masks' bits, throughout. Then a word of the combination, and a settled
-- block. Assumes nothing.
use Rattle.combine.proofs.Kit.{◌≡◌, refl, ap, ap₂, sym, ◌∙◌, Bool, true, false, not, ◌&&◌, ◌||◌, cond, true≢false, false≢true, List, ℕ, ◌+◌, ◌*◌, ◌<◌, ◌≤◌, arith, eq-eqb, lt-ltb, not-false, not-true}
use Rattle.positions.specs.Positions.{Positions, differ}
use Rattle.positions.proofs.Bools.{and_left, and_right, same₁}
use Rattle.bits.specs.Bit.{bit, mask}
use Rattle.bits.proofs.Bits.{bit_zero, bit_ones}
use Rattle.bits.proofs.Words.{mask_ext, mask_all, mask_none}
use Rattle.range_bitset.specs.Layout.{blocks, words_of}
use Rattle.range_bitset.specs.Read.{ALL}
use Rattle.range_bitset.specs.Represents.{word_of, any_word, all_word, block_count, any_block, all_block}
use Rattle.range_bitset.proofs.SetWords.{word_bit, word_all, word_none, all_any, block_none, block_all, none_all_block, all_any_block, full_count, clear_count, full_positions, clear_positions}
use Rattle.combine.specs.Rules.{Rule, combined, on_words}
use Rattle.combine.specs.Inner.{first_settles, second_settles, unsettled_by, unsettled_at, read_word, made_word}
use Rattle.combine.specs.declared.rule.Masks.{Masks}
use Rattle.combine.proofs.RuleMasks.{first_even, second_even}
use Rattle.combine.proofs.WordKinds.{made_settled, made_unsettled}
use Rattle.combine.proofs.Sides.{size}

-- ---- one position of a part: v and u are whether the two sets have it

agreed : (p q : Bool) → not (differ p q) ≡ true → p ≡ q
agreed true true e = refl
agreed true false e = absurd (false≢true e)
agreed false true e = absurd (false≢true e)
agreed false false e = refl

first_deaf : (f : Rule) (v u w : Bool) → first_settles f v ≡ true → f v u ≡ f v w
first_deaf f v true true e = refl
first_deaf f v true false e = sym (agreed (f v false) (f v true) e)
first_deaf f v false true e = agreed (f v false) (f v true) e
first_deaf f v false false e = refl

second_deaf : (f : Rule) (u v w : Bool) → second_settles f u ≡ true → f v u ≡ f w u
second_deaf f u true true e = refl
second_deaf f u true false e = sym (agreed (f false u) (f true u) e)
second_deaf f u false true e = agreed (f false u) (f true u) e
second_deaf f u false false e = refl

-- the masks' bits say of a position what they say of its part
pub record Says (n a v : Bool) : Type 0 where
  pub none : n ≡ false → v ≡ false
  pub all : a ≡ true → v ≡ true
  pub both : a ≡ true → n ≡ true

pub settled_position : (f : Rule) (n a v m b u : Bool) → Says n a v → Says m b u → unsettled_by f n a m b ≡ false → f v u ≡ f a b
settled_position f false true v m b u p q e = absurd (false≢true (p.both refl))
settled_position f n a v false true u p q e = absurd (false≢true (q.both refl))
settled_position f false false v false false u p q e = ap₂ f (p.none refl) (q.none refl)
settled_position f false false v true true u p q e = ap₂ f (p.none refl) (q.all refl)
settled_position f true true v false false u p q e = ap₂ f (p.all refl) (q.none refl)
settled_position f true true v true true u p q e = ap₂ f (p.all refl) (q.all refl)
settled_position f false false v true false u p q e =
    ap (λ (x : Bool). f x u) (p.none refl)
    ∙ first_deaf f false u false (not-false _ (sym (same₁ (λ z. not ((z || false) || false)) (λ z. not z) tt (first_settles f false)) ∙ e))
settled_position f true true v true false u p q e =
    ap (λ (x : Bool). f x u) (p.all refl)
    ∙ first_deaf f true u false (not-false _ (sym (same₁ (λ z. not (z || false)) (λ z. not z) tt (first_settles f true)) ∙ e))
settled_position f true false v false false u p q e =
    ap (f v) (q.none refl)
    ∙ second_deaf f false v false (not-false _ (sym (same₁ (λ z. not (z || false)) (λ z. not z) tt (second_settles f false)) ∙ e))
settled_position f true false v true true u p q e = ap (f v) (q.all refl) ∙ second_deaf f true v false (not-false _ e)
settled_position f true false v true false u p q e = absurd (true≢false e)

-- ---- a word

word_says : (s : Positions) (k i : ℕ) → i < 64 → Says (any_word s k) (all_word s k) (s (64 * k + i))
word_says s k i h =
    record {
      none = λ e. sym (word_bit s k i h) ∙ ap (λ (x : ℕ). bit x i) (word_none s k e) ∙ bit_zero i;
      all = λ e. sym (word_bit s k i h) ∙ ap (λ (x : ℕ). bit x i) (word_all s k e) ∙ bit_ones 64 i ∙ lt-ltb i 64 h;
      both = all_any s k;
    }

-- a word whose positions are all g
pub same_word : (u : Positions) (k : ℕ) (g : Bool) → ((i : ℕ) → i < 64 → u (64 * k + i) ≡ g) → word_of u k ≡ cond g ALL 0
unfolding word_of
same_word u k g h = mask_ext 64 _ (λ i. g) h ∙ by g
  where
    by : (g : Bool) → mask 64 (λ i. g) ≡ cond g ALL 0
    by true = mask_all 64
    by false = mask_none 64

module _ (f : Rule) (s t : Positions) where
  pub word_settled : (k : ℕ) → unsettled_by f (any_word s k) (all_word s k) (any_word t k) (all_word t k) ≡ false
      → word_of (combined f s t) k ≡ cond (f (all_word s k) (all_word t k)) ALL 0
  word_settled k e = same_word (combined f s t) k _ (λ i h. settled_position f _ _ _ _ _ _ (word_says s k i h) (word_says t k i h) e)

  -- the rule on two words is that on the sets
  pub word_combined : (k : ℕ) → on_words f (word_of s k) (word_of t k) ≡ word_of (combined f s t) k
  unfolding on_words word_of
  word_combined k = mask_ext 64 _ _ (λ i h. ap₂ f (word_bit s k i h) (word_bit t k i h))

  -- a word that is made is that of the combination, where masks and stored words are those of the two sets
  pub made_is : (x : Masks) (l : List ℕ) (y : Masks) (m : List ℕ) (j k : ℕ) → bit x.nonzero j ≡ any_word s k → bit x.full j ≡ all_word s k
      → bit y.nonzero j ≡ any_word t k → bit y.full j ≡ all_word t k → read_word x l j ≡ word_of s k → read_word y m j ≡ word_of t k
      → made_word f x l y m j ≡ word_of (combined f s t) k
  made_is x l y m j k n a n' a' p q = by (unsettled_at f x y j) refl
    where
      same : unsettled_at f x y j ≡ unsettled_by f (any_word s k) (all_word s k) (any_word t k) (all_word t k)
      same = rw (n, a, n', a') refl

      by : (b : Bool) → unsettled_at f x y j ≡ b → made_word f x l y m j ≡ word_of (combined f s t) k
      by true e = made_unsettled f x l y m j e ∙ ap₂ (on_words f) p q ∙ word_combined k
      by false e = made_settled f x l y m j e ∙ ap₂ (λ (c d : Bool). cond (f c d) ALL 0) a a' ∙ sym (word_settled k (sym same ∙ e))

-- ---- a word stored on one side alone: it has some of its positions and not all, and so has that of the combination

not_same : (x : Bool) → differ x x ≡ false
not_same true = refl
not_same false = refl

-- where h tells the two truths apart, its value tells which it was
undone : (h : Bool → Bool) → differ (h false) (h true) ≡ true → (v g : Bool) → h v ≡ g → v ≡ differ (h false) g
undone h d true g e = sym d ∙ ap (differ (h false)) e
undone h d false g e = sym (not_same (h false)) ∙ ap (differ (h false)) e

-- a word of u that is h of a word of s, position by position
module _ (u s : Positions) (k : ℕ) (h : Bool → Bool) (d : differ (h false) (h true) ≡ true) (is : (i : ℕ) → i < 64 → u (64 * k + i) ≡ h (s (64 * k + i)))
    (p : any_word s k ≡ true) (q : all_word s k ≡ false) where
  never : (g : Bool) → ((i : ℕ) → i < 64 → u (64 * k + i) ≡ g) → ⊥
  never g c = by (differ (h false) g) (same_word s k (differ (h false) g) (λ i l. undone h d (s (64 * k + i)) g (sym (is i l) ∙ c i l)))
    where
      by : (b : Bool) → word_of s k ≡ cond b ALL 0 → ⊥
      by true e = true≢false (sym (eq-eqb _ _ e) ∙ q)
      by false e = true≢false (sym p ∙ ap not (eq-eqb _ _ e))

  kept_some : (any_word u k ≡ true) × (all_word u k ≡ false)
  kept_some = (by (any_word u k) refl, by' (all_word u k) refl)
    where
      by : (b : Bool) → any_word u k ≡ b → b ≡ true
      by true e = refl
      by false e = absurd (never false (λ i l. (word_says u k i l).none e))

      by' : (b : Bool) → all_word u k ≡ b → b ≡ false
      by' true e = absurd (never true (λ i l. (word_says u k i l).all e))
      by' false e = refl

-- a position of a word that is even, by its full bit
even_position : (m b v : Bool) → Says m b v → (m && not b) ≡ false → v ≡ b
even_position m true v p e = p.all refl
even_position true false v p e = absurd (true≢false e)
even_position false false v p e = p.none refl

-- stored on either side alone
pub lone_mixed : (f : Rule) (s t : Positions) (k : ℕ) → unsettled_by f (any_word s k) (all_word s k) (any_word t k) (all_word t k) ≡ true
    → ((any_word s k && not (all_word s k)) && (any_word t k && not (all_word t k))) ≡ false
    → (any_word (combined f s t) k ≡ true) × (all_word (combined f s t) k ≡ false)
lone_mixed f s t k e z = by (any_word s k && not (all_word s k)) refl
  where
    mixed : (n a : Bool) → (n && not a) ≡ true → (n ≡ true) × (a ≡ false)
    mixed n a q = (and_left n (not a) q, not-true a (and_right n (not a) q))

    by : (x : Bool) → (any_word s k && not (all_word s k)) ≡ x → (any_word (combined f s t) k ≡ true) × (all_word (combined f s t) k ≡ false)
    by true x =
        let p = mixed (any_word s k) (all_word s k) x in
        let y : (any_word t k && not (all_word t k)) ≡ false = sym (ap (λ (c : Bool). c && (any_word t k && not (all_word t k))) x) ∙ z in
        kept_some (combined f s t) s k (λ v. f v (all_word t k)) (second_even f _ _ _ _ e y)
        (λ i l. ap (f (s (64 * k + i))) (even_position _ _ _ (word_says t k i l) y)) p.0 p.1
    by false x =
        let y : (any_word t k && not (all_word t k)) ≡ true = sym (ap (λ (c : Bool). c || (any_word t k && not (all_word t k))) x) ∙ and_left _ _ e in
        let p = mixed (any_word t k) (all_word t k) y in
        kept_some (combined f s t) t k (λ v. f (all_word s k) v) (first_even f _ _ _ _ e x)
        (λ i l. ap (λ (v : Bool). f v (t (64 * k + i))) (even_position _ _ _ (word_says s k i l) x)) p.0 p.1

-- ---- a block

module _ (W : ℕ) (s : Positions) (b : ℕ) (l : b < blocks W) where
  block_says : (i : ℕ) → 4096 * b ≤ i → i < 4096 * b + 64 * words_of W b → Says (any_block W s b) (all_block W s b) (s i)
  block_says i p q =
      record {
        none = λ e. clear_positions W s b e i p q;
        all = λ e. full_positions W s b e i p q;
        both = all_any_block W s b l;
      }

module _ (W : ℕ) (f : Rule) (s t : Positions) (b : ℕ) (l : b < blocks W)
    (e : unsettled_by f (any_block W s b) (all_block W s b) (any_block W t b) (all_block W t b) ≡ false) where
  abbrev g : Bool
  g = f (all_block W s b) (all_block W t b)

  words_same : (j : ℕ) → j < words_of W b → word_of (combined f s t) (64 * b + j) ≡ cond g ALL 0
  words_same j h =
      same_word (combined f s t) (64 * b + j) g
      (λ i k.
      settled_position f _ _ _ _ _ _ (block_says W s b l (64 * (64 * b + j) + i) (omega arith) (omega arith))
      (block_says W t b l (64 * (64 * b + j) + i) (omega arith) (omega arith)) e)

  pub block_settled : (any_block W (combined f s t) b ≡ g) × (all_block W (combined f s t) b ≡ g) × (block_count W (combined f s t) b ≡ cond g (size W b) 0)
  block_settled = by g words_same
    where
      by : (g : Bool) → ((j : ℕ) → j < words_of W b → word_of (combined f s t) (64 * b + j) ≡ cond g ALL 0)
          → (any_block W (combined f s t) b ≡ g) × (all_block W (combined f s t) b ≡ g) × (block_count W (combined f s t) b ≡ cond g (size W b) 0)
      by true h = let a = block_all W (combined f s t) b h in (all_any_block W (combined f s t) b l a, a, full_count W (combined f s t) b a)
      by false h = let a = block_none W (combined f s t) b h in (a, none_all_block W (combined f s t) b l a, clear_count W (combined f s t) b a)
