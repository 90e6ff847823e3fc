-- A set's words, blocks and counts: what each says of the positions, and what a storage that holds the set reads.
-- Assumes nothing.
use Rattle.range_bitset.proofs.Kit.{◌≡◌, refl, ap, sym, ◌∙◌, ap₂, Bool, true, false, not, ◌&&◌, ◌||◌, cond, true≢false, List, ℕ, ◌+◌, ◌*◌, ◌-◌, ◌/◌, ◌%◌, ◌^◌, ◌≤◌, ◌<◌, add-zero, arith, ltb, ones, pow_mono, pow_pos, lt-ltb, eq-eqb, ne_eqb, eqb-true, not-false}
use Rattle.positions.specs.Positions.{Positions, count, count_from}
use Rattle.positions.proofs.Counts.{count_from_shift, count_from_lem, count_none, count_all, count_le}
use Rattle.bits.specs.Bit.{bit}
use Rattle.bits.proofs.Bits.{bit_zero, bit_ones}
use Rattle.bits.proofs.Words.{mask_lt, mask_at, mask_ext, mask_none, mask_all, mask_ones}
use Rattle.range_bitset.specs.Layout.{blocks, words_of, at, word, nonzero, full}
use Rattle.range_bitset.specs.Read.{ALL, state_of, mixed_read, word_read, by_state}
use Rattle.range_bitset.specs.Represents.{word_of, any_word, all_word, valid, nonzero_mask, full_mask, block_count, any_block, all_block, closed, masked, StoredOpen, Stored}
use Rattle.range_bitset.specs.declared.State.{State}
use Rattle.range_bitset.specs.declared.State.TheVariants.{Empty, Mixed, Full}

-- ---- a word of the set

module _ (s : Positions) (k : ℕ) where
  pub word_lt : word_of s k < 2 ^ 64
  unfolding word_of
  word_lt = mask_lt 64 _

  pub word_bit : (i : ℕ) → i < 64 → bit (word_of s k) i ≡ s (64 * k + i)
  unfolding word_of
  word_bit i h = mask_at 64 _ i h

  -- its ones are its positions
  pub word_ones : ones (word_of s k) ≡ count s (64 * k) (64 * k + 64)
  unfolding word_of
  word_ones =
      mask_ones 64 (λ i. s (64 * k + i)) ∙ sym (count_from_shift s (64 * k) 0 64)
      ∙ ap (λ (x : ℕ). count_from s x 64) (add-zero (64 * k)) ∙ sym (count_from_lem s (64 * k) 64)

  pub ones_most : ones (word_of s k) ≤ 64
  ones_most = omega (arith, word_ones, count_le s (64 * k) (64 * k + 64))

  pub word_all : all_word s k ≡ true → word_of s k ≡ ALL
  word_all e = eqb-true _ _ e

  pub word_none : any_word s k ≡ false → word_of s k ≡ 0
  word_none e = eqb-true _ _ (not-false _ e)

  -- a full word is no empty one
  pub all_any : all_word s k ≡ true → any_word s k ≡ true
  all_any e = let p = word_all e in ap not (ne_eqb (word_of s k) 0 (λ z. omega arith))

  pub none_all : any_word s k ≡ false → all_word s k ≡ false
  none_all e = by (all_word s k) refl
    where
      by : (b : Bool) → all_word s k ≡ b → b ≡ false
      by true p = absurd (true≢false (sym (all_any p) ∙ e))
      by false p = refl

-- sets that agree on a word's positions have the same word
pub word_same : (s t : Positions) (k : ℕ) → ((i : ℕ) → i < 64 → s (64 * k + i) ≡ t (64 * k + i)) → word_of s k ≡ word_of t k
unfolding word_of
word_same s t k h = mask_ext 64 _ _ h

-- a position, by its word
pub in_word : (s : Positions) (i : ℕ) → bit (word_of s (i / 64)) (i % 64) ≡ s i
in_word s i =
    let e : 64 * (i / 64) + i % 64 ≡ i = omega arith in
    word_bit s (i / 64) (i % 64) (omega arith) ∙ ap s e

-- ---- a block of the set

-- word k lies in its block
pub in_block : (W k : ℕ) → k < W → (k / 64 < blocks W) × (k % 64 < words_of W (k / 64)) × (64 * (k / 64) + k % 64 ≡ k)
in_block W k h = omega arith

-- a block has a word
pub words_some : (W b : ℕ) → b < blocks W → 1 < 2 ^ words_of W b
words_some W b h =
    let n : 1 ≤ words_of W b = omega arith in
    let p : 2 ^ 1 ≤ 2 ^ words_of W b = pow_mono n in
    omega arith

-- the mask of all its words
pub valid_fits : (W b : ℕ) {v : ℕ} → v ≡ valid W b → v < 2 ^ words_of W b
valid_fits W b e = let p = pow_pos (words_of W b) in omega arith

module _ (W : ℕ) (s : Positions) (b : ℕ) where
  pub full_words : all_block W s b ≡ true → (j : ℕ) → j < words_of W b → all_word s (64 * b + j) ≡ true
  unfolding full_mask
  full_words e j h =
      sym (mask_at (words_of W b) (λ i. all_word s (64 * b + i)) j h)
      ∙ ap (λ (x : ℕ). bit x j) (eqb-true _ _ e ∙ sym (mask_all (words_of W b)))
      ∙ mask_at (words_of W b) (λ i. true) j h

  pub clear_words : any_block W s b ≡ false → (j : ℕ) → j < words_of W b → any_word s (64 * b + j) ≡ false
  unfolding nonzero_mask
  clear_words e j h =
      sym (mask_at (words_of W b) (λ i. any_word s (64 * b + i)) j h)
      ∙ ap (λ (x : ℕ). bit x j) (eqb-true _ _ (not-false _ e)) ∙ bit_zero j

  -- and back: all its words are 0, or all ones
  pub block_none : ((j : ℕ) → j < words_of W b → word_of s (64 * b + j) ≡ 0) → any_block W s b ≡ false
  unfolding nonzero_mask
  block_none h = ap not (eq-eqb _ _ (mask_ext (words_of W b) _ (λ j. false) (λ j l. ap not (eq-eqb _ _ (h j l))) ∙ mask_none (words_of W b)))

  pub block_all : ((j : ℕ) → j < words_of W b → word_of s (64 * b + j) ≡ ALL) → all_block W s b ≡ true
  unfolding full_mask
  block_all h = eq-eqb _ _ (mask_ext (words_of W b) _ (λ j. true) (λ j l. eq-eqb _ _ (h j l)) ∙ mask_all (words_of W b))

  -- the positions of a block whose words all read the same
  positions : (w : ℕ) (v : Bool) → ((i : ℕ) → i < 64 → bit w i ≡ v) → ((j : ℕ) → j < words_of W b → word_of s (64 * b + j) ≡ w)
      → (i : ℕ) → 4096 * b ≤ i → i < 4096 * b + 64 * words_of W b → s i ≡ v
  positions w v h e i l u =
      let d : i / 64 ≡ 64 * b + (i / 64 - 64 * b) = omega arith in
      sym (in_word s i)
      ∙ ap (λ (x : ℕ). bit x (i % 64)) (ap (word_of s) d ∙ e (i / 64 - 64 * b) (omega arith))
      ∙ h (i % 64) (omega arith)

  pub full_positions : all_block W s b ≡ true → (i : ℕ) → 4096 * b ≤ i → i < 4096 * b + 64 * words_of W b → s i ≡ true
  full_positions e =
      positions ALL true (λ i h. bit_ones 64 i ∙ lt64 i h) (λ j h. word_all s (64 * b + j) (full_words e j h))
    where
      lt64 : (i : ℕ) → i < 64 → ltb i 64 ≡ true
      lt64 i h = lt-ltb i 64 h

  pub clear_positions : any_block W s b ≡ false → (i : ℕ) → 4096 * b ≤ i → i < 4096 * b + 64 * words_of W b → s i ≡ false
  clear_positions e = positions 0 false (λ i h. bit_zero i) (λ j h. word_none s (64 * b + j) (clear_words e j h))

  pub full_nonzero : all_block W s b ≡ true → nonzero_mask W s b ≡ valid W b
  unfolding nonzero_mask
  full_nonzero e = mask_ext (words_of W b) _ (λ j. true) (λ j h. all_any s _ (full_words e j h)) ∙ mask_all (words_of W b)

  pub full_full : all_block W s b ≡ true → full_mask W s b ≡ valid W b
  full_full e = eqb-true _ _ e

  pub full_count : all_block W s b ≡ true → block_count W s b ≡ 64 * words_of W b
  unfolding block_count
  full_count e =
      count_all s (4096 * b) (4096 * b + 64 * words_of W b) (full_positions e) ∙ omega arith

  pub clear_nonzero : any_block W s b ≡ false → nonzero_mask W s b ≡ 0
  clear_nonzero e = eqb-true _ _ (not-false _ e)

  pub clear_full : any_block W s b ≡ false → full_mask W s b ≡ 0
  unfolding full_mask
  clear_full e = mask_ext (words_of W b) _ (λ j. false) (λ j h. none_all s _ (clear_words e j h)) ∙ mask_none (words_of W b)

  pub clear_count : any_block W s b ≡ false → block_count W s b ≡ 0
  unfolding block_count
  clear_count e = count_none s (4096 * b) (4096 * b + 64 * words_of W b) (clear_positions e)

  pub block_most : block_count W s b ≤ 4096
  unfolding block_count
  block_most = omega (arith, count_le s (4096 * b) (4096 * b + 64 * words_of W b))

  module _ (l : b < blocks W) where
    -- an empty block is no full one
    pub none_all_block : any_block W s b ≡ false → all_block W s b ≡ false
    none_all_block e =
        let p = clear_full e in
        let h = words_some W b l in
        ne_eqb (full_mask W s b) (valid W b) (λ z. omega arith)

    -- a full block is no empty one
    pub all_any_block : all_block W s b ≡ true → any_block W s b ≡ true
    all_any_block e =
        let p = full_nonzero e in
        let h = words_some W b l in
        ap not (ne_eqb (nonzero_mask W s b) 0 (λ z. omega arith))

-- ---- what a storage that holds the set reads

module _ (W : ℕ) (st : List ℕ) (s : Positions) (o : ℕ → Bool) (h : StoredOpen W st s o) where
  pub state_is : (b : ℕ) → b < blocks W → state_of W st b ≡ cond (not (o b) && all_block W s b) Full (cond (o b || any_block W s b) Mixed Empty)
  unfolding state_of
  state_is b l =
      ap₂ (λ (x y : Bool). cond x Full (cond y Mixed Empty))
      (ap (λ (x : ℕ). bit x b) h.top_full_is ∙ mask_at (blocks W) _ b l)
      (ap (λ (x : ℕ). bit x b) h.top_nonzero_is ∙ mask_at (blocks W) _ b l)

  -- a bit of a block's masks, where they are read
  pub full_bit : (b j : ℕ) → b < blocks W → j < words_of W b → masked W s o b ≡ true → bit (at W st (full b)) j ≡ all_word s (64 * b + j)
  unfolding full_mask
  full_bit b j l u m = ap (λ (x : ℕ). bit x j) (h.fulls b l m) ∙ mask_at (words_of W b) _ j u

  pub nonzero_bit : (b j : ℕ) → b < blocks W → j < words_of W b → masked W s o b ≡ true → bit (at W st (nonzero b)) j ≡ any_word s (64 * b + j)
  unfolding nonzero_mask
  nonzero_bit b j l u m = ap (λ (x : ℕ). bit x j) (h.nonzeros b l m) ∙ mask_at (words_of W b) _ j u

  -- a word of a block whose masks are read
  pub mixed_is : (k : ℕ) → k < W → masked W s o (k / 64) ≡ true → mixed_read W st k ≡ word_of s k
  unfolding mixed_read
  mixed_is k l m =
      let i = in_block W k l in
      ap₂ (λ (x y : Bool). cond x ALL (cond y (at W st (word k)) 0))
      (full_bit (k / 64) (k % 64) i.0 i.1 m ∙ ap (all_word s) i.2)
      (nonzero_bit (k / 64) (k % 64) i.0 i.1 m ∙ ap (any_word s) i.2)
      ∙ by (all_word s k) refl (any_word s k) refl
    where
      by : (a : Bool) → all_word s k ≡ a → (e : Bool) → any_word s k ≡ e → cond a ALL (cond e (at W st (word k)) 0) ≡ word_of s k
      by true p e q = sym (eqb-true _ _ p)
      by false p true q = h.stored k l m q p
      by false p false q = sym (eqb-true _ _ (not-false _ q))

  -- a word of a block whose masks are not read, and so any word
  pub word_is : (k : ℕ) → k < W → word_read W st k ≡ word_of s k
  unfolding word_read
  word_is k l =
      ap (λ (x : State). by_state x (mixed_read W st k)) (state_is (k / 64) i.0)
      ∙ by (o (k / 64)) refl (all_block W s (k / 64)) refl (any_block W s (k / 64)) refl
    where
      i : (k / 64 < blocks W) × (k % 64 < words_of W (k / 64)) × (64 * (k / 64) + k % 64 ≡ k)
      i = in_block W k l

      m : (x a e : Bool) → o (k / 64) ≡ x → all_block W s (k / 64) ≡ a → any_block W s (k / 64) ≡ e → masked W s o (k / 64) ≡ (x || (e && not a))
      m x a e p q r = ap₂ ◌||◌ p (ap₂ (λ (u v : Bool). u && not v) r q)

      by : (x : Bool) → o (k / 64) ≡ x → (a : Bool) → all_block W s (k / 64) ≡ a → (e : Bool) → any_block W s (k / 64) ≡ e
          → by_state (cond (not x && a) Full (cond (x || e) Mixed Empty)) (mixed_read W st k) ≡ word_of s k
      by true p a q e r = mixed_is k l (m true a e p q r)
      by false p true q e r = sym (eqb-true _ _ (full_words W s (k / 64) q (k % 64) i.1)) ∙ ap (word_of s) i.2
      by false p false q true r = mixed_is k l (m false false true p q r)
      by false p false q false r =
          sym (eqb-true _ _ (not-false _ (clear_words W s (k / 64) r (k % 64) i.1))) ∙ ap (word_of s) i.2

-- ---- what a state that was read says of the set

order : State → ℕ
order Empty = 0
order Mixed = 1
order Full = 2

module _ (W : ℕ) (st : List ℕ) (b : ℕ) (l : b < blocks W) (s : Positions) (h : Stored W st s) where
  told : (a e : Bool) → all_block W s b ≡ a → any_block W s b ≡ e → (x : State) → state_of W st b ≡ x → order (cond a Full (cond e Mixed Empty)) ≡ order x
  told a e p q x w = sym (ap order (state_is W st s closed h b l ∙ ap₂ (λ (c d : Bool). cond c Full (cond d Mixed Empty)) p q)) ∙ ap order w

  pub state_empty : state_of W st b ≡ Empty → any_block W s b ≡ false
  unfolding order
  state_empty w = by (all_block W s b) refl (any_block W s b) refl
    where
      by : (a : Bool) → all_block W s b ≡ a → (e : Bool) → any_block W s b ≡ e → e ≡ false
      by true p e q = absurd (omega (arith, told true e p q Empty w))
      by false p true q = absurd (omega (arith, told false true p q Empty w))
      by false p false q = refl

  pub state_full : state_of W st b ≡ Full → all_block W s b ≡ true
  unfolding order
  state_full w = by (all_block W s b) refl (any_block W s b) refl
    where
      by : (a : Bool) → all_block W s b ≡ a → (e : Bool) → any_block W s b ≡ e → a ≡ true
      by true p e q = refl
      by false p true q = absurd (omega (arith, told false true p q Full w))
      by false p false q = absurd (omega (arith, told false false p q Full w))

  pub state_mixed : state_of W st b ≡ Mixed → (any_block W s b ≡ true) × (all_block W s b ≡ false)
  unfolding order
  state_mixed w = by (all_block W s b) refl (any_block W s b) refl
    where
      by : (a : Bool) → all_block W s b ≡ a → (e : Bool) → any_block W s b ≡ e → (e ≡ true) × (a ≡ false)
      by true p e q = absurd (omega (arith, told true e p q Mixed w))
      by false p true q = (refl, refl)
      by false p false q = absurd (omega (arith, told false false p q Mixed w))

  pub state_masked : state_of W st b ≡ Mixed → masked W s closed b ≡ true
  state_masked w = let q = state_mixed w in ap₂ (λ (x y : Bool). x && not y) q.0 q.1
