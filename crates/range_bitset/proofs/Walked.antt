-- What the counting functions compute on any memory: the walks over a mask's bits, the population of a mixed block's words
-- by its masks, and of whole blocks by the top masks. Assumes nothing.
use Rattle.range_bitset.proofs.Kit.{◌≡◌, refl, sym, ap, ap₂, ◌∙◌, ◌≢◌, Bool, true, false, not, ◌&&◌, cond, List, ℕ, ◌+◌, ◌*◌, ◌-◌, ◌/◌, ◌%◌, ◌^◌, ◌≤◌, ◌<◌, lt_of_lt_of_le, lt_of_le_of_lt, mul-zero, arith, bit_and, and_le_l, and_le_r, ones, ones-le, ones-ones, count_trailing_zeros, length, length-drop, get_or, take, drop, get_or-take, get_or-drop, length-take-le, pow_mono, not-true, and-false, dec_lt}
use Rattle.std.specs.Prelude.{slice_range}
use Rattle.positions.specs.Positions.{sum_over, count_from}
use Rattle.positions.proofs.Bools.{and_left, and_right, same₂, same₃}
use Rattle.positions.proofs.Counts.{over_const}
use Rattle.positions.proofs.Sums.{over_bound, over_diff, over_ext, over_le, over_terms}
use Rattle.bits.specs.Bit.{bit}
use Rattle.bits.proofs.Bits.{bit_of_and, bit_below, bit_beyond, bit_not}
use Rattle.bits.proofs.Masks.{bit_without}
use Rattle.bits.proofs.Ones.{tz_set}
use Rattle.range_bitset.specs.Layout.{blocks, words_of, address, at, word, nonzero, full, population, top_nonzero, top_full}
use Rattle.range_bitset.specs.Read.{ALL, state_of, mixed_read, word_read, by_state}
use Rattle.range_bitset.specs.Inner.{Room, mixed_count, words_count, kept_count, blocks_count}
use Rattle.range_bitset.specs.declared.State.{State}
use Rattle.range_bitset.specs.declared.State.TheVariants.{Empty, Mixed, Full}
use Rattle.bits.proofs.Walks.{taken, walk_const}

-- ---- the walks

-- the lowest bit of a mask of n bits is one of them
pub lowest_lt : (n m : ℕ) → m ≢ 0 → n ≤ 64 → m < 2 ^ n → count_trailing_zeros 64 m < n
lowest_lt n m z l h = bit_below n m (count_trailing_zeros 64 m) h (tz_set 64 m z (lt_of_lt_of_le h (pow_mono l)))

module _ (W : ℕ) (st : List ℕ) (r : Room W st) where
  -- the top masks have a bit for every block
  pub blocks_most : blocks W ≤ 64
  blocks_most = omega (arith, r.most)

  -- a lowest block is one that there is, and so its kept population
  pub lowest_block : (m : ℕ) → m ≢ 0 → m < 2 ^ blocks W → count_trailing_zeros 64 m < blocks W
  lowest_block m z h = lowest_lt (blocks W) m z blocks_most h

  pub blocks_word : (m : ℕ) → m < 2 ^ blocks W → m < 2 ^ 64
  blocks_word m h = lt_of_lt_of_le h (pow_mono blocks_most)

-- the population of those words of l that m has
abbrev pub stored_count : List ℕ → ℕ → ℕ
stored_count l m = sum_over (bit m) (λ k. ones (get_or l k 0)) 0 64

-- 64 words have at most 4,096 positions
pub ones_most : (m : ℕ) (f : ℕ → ℕ) → ((k : ℕ) → f k < 2 ^ 64) → sum_over (bit m) (λ k. ones (f k)) 0 64 ≤ 4096
ones_most m f h = over_bound (bit m) (λ k. ones (f k)) 64 0 64 (λ i p q. ones-le 64 (f i) (h i))

-- of those words each has at most 64
pub stored_most : (l : List ℕ) (m : ℕ) → m < 2 ^ 64 → ((k : ℕ) → get_or l k 0 < 2 ^ 64) → stored_count l m ≤ ones m * 64
stored_most l m h known =
    omega (
      arith,
      over_le (bit m) (λ k. ones (get_or l k 0)) (λ k. 64) 0 64 (λ i p q. ones-le 64 (get_or l i 0) (known i)),
      walk_const 64 (λ k. 64) m 64 h (λ i q e. refl),
    )

-- the sum of the kept populations of those blocks that m has
abbrev pub kept_sum : ℕ → List ℕ → ℕ → ℕ
kept_sum W st m = sum_over (bit m) (λ b. at W st (population b)) 0 64

-- one block more in the sum, in 32 bits
pub kept_step : (W : ℕ) (st : List ℕ) (r : Room W st) (all sum : ℕ) {m b m' slot : ℕ} → (m ≢ 0) × (b ≡ count_trailing_zeros 64 m) × (m' ≡ bit_and m (m - 1))
    → m < 2 ^ blocks W → slot ≡ address W (population b) → (sum + kept_sum W st m) % 2 ^ 32 ≡ all
    → ((sum + get_or st slot 0 % 2 ^ 32) % 2 ^ 32 + kept_sum W st m') % 2 ^ 32 ≡ all
kept_step W st r all sum {m = m} {b = b} {slot = slot} q h a e =
    let k : get_or st slot 0 ≡ at W st (population b) = ap (λ (x : ℕ). get_or st x 0) a in
    omega (arith, k, e, taken q (λ (c : ℕ). at W st (population c)) (blocks_word W st r m h))

-- ---- a pair of masks: v where the first has a bit, a term where only the second has one, and nothing else

module _ (F N m : ℕ) (mf mn : ℕ) (hf : mf < 2 ^ 64) (bf : (i : ℕ) → bit mf i ≡ (bit m i && bit F i))
    (bn : (i : ℕ) → bit mn i ≡ ((bit m i && not (bit F i)) && bit N i)) where
  of_first : (f n : Bool) (v d : ℕ) → f ≡ true → cond f v (cond n d 0) ≡ v
  of_first f n v d e = rw e

  of_second : (w f n : Bool) (v d : ℕ) → ((w && not f) && n) ≡ true → cond f v (cond n d 0) ≡ d
  of_second w f n v d e = rw (not-true f (and_right w (not f) (and_left (w && not f) n e)), and_right (w && not f) n e)

  of_neither : (w f n : Bool) (v d : ℕ) → ((w && not f) && not n) ≡ true → cond f v (cond n d 0) ≡ 0
  of_neither w f n v d e = rw (not-true f (and_right w (not f) (and_left (w && not f) (not n) e)), not-true n (and_right (w && not f) (not n) e))

  pub marked_sum : (v : ℕ) (f d : ℕ → ℕ) → ((i : ℕ) → i < 64 → f i ≡ cond (bit F i) v (cond (bit N i) (d i) 0))
      → sum_over (bit m) f 0 64 ≡ ones mf * v + sum_over (bit mn) d 0 64
  marked_sum v f d h =
      let some : ℕ → Bool = λ i. bit m i && not (bit F i) in
      let full_part : sum_over (λ i. bit m i && bit F i) f 0 64 ≡ ones mf * v =
      over_ext (λ i. bit m i && bit F i) (bit mf) f 0 64 (λ i p q. sym (bf i))
      ∙ walk_const 64 f mf v hf
      (λ i q e. h i q ∙ of_first (bit F i) (bit N i) v (d i) (and_right (bit m i) (bit F i) (sym (bf i) ∙ e)))
      in
      let clear_part : sum_over (λ i. some i && not (bit N i)) f 0 64 ≡ 0 =
      over_const (λ i. some i && not (bit N i)) f 0 0 64 (λ i p q e. h i q ∙ of_neither (bit m i) (bit F i) (bit N i) v (d i) e)
      ∙ mul-zero (count_from (λ i. some i && not (bit N i)) 0 64)
      in
      let read_part : sum_over (λ i. some i && bit N i) f 0 64 ≡ sum_over (bit mn) d 0 64 =
      over_terms (λ i. some i && bit N i) f d 0 64 (λ i p q e. h i q ∙ of_second (bit m i) (bit F i) (bit N i) v (d i) e)
      ∙ over_ext (λ i. some i && bit N i) (bit mn) d 0 64 (λ i p q. sym (bn i))
      in
      omega (arith, over_diff (bit m) (bit F) f 0 64, over_diff some (bit N) f 0 64, full_part, clear_part, read_part)

-- ---- the words of a block

-- word j of block b, where the block is mixed
pub mixed_row : (W : ℕ) (st : List ℕ) (b j : ℕ) → j < 64
    → mixed_read W st (64 * b + j) ≡ cond (bit (at W st (full b)) j) ALL (cond (bit (at W st (nonzero b)) j) (at W st (word (64 * b + j))) 0)
unfolding mixed_read
mixed_row W st b j h =
    let d : (64 * b + j) / 64 ≡ b = omega arith in
    let e : (64 * b + j) % 64 ≡ j = omega arith in
    rw (d, e)

cond_lt : (f n : Bool) (d : ℕ) → d < 2 ^ 64 → cond f ALL (cond n d 0) < 2 ^ 64
cond_lt true n d h = omega arith
cond_lt false true d h = h
cond_lt false false d h = omega arith

-- any word, where its block is mixed
pub mixed_lt : (W : ℕ) (st : List ℕ) → ((k : ℕ) → get_or st k 0 < 2 ^ 64) → (k : ℕ) → mixed_read W st k < 2 ^ 64
unfolding mixed_read
mixed_lt W st known k = cond_lt (bit (at W st (full (k / 64))) (k % 64)) (bit (at W st (nonzero (k / 64))) (k % 64)) (at W st (word k)) (known k)

-- word j of block b, by the block's state
pub read_by : (W : ℕ) (st : List ℕ) (b : ℕ) (x : State) → state_of W st b ≡ x → (j : ℕ) → j < 64
    → word_read W st (64 * b + j) ≡ by_state x (mixed_read W st (64 * b + j))
unfolding word_read
read_by W st b x e j h =
    let d : (64 * b + j) / 64 ≡ b = omega arith in
    ap (λ (y : State). by_state y (mixed_read W st (64 * b + j))) (ap (state_of W st) d ∙ e)

ones_cond : (f n : Bool) (d : ℕ) → ones (cond f ALL (cond n d 0)) ≡ cond f 64 (cond n (ones d) 0)
ones_cond true n d = ones-ones 64
ones_cond false true d = refl
ones_cond false false d = ones-ones 0

-- a part of the storage
pub part_long : (st : List ℕ) (from n : ℕ) → from + n ≤ length st → length (take (from + n - from) (drop from st)) ≡ n
part_long st from n h =
    let e : from + n - from ≡ n = omega arith in
    rw e (length-take-le n (drop from st) (omega (arith, length-drop from st)))

pub part_at : (st : List ℕ) (from n k : ℕ) → k < n → get_or (take (from + n - from) (drop from st)) k 0 ≡ get_or st (from + k) 0
part_at st from n k h =
    let e : from + n - from ≡ n = omega arith in
    rw e (get_or-take n (drop from st) k 0 h ∙ get_or-drop from st k 0)

-- the words that are neither marked full nor empty, as the code has them
abbrev pub explicit_words : ℕ → ℕ → ℕ → ℕ
explicit_words F N m = bit_and (bit_and N ((2 ^ 64 - 1) - bit_and F m)) m

explicit_bit : (F N m i : ℕ) → m < 2 ^ 64 → bit (explicit_words F N m) i ≡ ((bit m i && not (bit F i)) && bit N i)
explicit_bit F N m i h = bit_of_and (bit_and N rest) m i ∙ by (dec_lt i 64)
  where
    rest : ℕ
    rest = (2 ^ 64 - 1) - bit_and F m

    by : Dec (i < 64) → (bit (bit_and N rest) i && bit m i) ≡ ((bit m i && not (bit F i)) && bit N i)
    by (yes l) =
        ap (λ (x : Bool). x && bit m i)
        (bit_of_and N rest i
        ∙ ap (λ (x : Bool). bit N i && x) (bit_not 64 (bit_and F m) i (lt_of_le_of_lt (and_le_r F m) h) l ∙ ap not (bit_of_and F m i)))
        ∙ same₃ (λ w f n. (n && not (f && w)) && w) (λ w f n. (w && not f) && n) tt (bit m i) (bit F i) (bit N i)
    by (no l) =
        let e : bit m i ≡ false = bit_beyond 64 m i h (omega arith) in
        rw e (and-false (bit (bit_and N rest) i))

-- those words and the full ones together are at most 64
pub masked_most : (F N m : ℕ) → m < 2 ^ 64 → ones (bit_and F m) * 64 + ones (explicit_words F N m) * 64 ≤ 4096
masked_most F N m h =
    let E = explicit_words F N m in
    let e : E < 2 ^ 64 = lt_of_le_of_lt (and_le_r (bit_and N ((2 ^ 64 - 1) - bit_and F m)) m) h in
    let sum =
    marked_sum F N m (bit_and F m) E (lt_of_le_of_lt (and_le_r F m) h)
    (λ i. bit_of_and F m i ∙ same₂ (λ x y. x && y) (λ x y. y && x) tt (bit F i) (bit m i)) (λ i. explicit_bit F N m i h)
    64 (λ i. cond (bit F i) 64 (cond (bit N i) 64 0)) (λ i. 64) (λ i q. refl)
    in
    omega (
      arith,
      sum,
      walk_const 64 (λ i. 64) E 64 e (λ i q u. refl),
      over_bound (bit m) (λ i. cond (bit F i) 64 (cond (bit N i) 64 0)) 64 0 64 (λ i p q. cond_most (bit F i) (bit N i)),
    )
  where
    cond_most : (f n : Bool) → cond f 64 (cond n 64 0) ≤ 64
    cond_most true n = omega arith
    cond_most false true = omega arith
    cond_most false false = omega arith

module _ (W : ℕ) (st : List ℕ) (b m : ℕ) where
  pub mixed_most : ((k : ℕ) → get_or st k 0 < 2 ^ 64) → mixed_count W st b m ≤ 4096
  unfolding mixed_count
  mixed_most known = ones_most m (λ j. mixed_read W st (64 * b + j)) (λ j. mixed_lt W st known (64 * b + j))

  -- by the words marked full and those looked at
  pub mixed_marked : (F E : ℕ) → F < 2 ^ 64 → ((i : ℕ) → bit F i ≡ (bit m i && bit (at W st (full b)) i))
      → ((i : ℕ) → bit E i ≡ ((bit m i && not (bit (at W st (full b)) i)) && bit (at W st (nonzero b)) i))
      → mixed_count W st b m ≡ ones F * 64 + sum_over (bit E) (λ k. ones (get_or st (64 * b + k) 0)) 0 64
  unfolding mixed_count
  mixed_marked F E h bf be =
      marked_sum (at W st (full b)) (at W st (nonzero b)) m F E h bf be 64 (λ j. ones (mixed_read W st (64 * b + j))) (λ k. ones (get_or st (64 * b + k) 0))
      (λ j l. ap ones (mixed_row W st b j l) ∙ ones_cond (bit (at W st (full b)) j) (bit (at W st (nonzero b)) j) (at W st (word (64 * b + j))))

-- block b by its data words l and a mask m of them
module _ (W : ℕ) (st : List ℕ) (b m : ℕ) (h : m < 2 ^ words_of W b) (l : List ℕ)
    (is : l ≡ slice_range st (64 * b) (64 * b + words_of W b)) where
  data_at : (j : ℕ) → j < words_of W b → get_or l j 0 ≡ get_or st (64 * b + j) 0
  data_at j u = ap (λ (x : List ℕ). get_or x j 0) is ∙ part_at st (64 * b) (words_of W b) j u

  -- by the masks at the slots f and n
  pub mixed_total : (f n : ℕ) → f ≡ address W (full b) → n ≡ address W (nonzero b)
      → ones (bit_and (get_or st f 0) m) * 64 + stored_count l (explicit_words (get_or st f 0) (get_or st n 0) m) ≡ mixed_count W st b m
  mixed_total f n ef en =
      let F = get_or st f 0 in
      let N = get_or st n 0 in
      let E = explicit_words F N m in
      let wide : m < 2 ^ 64 = lt_of_lt_of_le h (pow_mono {j = 64} (omega arith)) in
      let low : E < 2 ^ words_of W b = lt_of_le_of_lt (and_le_r (bit_and N ((2 ^ 64 - 1) - bit_and F m)) m) h in
      ap (λ (x : ℕ). ones (bit_and F m) * 64 + x)
      (over_terms (bit E) (λ k. ones (get_or l k 0)) (λ k. ones (get_or st (64 * b + k) 0)) 0 64
      (λ k p q e. ap ones (data_at k (bit_below (words_of W b) E k low e))))
      ∙ sym
      (mixed_marked W st b m (bit_and F m) E (lt_of_le_of_lt (and_le_r F m) wide)
      (λ i.
      bit_of_and F m i ∙ same₂ (λ x y. x && y) (λ x y. y && x) tt (bit F i) (bit m i)
      ∙ ap (λ (x : ℕ). bit m i && bit (get_or st x 0) i) ef)
      (λ i.
      explicit_bit F N m i wide
      ∙ ap₂ (λ (x y : ℕ). (bit m i && not (bit (get_or st x 0) i)) && bit (get_or st y 0) i) ef en))

module _ (W : ℕ) (st : List ℕ) (b m : ℕ) where
  by_state_lem : (q : State) → state_of W st b ≡ q → words_count W st b m ≡ sum_over (bit m) (λ j. ones (by_state q (mixed_read W st (64 * b + j)))) 0 64
  unfolding words_count
  by_state_lem q e =
      over_terms (bit m) (λ j. ones (word_read W st (64 * b + j))) (λ j. ones (by_state q (mixed_read W st (64 * b + j)))) 0 64
      (λ j p l g. ap ones (read_by W st b q e j l))

  pub words_empty : state_of W st b ≡ Empty → words_count W st b m ≡ 0
  words_empty e =
      by_state_lem Empty e ∙ over_const (bit m) (λ j. ones 0) 0 0 64 (λ j p q g. ones-ones 0) ∙ mul-zero (count_from (bit m) 0 64)

  pub words_full : m < 2 ^ 64 → state_of W st b ≡ Full → words_count W st b m ≡ ones m * 64
  words_full h e = by_state_lem Full e ∙ walk_const 64 (λ j. ones ALL) m 64 h (λ j q g. ones-ones 64)

  pub words_mixed : state_of W st b ≡ Mixed → words_count W st b m ≡ mixed_count W st b m
  unfolding mixed_count
  words_mixed e = by_state_lem Mixed e

-- ---- whole blocks

kept_cond : (f n : Bool) (p : ℕ) → kept_count (cond f Full (cond n Mixed Empty)) p ≡ cond f 4096 (cond n p 0)
kept_cond true n p = refl
kept_cond false true p = refl
kept_cond false false p = refl

-- the blocks that are mixed, as the code has them
abbrev pub mixed_blocks : ℕ → ℕ → ℕ → ℕ
mixed_blocks F N m = bit_and (bit_and m N) ((2 ^ 64 - 1) - bit_and m F)

mixed_bit : (F N m i : ℕ) → m < 2 ^ 64 → bit (mixed_blocks F N m) i ≡ ((bit m i && not (bit F i)) && bit N i)
mixed_bit F N m i h =
    bit_without 64 (bit_and m N) (bit_and m F) i (lt_of_le_of_lt (and_le_l m N) h) (lt_of_le_of_lt (and_le_l m F) h)
    ∙ ap₂ (λ (x y : Bool). x && not y) (bit_of_and m N i) (bit_of_and m F i)
    ∙ same₃ (λ w f n. (w && n) && not (w && f)) (λ w f n. (w && not f) && n) tt (bit m i) (bit F i) (bit N i)

-- by the top masks at the slots f and n
pub blocks_total : (W : ℕ) (st : List ℕ) (m f n : ℕ) → f ≡ address W top_full → n ≡ address W top_nonzero → m < 2 ^ 64
    → (ones (bit_and m (get_or st f 0)) * 4096 + kept_sum W st (mixed_blocks (get_or st f 0) (get_or st n 0) m)) % 2 ^ 32 ≡ blocks_count W st m
unfolding blocks_count state_of
blocks_total W st m f n ef en h =
    let F = get_or st f 0 in
    let N = get_or st n 0 in
    let K : ℕ → ℕ = λ b. kept_count (state_of W st b) (at W st (population b)) in
    let row : (b : ℕ) → b < 64 → K b ≡ cond (bit F b) 4096 (cond (bit N b) (at W st (population b)) 0) =
    λ b q. kept_cond (bit (at W st top_full) b) (bit (at W st top_nonzero) b) (at W st (population b))
    ∙ ap (λ (x : ℕ). cond (bit (get_or st x 0) b) 4096 (cond (bit (at W st top_nonzero) b) (at W st (population b)) 0)) (sym ef)
    ∙ ap (λ (x : ℕ). cond (bit F b) 4096 (cond (bit (get_or st x 0) b) (at W st (population b)) 0)) (sym en)
    in
    ap (λ (x : ℕ). x % 2 ^ 32)
    (sym
    (marked_sum F N m (bit_and m F) (mixed_blocks F N m) (lt_of_le_of_lt (and_le_l m F) h) (λ i. bit_of_and m F i) (λ i. mixed_bit F N m i h)
    4096 K (λ b. at W st (population b)) row))
