-- What the audit tells of one block: its masks, its stored words, its population. One law for each return of the functions
-- that look at a block. Assumes nothing.
use Rattle.audit.proofs.Kit.{◌≡◌, refl, ap, sym, ◌∙◌, ap₂, ◌≢◌, Bool, true, false, not, ◌&&◌, true≢false, false≢true, List, ℕ, suc, zero-le, ◌+◌, ◌*◌, ◌-◌, ◌/◌, ◌%◌, ◌^◌, ◌≤◌, ◌<◌, lt_of_le_of_lt, arith, bit_and, and_le_l, ones, count_trailing_zeros, eqb, ltb, length, get_or, ones_lt, le-leb, eqb-true, eqb-false, lt-ltb, ltb-true, not-true, not-false}
use Rattle.positions.specs.Positions.{count}
use Rattle.positions.proofs.Bools.{and_left, and_right, same₃}
use Rattle.positions.proofs.Counts.{count_none, count_all}
use Rattle.bits.specs.Bit.{bit}
use Rattle.bits.proofs.Bits.{bit_zero, bit_of_and, bit_below, bits_fit, bit_ones, bit_none}
use Rattle.bits.proofs.Masks.{bit_without}
use Rattle.bits.proofs.Ones.{tz_set, bit_drop_lowest}
use Rattle.bits.proofs.Walks.{walk_none, walk_step}
use Rattle.range_bitset.specs.Layout.{blocks, words_of, at, nonzero, full}
use Rattle.range_bitset.specs.Read.{ALL, state_of, mixed_read, word_read, by_state}
use Rattle.range_bitset.specs.Represents.{valid, block_count}
use Rattle.audit.specs.Sound.{plain, SoundBlock, Words}
use Rattle.range_bitset.specs.Inner.{Room, mixed_count}
use Rattle.range_bitset.specs.Shown.{mixed_of, block_of}
use Rattle.audit.specs.Inner.{Tells, Audits, SoundMasks, InWords, stored_population, explicit_of, mixed_population, SoundMixed, WordsAudited, MixedAudited}
use Rattle.std.proofs.Common.{Option, Some, None}
use Rattle.range_bitset.specs.declared.MixedBlock.{MixedBlock}
use Rattle.range_bitset.specs.declared.Block.TheVariants as block
use Rattle.range_bitset.specs.declared.State.{State}
use Rattle.range_bitset.specs.declared.State.TheVariants.{Empty, Mixed, Full}
use Rattle.range_bitset.proofs.Walked.{read_by, ones_most, mixed_marked}
use Rattle.range_bitset.proofs.SetWords.{word_ones}
use Rattle.audit.proofs.SoundStorage.{plain_word}
use Rattle.range_bitset.proofs.Populations.{masked_rows}

-- ---- answers that tell

-- what a question comes to, where the rest of it is answered
pub told_as : {P Q : Type 0} {r : Bool} → Tells r P → (P → Q) → (Q → P) → Tells r Q
told_as t f g = record { yes = λ e. f (t.yes e); no = λ e q. t.no e (g q) }

-- a comparison of two numbers
pub told_eq : (a b : ℕ) → Tells (eqb a b) (a ≡ b)
told_eq a b = record { yes = λ e. eqb-true a b e; no = λ e p. eqb-false a b e p }

-- ---- answers that tell how many

pub sound_with : {P : Type 0} {n k : ℕ} → P → k ≡ n → Audits P n (Some k)
sound_with p q = record { yes = λ j e. (p, (cc)); no = λ e. cc }

pub unsound : {P : Type 0} {n : ℕ} → (P → ⊥) → Audits P n None
unsound f = record { yes = λ k e. cc; no = λ e. f }

-- what a question comes to, where the rest of it is answered
pub audits_as : {P Q : Type 0} {n k : ℕ} {r : Option ℕ} → Audits P n r → (P → Q × (n ≡ k)) → (Q → P) → Audits Q k r
audits_as t f g = record { yes = λ j e. let p = t.yes j e in let q = f p.0 in (q.0, p.1 ∙ q.1); no = λ e q. t.no e (g q) }

-- ---- masks

without_zero : (a b : Bool) → (a && not b) ≡ false → a ≡ true → b ≡ true
without_zero true b e p = not-false b e
without_zero false b e p = absurd (false≢true p)

zero_without : (a b : Bool) → (a ≡ true → b ≡ true) → (a && not b) ≡ false
zero_without true b f = ap not (f refl)
zero_without false b f = refl

pub within_told : (a b : ℕ) → a < 2 ^ 64 → b < 2 ^ 64 → Tells (eqb (bit_and a ((2 ^ 64 - 1) - b)) 0) ((j : ℕ) → bit a j ≡ true → bit b j ≡ true)
within_told a b ha hb =
    told_as (told_eq (bit_and a ((2 ^ 64 - 1) - b)) 0)
    (λ e j p. without_zero (bit a j) (bit b j) (sym (bit_without 64 a b j ha hb) ∙ ap (λ (x : ℕ). bit x j) e ∙ bit_zero j) p)
    (λ f.
    bit_none 64 (bit_and a ((2 ^ 64 - 1) - b)) (lt_of_le_of_lt (and_le_l a ((2 ^ 64 - 1) - b)) ha)
    (λ j l. bit_without 64 a b j ha hb ∙ zero_without (bit a j) (bit b j) (f j)))

-- sound masks of n words or blocks: both lie below 2 ^ n
pub masks_fit : (n any all : ℕ) → any < 2 ^ 64 → all < 2 ^ 64 → SoundMasks any all (2 ^ n - 1) → (any < 2 ^ n) × (all < 2 ^ n)
masks_fit n any all ha hb z =
    (bits_fit 64 n any ha (λ j p. below j (z.fits j p)), bits_fit 64 n all hb (λ j p. below j (z.fits j (z.within_nonzero j p))))
  where
    below : (j : ℕ) → bit (2 ^ n - 1) j ≡ true → j < n
    below j e = bit_below n (2 ^ n - 1) j (ones_lt n) e

pub fit_masks : (n any all : ℕ) → any < 2 ^ n → ((j : ℕ) → bit all j ≡ true → bit any j ≡ true) → SoundMasks any all (2 ^ n - 1)
fit_masks n any all h f =
    record { fits = λ j p. bit_ones n j ∙ lt-ltb j n (bit_below n any j h p); within_nonzero = f }

-- ---- the walk over a block's stored words

-- m is the mask of the words to look at, `left` of those yet to come; n is `known` and the positions of the others
pub record Passed (st : List ℕ) (b m known left n : ℕ) : Type 0 where
  pub fits : left < 2 ^ 64
  pub part : (j : ℕ) → bit left j ≡ true → bit m j ≡ true
  pub past : (j : ℕ) → bit m j ≡ true → bit left j ≡ false → (get_or st (64 * b + j) 0 ≡ 0 → ⊥) × (get_or st (64 * b + j) 0 ≡ ALL → ⊥)
  pub counted : n + stored_population st b left ≡ known + stored_population st b m

module _ (st : List ℕ) (b m known : ℕ) where
  pub walk_first : m < 2 ^ 64 → Passed st b m known m known
  walk_first h = record { fits = h; part = λ j p. p; past = λ j p q. absurd (true≢false (sym p ∙ q)); counted = refl }

  module _ (left n : ℕ) (w : Passed st b m known left n) where
    -- the next word lies in the storage
    pub walk_at : InWords st b m → left ≢ 0 → 64 * b + count_trailing_zeros 64 left < length st
    walk_at i z = i (count_trailing_zeros 64 left) (w.part _ (tz_set 64 left z w.fits))

    -- it is 0, or all ones
    pub walk_zero : left ≢ 0 → get_or st (64 * b + count_trailing_zeros 64 left) 0 ≡ 0 → WordsAudited st b m known None
    walk_zero z e = unsound (λ f. (f (count_trailing_zeros 64 left) (w.part _ (tz_set 64 left z w.fits))).0 e)

    pub walk_ones : left ≢ 0 → get_or st (64 * b + count_trailing_zeros 64 left) 0 ≡ ALL → WordsAudited st b m known None
    walk_ones z e = unsound (λ f. (f (count_trailing_zeros 64 left) (w.part _ (tz_set 64 left z w.fits))).1 e)

    -- it is neither, and is counted
    counted_next : left ≢ 0 → (n + ones (get_or st (64 * b + count_trailing_zeros 64 left) 0)) + stored_population st b (bit_and left (left - 1))
        ≡ known + stored_population st b m
    counted_next z = omega (arith, w.counted, walk_step 64 (λ j. ones (get_or st (64 * b + j) 0)) left z w.fits)

    pub counted_most : left ≢ 0 → Words st → n + ones (get_or st (64 * b + count_trailing_zeros 64 left) 0) ≤ known + 4096
    counted_most z u = omega (arith, counted_next z, ones_most m (λ j. get_or st (64 * b + j) 0) (λ j. u (64 * b + j)))

    pub walk_next : left ≢ 0 → (get_or st (64 * b + count_trailing_zeros 64 left) 0 ≡ 0 → ⊥) → (get_or st (64 * b + count_trailing_zeros 64 left) 0 ≡ ALL → ⊥)
        → Passed st b m known (bit_and left (left - 1)) (n + ones (get_or st (64 * b + count_trailing_zeros 64 left) 0))
    walk_next z p q =
        record {
          fits = lt_of_le_of_lt (and_le_l left (left - 1)) w.fits;
          part = λ j e. w.part j (and_left (bit left j) _ (sym (bit_drop_lowest 64 left z w.fits j) ∙ e));
          past = λ j g e. by j g (sym (bit_drop_lowest 64 left z w.fits j) ∙ e) (bit left j) refl (eqb j (count_trailing_zeros 64 left)) refl;
          counted = counted_next z;
        }
      where
        by : (j : ℕ) → bit m j ≡ true → (bit left j && not (eqb j (count_trailing_zeros 64 left))) ≡ false → (x : Bool) → bit left j ≡ x → (y : Bool)
            → eqb j (count_trailing_zeros 64 left) ≡ y → (get_or st (64 * b + j) 0 ≡ 0 → ⊥) × (get_or st (64 * b + j) 0 ≡ ALL → ⊥)
        by j g e false d y f = w.past j g d
        by j g e true d true f =
            let k = ap (λ (x : ℕ). get_or st (64 * b + x) 0) (sym (eqb-true j (count_trailing_zeros 64 left) f)) in
            (λ u. p (k ∙ u), λ u. q (k ∙ u))
        by j g e true d false f = absurd (true≢false (sym (ap₂ (λ (x y : Bool). x && not y) d f) ∙ e))

    pub walk_last : left ≡ 0 → WordsAudited st b m known (Some n)
    walk_last e =
        sound_with (λ j g. w.past j g (ap (λ (x : ℕ). bit x j) e ∙ bit_zero j))
        (omega (arith, w.counted, ap (stored_population st b) e, walk_none 64 (λ j. ones (get_or st (64 * b + j) 0))))

-- ---- a block's population

within_same : (a b : Bool) → (a ≡ true → b ≡ true) → a ≡ (b && a)
within_same true b f = sym (ap (λ (x : Bool). x && true) (f refl))
within_same false true f = refl
within_same false false f = refl

module _ (W : ℕ) (st : List ℕ) (b : ℕ) where
  -- the population of a mixed block's words is that of its positions
  words_counted : Words st → state_of W st b ≡ Mixed → mixed_count W st b (valid W b) ≡ block_count W (plain W st) b
  unfolding mixed_count block_count
  words_counted u m =
      let from : 64 * (64 * b + 0) ≡ 4096 * b = omega arith in
      let to : 64 * (64 * b + words_of W b) ≡ 4096 * b + 64 * words_of W b = omega arith in
      masked_rows (plain W st) (λ j. 64 * (64 * b + j)) (λ j. omega arith) (valid W b) 0 (words_of W b) (λ j. ones (mixed_read W st (64 * b + j)))
      (λ i. bit_ones (words_of W b) i ∙ ap (λ (x : Bool). x && ltb i (words_of W b)) (sym (le-leb 0 i zero-le))) (omega arith) (omega arith)
      (λ j l h.
      let next : 64 * (64 * b + j) + 64 ≡ 64 * (64 * b + suc j) = omega arith in
      ap ones (sym (read_by W st b Mixed m j (omega arith)) ∙ sym (plain_word W st u (64 * b + j))) ∙ word_ones (plain W st) (64 * b + j)
      ∙ ap (count (plain W st) (64 * (64 * b + j))) next)
      ∙ ap₂ (count (plain W st)) from to

  -- a word that the walk looks at is marked nonzero and not full
  stored_bit : Words st → (j : ℕ) → bit (explicit_of (mixed_of W st b)) j ≡ (bit (at W st (nonzero b)) j && not (bit (at W st (full b)) j))
  stored_bit u j = bit_without 64 (at W st (nonzero b)) (at W st (full b)) j (u _) (u _)

  -- and it is what its masks and its stored words say, where no mask has a bit past the words
  pub mixed_counted : Words st → state_of W st b ≡ Mixed → SoundMasks (at W st (nonzero b)) (at W st (full b)) (valid W b)
      → mixed_population st b (mixed_of W st b) ≡ block_count W (plain W st) b
  mixed_counted u m z =
      let F = at W st (full b) in
      let N = at W st (nonzero b) in
      let V = valid W b in
      sym
      (mixed_marked W st b V F (explicit_of (mixed_of W st b)) (u _) (λ i. within_same (bit F i) (bit V i) (λ p. z.fits i (z.within_nonzero i p)))
      (λ i.
      stored_bit u i ∙ ap (λ (x : Bool). x && not (bit F i)) (within_same (bit N i) (bit V i) (z.fits i))
      ∙ same₃ (λ v f n. (v && n) && not f) (λ v f n. (v && not f) && n) tt (bit V i) (bit F i) (bit N i)))
      ∙ words_counted u m

  -- a position of the block, by the block's state
  place : (x : State) → state_of W st b ≡ x → (i : ℕ) → 4096 * b ≤ i → i < 4096 * b + 64 * words_of W b
      → plain W st i ≡ bit (by_state x (mixed_read W st (i / 64))) (i % 64)
  unfolding plain
  place x m i l h =
      let d : i / 64 ≡ 64 * b + (i / 64 - 64 * b) = omega arith in
      ap (λ (y : ℕ). bit y (i % 64))
      (ap (word_read W st) d ∙ read_by W st b x m (i / 64 - 64 * b) (omega arith) ∙ ap (λ (y : ℕ). by_state x (mixed_read W st y)) (sym d))

  pub empty_counted : state_of W st b ≡ Empty → block_count W (plain W st) b ≡ 0
  unfolding block_count
  empty_counted m = count_none (plain W st) _ _ (λ i l h. place Empty m i l h ∙ bit_zero (i % 64))

  pub full_counted : state_of W st b ≡ Full → block_count W (plain W st) b ≡ 64 * words_of W b
  unfolding block_count
  full_counted m =
      count_all (plain W st) (4096 * b) (4096 * b + 64 * words_of W b)
      (λ i l h. place Full m i l h ∙ bit_ones 64 (i % 64) ∙ lt-ltb (i % 64) 64 (omega arith))
      ∙ omega arith

-- ---- a block

-- the words of a block lie in the storage
pub words_in : (W : ℕ) (st : List ℕ) (b : ℕ) → Room W st → b < blocks W → InWords st b (valid W b)
words_in W st b r h j p = let l : j < words_of W b = ltb-true j (words_of W b) (sym (bit_ones (words_of W b) j) ∙ p) in omega (arith, r.long)

-- and so do those of any mask within them, less some
pub stored_in : (st : List ℕ) (b n f v : ℕ) → ((j : ℕ) → bit n j ≡ true → bit v j ≡ true) → InWords st b v → InWords st b (bit_and n (ALL - f))
stored_in st b n f v h i j p = i j (h j (and_left (bit n j) _ (sym (bit_of_and n (ALL - f) j) ∙ p)))

-- the stored words are as they must be; with the full ones they have k positions
module _ (st : List ℕ) (b : ℕ) (m : MixedBlock) (k : ℕ) (w : WordsAudited st b (explicit_of m) (ones m.full * 64) (Some k)) where
  pub mixed_other : m.population ≢ k → MixedAudited st b m None
  mixed_other d = unsound (λ o. d (o.counted ∙ sym (w.yes k refl).1))

  pub mixed_told : {r : Bool} → Tells r (SoundMasks m.nonzero m.full m.valid) → r ≡ true → m.nonzero ≢ 0 → m.full ≢ m.valid → m.population ≡ k
      → MixedAudited st b m (Some k)
  mixed_told t e z a d =
      let s = w.yes k refl in
      sound_with (record { masks = t.yes e; some = z; not_all = a; words = s.0; counted = d ∙ s.1 }) s.1

-- a mixed block as it is shown meets the rules exactly when it meets 01's
module _ (W : ℕ) (st : List ℕ) (b : ℕ) (u : Words st) (m : state_of W st b ≡ Mixed) where
  pub shown_sound : SoundMixed st b (mixed_of W st b) → SoundBlock W st b
  shown_sound z =
      let f = masks_fit (words_of W b) (at W st (nonzero b)) (at W st (full b)) (u _) (u _) z.masks in
      record {
        nonzero_fits = f.0;
        full_fits = f.1;
        within_nonzero = z.masks.within_nonzero;
        some = z.some;
        not_all = z.not_all;
        mixed_words = λ j h g n. z.words j (stored_bit W st b u j ∙ ap₂ (λ (i l : Bool). i && not l) n g);
        counted = z.counted ∙ mixed_counted W st b u m z.masks;
      }

  pub sound_shown : SoundBlock W st b → SoundMixed st b (mixed_of W st b)
  sound_shown z =
      let masks = fit_masks (words_of W b) (at W st (nonzero b)) (at W st (full b)) z.nonzero_fits z.within_nonzero in
      record {
        masks = masks;
        some = z.some;
        not_all = z.not_all;
        words = λ j p.
            let a = sym (stored_bit W st b u j) ∙ p in
            let n : bit (at W st (nonzero b)) j ≡ true = and_left (bit (at W st (nonzero b)) j) (not (bit (at W st (full b)) j)) a in
            let g : bit (at W st (full b)) j ≡ false = not-true _ (and_right (bit (at W st (nonzero b)) j) (not (bit (at W st (full b)) j)) a) in
            z.mixed_words j (bit_below (words_of W b) (at W st (nonzero b)) j z.nonzero_fits n) g n;
        counted = z.counted ∙ sym (mixed_counted W st b u m masks);
      }

-- ---- a block by what is shown of it: it is shown by its own state

pub shown_empty : (W : ℕ) (st : List ℕ) (b : ℕ) (x : State) → block.Empty ≡ block_of W st b x → x ≡ Empty
shown_empty W st b Empty e = refl
shown_empty W st b Mixed e = cc
shown_empty W st b Full e = cc

pub shown_full : (W : ℕ) (st : List ℕ) (b n : ℕ) (x : State) → block.Full n ≡ block_of W st b x → (x ≡ Full) × (n ≡ 64 * words_of W b)
shown_full W st b n Empty e = cc
shown_full W st b n Mixed e = cc
shown_full W st b n Full e = (refl, (cc))

pub shown_mixed : (W : ℕ) (st : List ℕ) (b : ℕ) (m : MixedBlock) (x : State) → block.Mixed m ≡ block_of W st b x → (x ≡ Mixed) × (m ≡ mixed_of W st b)
shown_mixed W st b m Empty e = cc
shown_mixed W st b m Mixed e = (refl, (cc))
shown_mixed W st b m Full e = cc
