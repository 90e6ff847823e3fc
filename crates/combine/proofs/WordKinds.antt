-- A word of the combination by its kind: settled, stored on both sides, or on one. And the words of a block, from those of each kind. Assumes nothing.
use Rattle.combine.proofs.Kit.{◌≡◌, refl, ap, ap₂, sym, ◌∙◌, Bool, true, false, not, ◌&&◌, ◌||◌, cond, true≢false, false≢true, List, ℕ, ◌+◌, ◌*◌, ◌-◌, ◌^◌, ◌<◌, ◌≤◌, arith, eqb, not-true, bit_and, bit_or, or_lt, and_le_l, ones, ones-ones, length, get_or, ones_lt, lt_of_le_of_lt}
use Rattle.positions.specs.Positions.{sum_over}
use Rattle.positions.proofs.Bools.{and_left, and_right, same₁, same₃}
use Rattle.positions.proofs.Sums.{over_diff, over_ext, over_terms}
use Rattle.bits.specs.Bit.{bit, mask}
use Rattle.bits.proofs.Bits.{bit_zero, bit_below, bits_fit, bit_of_and, bit_of_or}
use Rattle.bits.proofs.Masks.{bit_without}
use Rattle.bits.proofs.Words.{mask_true, mask_at, mask_of}
use Rattle.bits.proofs.Walks.{walk_const}
use Rattle.range_bitset.specs.Read.{ALL}
use Rattle.range_bitset.proofs.Walked.{ones_most}
use Rattle.combine.specs.Rules.{Rule, on_words}
use Rattle.combine.specs.Inner.{unsettled_at, full_at, mixed_at, lone_at, read_word, made_word, pair_word, lone_word, Splits, MakesPairs, MakesLone, MakesWords}
use Rattle.combine.specs.declared.rule.Masks.{Masks}
use Rattle.combine.specs.declared.rule.Split.{Split}
use Rattle.combine.specs.declared.block.Paired.{Paired}
use Rattle.combine.proofs.RuleMasks.{minus, on_lt, on_bit, exchanged, second_even, first_even, kept_or_turned, exchanged_words}
use Rattle.combine.proofs.Gathered.{valid_at, unsettled_in, unsettled_here, split_sum}

-- ---- a word on one side

-- stored, or all set or all clear
read_mixed : (x : Masks) (l : List ℕ) (i : ℕ) → mixed_at x i ≡ true → read_word x l i ≡ get_or l i 0
read_mixed x l i e = by (bit x.nonzero i) (bit x.full i) e
  where
    by : (n a : Bool) → (n && not a) ≡ true → cond a ALL (cond n (get_or l i 0) 0) ≡ get_or l i 0
    by true true z = absurd (false≢true z)
    by true false z = refl
    by false a z = absurd (false≢true z)

read_even : (x : Masks) (l : List ℕ) (i : ℕ) → mixed_at x i ≡ false → read_word x l i ≡ cond (bit x.full i) ALL 0
read_even x l i e = by (bit x.nonzero i) (bit x.full i) e
  where
    by : (n a : Bool) → (n && not a) ≡ false → cond a ALL (cond n (get_or l i 0) 0) ≡ cond a ALL 0
    by n true z = refl
    by true false z = absurd (true≢false z)
    by false false z = refl

-- what is to be looked into is mixed on a side
pub some_mixed : (f : Rule) (x y : Masks) (i : ℕ) → unsettled_at f x y i ≡ true → (mixed_at x i || mixed_at y i) ≡ true
some_mixed f x y i e = and_left (mixed_at x i || mixed_at y i) _ e

-- ---- a word of the combination

module _ (f : Rule) (x : Masks) (l : List ℕ) (y : Masks) (k : List ℕ) (i : ℕ) where
  pub made_settled : unsettled_at f x y i ≡ false → made_word f x l y k i ≡ cond (full_at f x y i) ALL 0
  unfolding made_word
  made_settled e = ap (λ (b : Bool). cond b (on_words f (read_word x l i) (read_word y k i)) (cond (full_at f x y i) ALL 0)) e

  pub made_unsettled : unsettled_at f x y i ≡ true → made_word f x l y k i ≡ on_words f (read_word x l i) (read_word y k i)
  unfolding made_word
  made_unsettled e = ap (λ (b : Bool). cond b (on_words f (read_word x l i) (read_word y k i)) (cond (full_at f x y i) ALL 0)) e

  pub made_lt : made_word f x l y k i < 2 ^ 64
  unfolding made_word
  made_lt = by (unsettled_at f x y i) (full_at f x y i)
    where
      by : (u g : Bool) → cond u (on_words f (read_word x l i) (read_word y k i)) (cond g ALL 0) < 2 ^ 64
      by true g = on_lt f (read_word x l i) (read_word y k i)
      by false true = omega arith
      by false false = omega arith

  module _ (u : unsettled_at f x y i ≡ true) where
    pub made_pair : mixed_at x i ≡ true → mixed_at y i ≡ true → made_word f x l y k i ≡ pair_word f l k i
    made_pair p q = made_unsettled u ∙ ap₂ (on_words f) (read_mixed x l i p) (read_mixed y k i q)

    -- stored on one side: kept or turned over, as the rule has it
    module _ (h : i < 64) where
      pub made_first : get_or l i 0 < 2 ^ 64 → mixed_at x i ≡ true → mixed_at y i ≡ false → made_word f x l y k i ≡ lone_word l (on_words f 0 y.full) i
      made_first n p q =
          made_unsettled u ∙ ap₂ (on_words f) (read_mixed x l i p) (read_even y k i q)
          ∙ kept_or_turned f (bit y.full i) (get_or l i 0) n (second_even f _ _ _ _ u q)
          ∙ ap (λ (b : Bool). cond b (ALL - get_or l i 0) (get_or l i 0)) (sym (on_bit f 0 y.full i h ∙ ap (λ (z : Bool). f z (bit y.full i)) (bit_zero i)))

      pub made_second : get_or k i 0 < 2 ^ 64 → mixed_at x i ≡ false → mixed_at y i ≡ true → made_word f x l y k i ≡ lone_word k (on_words f x.full 0) i
      made_second n p q =
          made_unsettled u ∙ ap₂ (on_words f) (read_even x l i p) (read_mixed y k i q) ∙ exchanged_words f _ _
          ∙ kept_or_turned (exchanged f) (bit x.full i) (get_or k i 0) n (first_even f _ _ _ _ u p)
          ∙ ap (λ (b : Bool). cond b (ALL - get_or k i 0) (get_or k i 0)) (sym (on_bit f x.full 0 i h ∙ ap (f (bit x.full i)) (bit_zero i)))

-- a settled word is all ones or 0
full_some : (g : Bool) → not (eqb (cond g ALL 0) 0) ≡ g
full_some true = refl
full_some false = refl

full_all : (g : Bool) → eqb (cond g ALL 0) ALL ≡ g
full_all true = refl
full_all false = refl

full_ones : (g : Bool) → ones (cond g ALL 0) ≡ cond g 64 0
full_ones true = ones-ones 64
full_ones false = ones-ones 0

-- ---- the words of a block, from those of each kind

module _ (f : Rule) (x : Masks) (l : List ℕ) (y : Masks) (k st : List ℕ) (few : length st ≤ 64) (r : Split) (s : Splits f x y (2 ^ length st - 1) r)
    (hr : r.unsettled < 2 ^ 64) (hx : x.nonzero < 2 ^ 64) (ha : x.full < 2 ^ 64) (hy : y.nonzero < 2 ^ 64) (hb : y.full < 2 ^ 64) where
  abbrev w : ℕ → ℕ
  w i = made_word f x l y k i

  abbrev U : ℕ → Bool
  U i = unsettled_at f x y i

  -- the three kinds, as the code has them
  abbrev pub pairs : ℕ
  pairs = bit_and (bit_and r.unsettled (minus x.nonzero x.full)) (minus y.nonzero y.full)

  abbrev pub of_first : ℕ
  of_first = minus r.unsettled (minus y.nonzero y.full)

  abbrev pub of_second : ℕ
  of_second = minus r.unsettled (minus x.nonzero x.full)

  x_mixed : (i : ℕ) → bit (minus x.nonzero x.full) i ≡ mixed_at x i
  x_mixed i = bit_without 64 x.nonzero x.full i hx ha

  y_mixed : (i : ℕ) → bit (minus y.nonzero y.full) i ≡ mixed_at y i
  y_mixed i = bit_without 64 y.nonzero y.full i hy hb

  pairs_bit : (i : ℕ) → bit pairs i ≡ ((bit r.unsettled i && mixed_at x i) && mixed_at y i)
  pairs_bit i = bit_of_and _ _ i ∙ ap₂ ◌&&◌ (bit_of_and _ _ i ∙ ap (λ (z : Bool). bit r.unsettled i && z) (x_mixed i)) (y_mixed i)

  first_bit : (i : ℕ) → bit of_first i ≡ (bit r.unsettled i && not (mixed_at y i))
  first_bit i =
      bit_without 64 r.unsettled _ i hr (lt_of_le_of_lt (and_le_l y.nonzero _) hy) ∙ ap (λ (z : Bool). bit r.unsettled i && not z) (y_mixed i)

  second_bit : (i : ℕ) → bit of_second i ≡ (bit r.unsettled i && not (mixed_at x i))
  second_bit i =
      bit_without 64 r.unsettled _ i hr (lt_of_le_of_lt (and_le_l x.nonzero _) hx) ∙ ap (λ (z : Bool). bit r.unsettled i && not z) (x_mixed i)

  -- each is a mask of the words that there are
  unsettled_fits : r.unsettled < 2 ^ length st
  unsettled_fits = bits_fit 64 (length st) r.unsettled hr (λ i e. (unsettled_in f x y (length st) r s i e).0)

  pub pairs_fit : pairs < 2 ^ length st
  pairs_fit = lt_of_le_of_lt (and_le_l _ _) (lt_of_le_of_lt (and_le_l _ _) unsettled_fits)

  pub first_fits : of_first < 2 ^ length st
  first_fits = lt_of_le_of_lt (and_le_l _ _) unsettled_fits

  pub second_fits : of_second < 2 ^ length st
  second_fits = lt_of_le_of_lt (and_le_l _ _) unsettled_fits

  pub full_fits : r.full < 2 ^ 64 → r.full < 2 ^ length st
  full_fits h = bits_fit 64 (length st) r.full h (λ i e. bit_below (length st) _ i (ones_lt (length st)) (and_left _ _ (and_left _ _ (sym (s.full_is i) ∙ e))))

  -- what a word of a kind is
  is_pair : (i : ℕ) → bit pairs i ≡ true → w i ≡ pair_word f l k i
  is_pair i e =
      let p = sym (pairs_bit i) ∙ e in
      let q = and_left (bit r.unsettled i && mixed_at x i) (mixed_at y i) p in
      made_pair f x l y k i (unsettled_in f x y (length st) r s i (and_left (bit r.unsettled i) (mixed_at x i) q)).1 (and_right (bit r.unsettled i) (mixed_at x i) q)
      (and_right (bit r.unsettled i && mixed_at x i) (mixed_at y i) p)

  or_other : (a b : Bool) → (a || b) ≡ true → b ≡ false → a ≡ true
  or_other true b e p = refl
  or_other false b e p = absurd (true≢false (sym e ∙ p))

  other_or : (a b : Bool) → (a || b) ≡ true → a ≡ false → b ≡ true
  other_or true b e p = absurd (true≢false p)
  other_or false b e p = e

  module _ {st₁ st₂ st₃ : List ℕ} {made : Paired} {n₁ n₂ : ℕ} (hf : r.full < 2 ^ 64) (hn : made.even.empty < 2 ^ 64) (hm : made.even.full < 2 ^ 64)
      (p : MakesPairs f l k pairs st st₁ made) (a : MakesLone l (on_words f 0 y.full) of_first st₁ st₂ n₁) (b : MakesLone k (on_words f x.full 0) of_second st₂ st₃ n₂) where
    is_first : (i : ℕ) → bit of_first i ≡ true → w i ≡ lone_word l (on_words f 0 y.full) i
    is_first i e =
        let p = sym (first_bit i) ∙ e in
        let u = unsettled_in f x y (length st) r s i (and_left (bit r.unsettled i) _ p) in
        let q = not-true (mixed_at y i) (and_right (bit r.unsettled i) _ p) in
        made_first f x l y k i u.1 (omega (arith, u.0, few)) (a.known i) (or_other (mixed_at x i) (mixed_at y i) (some_mixed f x y i u.1) q) q

    is_second : (i : ℕ) → bit of_second i ≡ true → w i ≡ lone_word k (on_words f x.full 0) i
    is_second i e =
        let p = sym (second_bit i) ∙ e in
        let u = unsettled_in f x y (length st) r s i (and_left (bit r.unsettled i) _ p) in
        let q = not-true (mixed_at x i) (and_right (bit r.unsettled i) _ p) in
        made_second f x l y k i u.1 (omega (arith, u.0, few)) (b.known i) q (other_or (mixed_at x i) (mixed_at y i) (some_mixed f x y i u.1) q)

    -- ---- the sums

    unsettled_sum : sum_over (bit r.unsettled) (λ i. ones (w i)) 0 64 ≡ made.population + n₁ + n₂
    unsettled_sum =
        let t : ℕ → ℕ = λ i. ones (w i) in
        let u : ℕ → Bool = bit r.unsettled in
        let X : ℕ → Bool = mixed_at x in
        let Y : ℕ → Bool = mixed_at y in
        let z₁ : sum_over (λ i. u i && not (Y i)) t 0 64 ≡ n₁ =
        over_ext (λ i. u i && not (Y i)) (bit of_first) t 0 64 (λ i _ _. sym (first_bit i))
        ∙ over_terms (bit of_first) t (λ i. ones (lone_word l (on_words f 0 y.full) i)) 0 64 (λ i _ _ e. ap ones (is_first i e)) ∙ sym a.counted
        in
        let z₂ : sum_over (λ i. (u i && Y i) && not (X i)) t 0 64 ≡ n₂ =
        over_ext (λ i. (u i && Y i) && not (X i)) (bit of_second) t 0 64 (λ i _ _. second_of i (u i) refl ∙ sym (second_bit i))
        ∙ over_terms (bit of_second) t (λ i. ones (lone_word k (on_words f x.full 0) i)) 0 64 (λ i _ _ e. ap ones (is_second i e)) ∙ sym b.counted
        in
        let z₃ : sum_over (λ i. (u i && Y i) && X i) t 0 64 ≡ made.population =
        over_ext (λ i. (u i && Y i) && X i) (bit pairs) t 0 64
        (λ i _ _. same₃ (λ c d e. (c && d) && e) (λ c d e. (c && e) && d) tt (u i) (Y i) (X i) ∙ sym (pairs_bit i))
        ∙ over_terms (bit pairs) t (λ i. ones (pair_word f l k i)) 0 64 (λ i _ _ e. ap ones (is_pair i e)) ∙ sym p.counted
        in
        omega (arith, over_diff u Y t 0 64, over_diff (λ i. u i && Y i) X t 0 64, z₁, z₂, z₃)
      where
        second_of : (i : ℕ) (c : Bool) → bit r.unsettled i ≡ c → ((bit r.unsettled i && mixed_at y i) && not (mixed_at x i)) ≡ (bit r.unsettled i && not (mixed_at x i))
        second_of i true e =
            let z = some_mixed f x y i (unsettled_in f x y (length st) r s i e).1 in
            rw e (both (mixed_at x i) (mixed_at y i) z)
          where
            both : (c d : Bool) → (c || d) ≡ true → (d && not c) ≡ not c
            both true d z = same₁ (λ v. v && false) (λ v. false) tt d
            both false true z = refl
            both false false z = absurd (false≢true z)
        second_of i false e = rw e refl

    sum : 64 * ones r.full + made.population + n₁ + n₂ ≡ sum_over (bit (2 ^ length st - 1)) (λ i. ones (w i)) 0 64
    sum =
        omega (
          arith,
          unsettled_sum,
          split_sum f x y (length st) r s (λ i. ones (w i)) (λ i. 64) (λ i c u. ap ones (made_settled f x l y k i u) ∙ full_ones (full_at f x y i)),
          walk_const 64 (λ i. 64) r.full 64 hf (λ i c u. refl),
        )

    most : sum_over (bit (2 ^ length st - 1)) (λ i. ones (w i)) 0 64 ≤ 4096
    most = ones_most (2 ^ length st - 1) w (λ i. made_lt f x l y k i)

    -- ---- the masks, by the kind of each word

    full_bit : (i : ℕ) → i < length st → bit r.full i ≡ (not (U i) && full_at f x y i)
    full_bit i c = s.full_is i ∙ ap (λ (z : Bool). (z && not (U i)) && full_at f x y i) (valid_at f x y (length st) r s i c)

    -- a truth of a word by its mask bit: of the settled word, of a lone one, and of a pair
    nonzero_bit : (i : ℕ) → i < length st → bit (bit_or r.full (minus r.unsettled made.even.empty)) i ≡ (lone_at f x y i || not (eqb (w i) 0))
    nonzero_bit i c =
        bit_of_or _ _ i
        ∙ ap₂ ◌||◌ (full_bit i c)
        (bit_without 64 r.unsettled made.even.empty i hr hn
        ∙ ap₂ (λ (a b : Bool). a && not b) here
        (ap (λ (z : ℕ). bit z i) p.empty_is ∙ mask_at 64 _ i (omega (arith, c, few))
        ∙ ap (λ (z : Bool). z && eqb (pair_word f l k i) 0) (pairs_bit i ∙ ap (λ (z : Bool). (z && mixed_at x i) && mixed_at y i) here)))
        ∙ by (U i) refl (mixed_at x i) refl (mixed_at y i) refl
      where
        here : bit r.unsettled i ≡ U i
        here = unsettled_here f x y (length st) r s i c

        by : (u : Bool) → U i ≡ u → (m : Bool) → mixed_at x i ≡ m → (o : Bool) → mixed_at y i ≡ o
            → ((not u && full_at f x y i) || (u && not (((u && m) && o) && eqb (pair_word f l k i) 0))) ≡ ((u && not (m && o)) || not (eqb (w i) 0))
        by false e m d o g =
            same₁ (λ z. z || false) (λ z. z) tt (full_at f x y i)
            ∙ sym (ap (λ (z : ℕ). not (eqb z 0)) (made_settled f x l y k i e) ∙ full_some (full_at f x y i))
        by true e true d true g = sym (ap (λ (z : ℕ). not (eqb z 0)) (made_pair f x l y k i e d g))
        by true e true d false g = refl
        by true e false d true g = refl
        by true e false d false g = refl

    full_mask_bit : (i : ℕ) → i < length st → bit (bit_or r.full made.even.full) i ≡ (not (lone_at f x y i) && eqb (w i) ALL)
    full_mask_bit i c =
        bit_of_or _ _ i
        ∙ ap₂ ◌||◌ (full_bit i c)
        (ap (λ (z : ℕ). bit z i) p.full_is ∙ mask_at 64 _ i (omega (arith, c, few))
        ∙ ap (λ (z : Bool). z && eqb (pair_word f l k i) ALL) (pairs_bit i ∙ ap (λ (z : Bool). (z && mixed_at x i) && mixed_at y i) (unsettled_here f x y (length st) r s i c)))
        ∙ by (U i) refl (mixed_at x i) refl (mixed_at y i) refl
      where
        by : (u : Bool) → U i ≡ u → (m : Bool) → mixed_at x i ≡ m → (o : Bool) → mixed_at y i ≡ o
            → ((not u && full_at f x y i) || (((u && m) && o) && eqb (pair_word f l k i) ALL)) ≡ (not (u && not (m && o)) && eqb (w i) ALL)
        by false e m d o g =
            same₁ (λ z. z || false) (λ z. z) tt (full_at f x y i)
            ∙ sym (ap (λ (z : ℕ). eqb z ALL) (made_settled f x l y k i e) ∙ full_all (full_at f x y i))
        by true e true d true g = sym (ap (λ (z : ℕ). eqb z ALL) (made_pair f x l y k i e d g))
        by true e true d false g = refl
        by true e false d true g = refl
        by true e false d false g = refl

    -- ---- the words written

    written : (i : ℕ) → i < length st → U i ≡ true → get_or st₃ i 0 ≡ w i
    written i c u =
        b.puts.put i (omega (arith, a.puts.same_length, p.puts.same_length))
        ∙ ap₂ (λ (z : Bool) (v : ℕ). cond z (lone_word k (on_words f x.full 0) i) v) (second_bit i ∙ ap (λ (z : Bool). z && not (mixed_at x i)) here)
        (a.puts.put i (omega (arith, p.puts.same_length))
        ∙ ap₂ (λ (z : Bool) (v : ℕ). cond z (lone_word l (on_words f 0 y.full) i) v) (first_bit i ∙ ap (λ (z : Bool). z && not (mixed_at y i)) here)
        (p.puts.put i c ∙ ap (λ (z : Bool). cond z (pair_word f l k i) (get_or st i 0)) (pairs_bit i ∙ ap (λ (z : Bool). (z && mixed_at x i) && mixed_at y i) here)))
        ∙ by (mixed_at x i) refl (mixed_at y i) refl
      where
        here : bit r.unsettled i ≡ true
        here = unsettled_here f x y (length st) r s i c ∙ u

        by : (m : Bool) → mixed_at x i ≡ m → (o : Bool) → mixed_at y i ≡ o
            → cond (not m) (lone_word k (on_words f x.full 0) i) (cond (not o) (lone_word l (on_words f 0 y.full) i) (cond (m && o) (pair_word f l k i) (get_or st i 0))) ≡ w i
        by true d true g = sym (made_pair f x l y k i u d g)
        by true d false g = sym (made_first f x l y k i u (omega (arith, c, few)) (a.known i) d g)
        by false d true g = sym (made_second f x l y k i u (omega (arith, c, few)) (b.known i) d g)
        by false d false g = absurd (false≢true (sym (ap₂ ◌||◌ d g) ∙ some_mixed f x y i u))

    pub words_made : MakesWords f x l y k st st₃
        (record {
          masks = record {
            nonzero = bit_or r.full (minus r.unsettled made.even.empty);
            full = bit_or r.full made.even.full;
          };
          population = ones r.full * 64 + made.population + n₁ + n₂;
        })
    words_made =
        record {
          same_length = b.puts.same_length ∙ a.puts.same_length ∙ p.puts.same_length;
          summed = record {
            nonzero_is = mask_of (length st) _ _ (or_lt (length st) _ _ (full_fits hf) (lt_of_le_of_lt (and_le_l _ _) unsettled_fits)) nonzero_bit;
            full_is = mask_of (length st) _ _ (or_lt (length st) _ _ (full_fits hf) (met _ _ hm p.full_is)) full_mask_bit;
            counted = omega (arith, sum);
            few = omega (arith, sum, most);
          };
          stored = written;
        }
      where
        -- what is gathered of the pairs is a mask of the words that there are
        met : (g : ℕ → Bool) (z : ℕ) → z < 2 ^ 64 → z ≡ mask 64 (λ i. bit pairs i && g i) → z < 2 ^ length st
        met g z h e =
            bits_fit 64 (length st) z h
            (λ i d. bit_below (length st) pairs i pairs_fit (and_left (bit pairs i) (g i) (mask_true 64 _ i (ap (λ (c : ℕ). bit c i) (sym e) ∙ d)).1))
