-- The searches: what the lowest bit of a candidate mask is, and that `bits_from` and `next_after` stop at the first position
-- of the value sought: one law for each return; and a run from two of them. Assumes nothing.
use Rattle.range_bitset.proofs.Kit.{◌≡◌, refl, ap, sym, ◌∙◌, ◌≢◌, Bool, true, false, not, Bool·not-not, ◌&&◌, cond, true≢false, List, ℕ, zero, suc, ◌+◌, ◌*◌, ◌-◌, ◌/◌, ◌%◌, ◌^◌, ◌≤◌, ◌<◌, le_refl, lt_of_le_of_lt, lt_of_lt_of_le, add-zero, add-suc, dec_lt, arith, ltb, leb, bit_and, and_le_l, count_trailing_zeros, trailing_le, pow_mono, not-true, not-false, leb-true}
use Rattle.std.specs.Prelude.{min}
use Rattle.positions.specs.Positions.{Positions}
use Rattle.positions.proofs.Bools.{and_left, and_right}
use Rattle.positions.proofs.Ranges.{within_in}
use Rattle.positions.specs.Walks.{Lacks, Stops}
use Rattle.positions.proofs.Searches.{stops_to}
use Rattle.bits.specs.Bit.{bit}
use Rattle.bits.proofs.Bits.{bit_zero, bit_of_and, bit_not, bit_below}
use Rattle.bits.proofs.Ones.{tz_below, tz_bit, tz_lt, tz_set}
use Rattle.range_bitset.specs.Layout.{blocks, words_of}
use Rattle.range_bitset.specs.Read.{ALL, word_read}
use Rattle.range_bitset.specs.Represents.{word_of, closed, Stored}
use Rattle.range_bitset.specs.Inner.{Spans, Marks, word_start, block_start, CandidateWords, CandidateBlocks, NextInWord, NextFrom, NextAfter, RunFrom, RunAfter, Passes}
use Rattle.range_bitset.proofs.SetWords.{word_lt, word_bit, word_is}

-- ---- ranges that lack a value

pub lacks_join : (s : Positions) (v : Bool) (a b c : ℕ) → Lacks s v a b → Lacks s v b c → Lacks s v a c
lacks_join s v a b c f g i l u = by (dec_lt i b)
  where
    by : Dec (i < b) → s i ≡ not v
    by (yes h) = f i l h
    by (no h) = g i (omega arith) u

-- parts that lack it, one after the other
lacks_more : (s : Positions) (v : Bool) (start : ℕ → ℕ) (a m : ℕ) → ((j : ℕ) → a ≤ j → j < a + m → Lacks s v (start j) (start (suc j))) → Lacks s v (start a) (start (a + m))
lacks_more s v start a zero e = λ i l u. absurd (omega (arith, ap start (add-zero a)))
lacks_more s v start a (suc m) e =
    rw (add-suc a m)
    (lacks_join s v (start a) (start (a + m)) (start (suc (a + m)))
    (lacks_more s v start a m (λ j l u. e j l (omega arith)))
    (e (a + m) (omega arith) (omega arith)))

-- from part a to part t
pub lacks_parts : (s : Positions) (v : Bool) (start : ℕ → ℕ) (a t : ℕ) → a ≤ t → ((j : ℕ) → a ≤ j → j < t → Lacks s v (start j) (start (suc j))) → Lacks s v (start a) (start t)
lacks_parts s v start a t l e =
    let q : a + (t - a) ≡ t = omega arith in
    rw q at (lacks_more s v start a (t - a) (λ j u w. e j u (omega arith)))

-- parts whose bits are clear
pub skip_to : (s : Positions) (v : Bool) (n : ℕ) (start : ℕ → ℕ) (r : ℕ) → Marks s v n start r → (a t : ℕ) → a ≤ t → t ≤ n
    → ((j : ℕ) → a ≤ j → j < t → bit r j ≡ false) → Lacks s v (start a) (start t)
skip_to s v n start r k a t l h e = lacks_parts s v start a t l (λ j u w. k.lacks j (omega arith) (e j u w))

-- ---- the lowest set bit at or above place a

pub record Lowest (x a t : ℕ) : Type 0 where
  pub low : a ≤ t
  pub high : t < 64
  pub set : bit x t ≡ true
  pub clear : (i : ℕ) → a ≤ i → i < t → bit x i ≡ false

pub and_clear : (x y : Bool) → (x && y) ≡ false → y ≡ true → x ≡ false
and_clear true y e q = absurd (true≢false (sym q ∙ e))
and_clear false y e q = refl

module _ (x y a : ℕ) (h : x < 2 ^ 64) (l : Spans y a 64) where
  pub lowest_masked : bit_and x y ≢ 0 → Lowest x a (count_trailing_zeros 64 (bit_and x y))
  lowest_masked ne =
      let f : bit_and x y < 2 ^ 64 = lt_of_le_of_lt (and_le_l x y) h in
      let t = count_trailing_zeros 64 (bit_and x y) in
      let u : t < 64 = tz_lt 64 (bit_and x y) ne f in
      let e : (bit x t && bit y t) ≡ true = sym (bit_of_and x y t) ∙ tz_set 64 (bit_and x y) ne f in
      record {
        low = leb-true a t (and_left (leb a t) (ltb t 64) (sym (l t) ∙ and_right (bit x t) (bit y t) e));
        high = u;
        set = and_left (bit x t) (bit y t) e;
        clear = λ i p q.
            and_clear (bit x i) (bit y i) (sym (bit_of_and x y i) ∙ tz_below 64 (bit_and x y) i q)
            (l i ∙ within_in a 64 i p (omega arith));
      }

  pub none_masked : bit_and x y ≡ 0 → (i : ℕ) → a ≤ i → i < 64 → bit x i ≡ false
  none_masked e i p q =
      and_clear (bit x i) (bit y i) (sym (bit_of_and x y i) ∙ ap (λ (z : ℕ). bit z i) e ∙ bit_zero i) (l i ∙ within_in a 64 i p q)

pub lowest_whole : (x : ℕ) → x < 2 ^ 64 → x ≢ 0 → Lowest x 0 (count_trailing_zeros 64 x)
lowest_whole x h ne =
    record {
      low = omega arith;
      high = tz_lt 64 x ne h;
      set = tz_set 64 x ne h;
      clear = λ i p q. tz_below 64 x i q;
    }

-- ---- the bits of a word that have the value

hit_of : (v x : Bool) → cond v x (not x) ≡ true → x ≡ v
hit_of true x e = e
hit_of false x e = not-true x e

miss_of : (v x : Bool) → cond v x (not x) ≡ false → x ≡ not v
miss_of true x e = e
miss_of false x e = not-false x e

valued_bit : (v : Bool) (w i : ℕ) → w < 2 ^ 64 → i < 64 → bit (cond v w (ALL - w)) i ≡ cond v (bit w i) (not (bit w i))
valued_bit true w i h l = refl
valued_bit false w i h l = bit_not 64 w i h l

-- the bits of m are the positions of word k that have the value v
abbrev pub Valued : ℕ → List ℕ → ℕ → Bool → ℕ → Type 0
Valued W st k v m = (s : Positions) → Stored W st s → (i : ℕ) → i < 64 → bit m i ≡ cond v (s (64 * k + i)) (not (s (64 * k + i)))

-- what `word_bits` gives, and its complement
pub valued : (W : ℕ) (st : List ℕ) (k : ℕ) (v : Bool) (m : ℕ) → k < W → m ≡ cond v (word_read W st k) (ALL - word_read W st k) → Valued W st k v m
valued W st k v m l e s h i u =
    ap (λ (x : ℕ). bit x i) (e ∙ ap (λ (x : ℕ). cond v x (ALL - x)) (word_is W st s closed h k l))
    ∙ valued_bit v (word_of s k) i (word_lt s k) u ∙ ap (λ (x : Bool). cond v x (not x)) (word_bit s k i u)

pub valued_not : (W : ℕ) (st : List ℕ) (k : ℕ) (v : Bool) (m : ℕ) → m < 2 ^ 64 → Valued W st k v m → Valued W st k (not v) (ALL - m)
valued_not W st k v m l z s h i u = bit_not 64 m i l u ∙ ap not (z s h i u) ∙ turned v (s (64 * k + i))
  where
    turned : (v x : Bool) → not (cond v x (not x)) ≡ cond (not v) x (not x)
    turned true x = refl
    turned false x = Bool·not-not x

module _ (W : ℕ) (st : List ℕ) (k : ℕ) (v : Bool) (m : ℕ) (z : Valued W st k v m) where
  -- position i, of word k, by its bit
  hit : (s : Positions) → Stored W st s → (i : ℕ) → 64 * k ≤ i → i < 64 * k + 64 → bit m (i - 64 * k) ≡ true → s i ≡ v
  hit s h i p q t =
      let w : 64 * k + (i - 64 * k) ≡ i = omega arith in
      ap s (sym w) ∙ hit_of v (s (64 * k + (i - 64 * k))) (sym (z s h (i - 64 * k) (omega arith)) ∙ t)

  miss : (s : Positions) → Stored W st s → (i : ℕ) → 64 * k ≤ i → i < 64 * k + 64 → bit m (i - 64 * k) ≡ false → s i ≡ not v
  miss s h i p q t =
      let w : 64 * k + (i - 64 * k) ≡ i = omega arith in
      ap s (sym w) ∙ miss_of v (s (64 * k + (i - 64 * k))) (sym (z s h (i - 64 * k) (omega arith)) ∙ t)

  -- `first_in_word`
  pub first_in_word : NextInWord W k v st (k * 64 + count_trailing_zeros 64 m)
  first_in_word =
      let t = count_trailing_zeros 64 m in
      let d : k * 64 + t - 64 * k ≡ t = omega arith in
      record {
        low = omega arith;
        high = omega (arith, trailing_le 64 m);
        stops = λ s h.
            record {
              low = omega arith;
              high = omega (arith, trailing_le 64 m);
              passed = λ i p q. miss s h i p (omega (arith, trailing_le 64 m)) (tz_below 64 m (i - 64 * k) (omega arith));
              found = λ u. hit s h (k * 64 + t) (omega arith) u (rw d (tz_bit 64 m (omega arith)));
            };
      }

-- ---- the returns of `bits_from` and `next_after`

module _ (W : ℕ) (st : List ℕ) (a : ℕ) (v : Bool) (l : a < 64 * W) where
  abbrev pub Passed : ℕ → Type 0
  Passed e = Passes W st a v e

  -- in the first word
  module _ (m y : ℕ) (f : m < 2 ^ 64) (z : Valued W st (a / 64) v m) (g : Spans y (a % 64) 64) where
    pub in_first : bit_and m y ≢ 0 → NextFrom W a v st (a / 64 * 64 + count_trailing_zeros 64 (bit_and m y))
    in_first ne =
        let t = count_trailing_zeros 64 (bit_and m y) in
        let o = lowest_masked m y (a % 64) f g ne in
        let p = o.low in
        let q = o.high in
        let d : a / 64 * 64 + t - 64 * (a / 64) ≡ t = omega arith in
        record {
          low = omega arith;
          high = omega arith;
          stops = λ s h.
              record {
                low = omega arith;
                high = omega arith;
                passed = λ i u w. miss W st (a / 64) v m z s h i (omega arith) (omega arith) (o.clear (i - 64 * (a / 64)) (omega arith) (omega arith));
                found = λ u. hit W st (a / 64) v m z s h (a / 64 * 64 + t) (omega arith) (omega arith) (rw d o.set);
              };
        }

    pub not_in_first : bit_and m y ≡ 0 → Passed (64 * suc (a / 64))
    not_in_first e s h i u w =
        miss W st (a / 64) v m z s h i (omega arith) (omega arith)
        (none_masked m y (a % 64) f g e (i - 64 * (a / 64)) (omega arith) (omega arith))

  -- a word k that has the value, and nothing of it before that word
  lands : (k r : ℕ) → k < W → a ≤ 64 * k → NextInWord W k v st r → (s : Positions) → Stored W st s → Lacks s v a (64 * k)
      → (Lacks s v (64 * k) (64 * suc k) → ⊥) → Stops s v a (64 * W) r
  lands k r u w n s h p q =
      let z = n.stops s h in
      let e : r ≤ 64 * k + 64 = z.high in
      record {
        low = omega (arith, z.low);
        high = omega arith;
        passed = lacks_join s v a (64 * k) r p z.passed;
        found = λ x. z.found (by (dec_lt r (64 * k + 64)));
      }
    where
      by : Dec (r < 64 * k + 64) → r < 64 * k + 64
      by (yes d) = d
      by (no d) = absurd (q (λ i x y. (n.stops s h).passed i x (omega arith)))

  -- nothing before the capacity
  ends : Passed (64 * W) → NextFrom W a v st (W * 64)
  ends h =
      record {
        low = omega arith;
        high = omega arith;
        stops = λ s z.
            record {
              low = omega arith;
              high = omega arith;
              passed = λ i u w. h s z i u (omega arith);
              found = λ u. absurd (omega arith);
            };
      }

  -- past the first word: x has the candidate words of its block
  module _ (x y : ℕ) (c : CandidateWords W (a / 64 / 64) v st x) (g : Spans y (a / 64 % 64 + 1) 64) where
    wide : x < 2 ^ 64
    wide = let n : words_of W (a / 64 / 64) ≤ 64 = omega arith in lt_of_lt_of_le c.fits (pow_mono n)

    -- up to word t of the block
    to_word : Passed (64 * suc (a / 64)) → (t : ℕ) → a / 64 % 64 + 1 ≤ t → t ≤ words_of W (a / 64 / 64) → ((j : ℕ) → a / 64 % 64 + 1 ≤ j → j < t → bit x j ≡ false)
        → Passed (word_start (a / 64 / 64) t)
    to_word o t p q e s h =
        lacks_join s v a (word_start (a / 64 / 64) (a / 64 % 64 + 1)) (word_start (a / 64 / 64) t) (λ i u w. o s h i u (omega arith))
        (skip_to s v (words_of W (a / 64 / 64)) (word_start (a / 64 / 64)) x (c.marks s h) (a / 64 % 64 + 1) t p q e)

    module _ (ne : bit_and x y ≢ 0) where
      found_word : Lowest x (a / 64 % 64 + 1) (count_trailing_zeros 64 (bit_and x y))
      found_word = lowest_masked x y (a / 64 % 64 + 1) wide g ne

      own : count_trailing_zeros 64 (bit_and x y) < words_of W (a / 64 / 64)
      own = bit_below (words_of W (a / 64 / 64)) x (count_trailing_zeros 64 (bit_and x y)) c.fits found_word.set

      pub word_there : a / 64 / 64 * 64 + count_trailing_zeros 64 (bit_and x y) < W
      word_there = let h = own in omega arith

      pub in_same_block : Passed (64 * suc (a / 64)) → (r : ℕ) → NextInWord W (a / 64 / 64 * 64 + count_trailing_zeros 64 (bit_and x y)) v st r → NextFrom W a v st r
      in_same_block o r n =
          let t = count_trailing_zeros 64 (bit_and x y) in
          let p = found_word.low in
          let q = own in
          record {
            low = omega (arith, n.low);
            high = omega (arith, n.high, word_there);
            stops = λ s h.
                lands (a / 64 / 64 * 64 + t) r word_there (omega arith) n s h
                (λ i u w. to_word o t p (omega arith) found_word.clear s h i u (omega arith))
                (λ d. (c.marks s h).has t q found_word.set (λ i u w. d i (omega arith) (omega arith)));
          }

    -- past the block
    pub past : bit_and x y ≡ 0 → Passed (64 * suc (a / 64)) → Passed (block_start W (a / 64 / 64 + 1))
    past z o s h i u w =
        to_word o (words_of W (a / 64 / 64)) (omega arith) (omega arith)
        (λ j p q. none_masked x y (a / 64 % 64 + 1) wide g z j p (omega arith)) s h i u (omega arith)

  -- past the first block: x has the candidate blocks
  module _ (c : W ≤ 4096) (x y : ℕ) (d : CandidateBlocks W v st x) (g : Spans y (a / 64 / 64 + 1) 64) where
    broad : x < 2 ^ 64
    broad = let n : blocks W ≤ 64 = omega arith in lt_of_lt_of_le d.fits (pow_mono n)

    -- up to block t
    to_block : Passed (block_start W (a / 64 / 64 + 1)) → (t : ℕ) → a / 64 / 64 + 1 ≤ t → t ≤ blocks W → ((j : ℕ) → a / 64 / 64 + 1 ≤ j → j < t → bit x j ≡ false)
        → Passed (block_start W t)
    to_block o t p q e s h =
        lacks_join s v a (block_start W (a / 64 / 64 + 1)) (block_start W t) (o s h)
        (skip_to s v (blocks W) (block_start W) x (d.marks s h) (a / 64 / 64 + 1) t p q e)

    pub no_block : bit_and x y ≡ 0 → Passed (block_start W (a / 64 / 64 + 1)) → NextFrom W a v st (W * 64)
    no_block z o =
        ends
        (λ s h i u w.
        to_block o (blocks W) (omega arith) (le_refl (blocks W))
        (λ j p q. none_masked x y (a / 64 / 64 + 1) broad g z j p (omega arith)) s h i u (omega arith))

    module _ (ne : bit_and x y ≢ 0) where
      found_block : Lowest x (a / 64 / 64 + 1) (count_trailing_zeros 64 (bit_and x y))
      found_block = lowest_masked x y (a / 64 / 64 + 1) broad g ne

      pub block_there : count_trailing_zeros 64 (bit_and x y) < blocks W
      block_there = bit_below (blocks W) x (count_trailing_zeros 64 (bit_and x y)) d.fits found_block.set

      -- the words of the block that was found
      module _ (w : ℕ) (k : CandidateWords W (count_trailing_zeros 64 (bit_and x y)) v st w) where
        -- no storage that holds a set gives none
        pub none_in_block : w ≡ 0 → NextFrom W a v st (W * 64)
        none_in_block z =
            let b = count_trailing_zeros 64 (bit_and x y) in
            let q = block_there in
            ends
            (λ s h.
            absurd
            ((d.marks s h).has b q found_block.set
            (λ i u e.
            skip_to s v (words_of W b) (word_start b) w (k.marks s h) 0 (words_of W b) (omega arith) (le_refl (words_of W b))
            (λ j p r. ap (λ (n : ℕ). bit n j) z ∙ bit_zero j) i (omega arith) (omega arith))))

        module _ (nz : w ≢ 0) where
          low_word : Lowest w 0 (count_trailing_zeros 64 w)
          low_word =
              let n : words_of W (count_trailing_zeros 64 (bit_and x y)) ≤ 64 = omega arith in
              lowest_whole w (lt_of_lt_of_le k.fits (pow_mono n)) nz

          own_word : count_trailing_zeros 64 w < words_of W (count_trailing_zeros 64 (bit_and x y))
          own_word = bit_below (words_of W (count_trailing_zeros 64 (bit_and x y))) w (count_trailing_zeros 64 w) k.fits low_word.set

          pub later_there : count_trailing_zeros 64 (bit_and x y) * 64 + count_trailing_zeros 64 w < W
          later_there = let h = own_word in omega arith

          pub in_later_block : Passed (block_start W (a / 64 / 64 + 1)) → (r : ℕ) → NextInWord W (count_trailing_zeros 64 (bit_and x y) * 64 + count_trailing_zeros 64 w) v st r → NextFrom W a v st r
          in_later_block o r n =
              let b = count_trailing_zeros 64 (bit_and x y) in
              let t = count_trailing_zeros 64 w in
              let p = found_block.low in
              let q = block_there in
              let e = own_word in
              record {
                low = omega (arith, n.low);
                high = omega (arith, n.high, later_there);
                stops = λ s h.
                    lands (b * 64 + t) r later_there (omega arith) n s h
                    (lacks_join s v a (block_start W b) (64 * (b * 64 + t)) (to_block o b p (omega arith) found_block.clear s h)
                    (λ i u z.
                    skip_to s v (words_of W b) (word_start b) w (k.marks s h) 0 t (omega arith) (omega arith) low_word.clear i (omega arith) (omega arith)))
                    (λ f. (k.marks s h).has t e low_word.set (λ i u z. f i (omega arith) (omega arith)));
              }

-- ---- a walk to the capacity, seen up to e; and one that has found nothing up to there

module _ (W : ℕ) (st : List ℕ) (a e : ℕ) (v : Bool) (h : a ≤ e) where
  pub up_to : (p : ℕ) → e ≤ 64 * W → NextFrom W a v st p → (s : Positions) → Stored W st s → Stops s v a e (min p e)
  up_to p l n s t = stops_to s v a (64 * W) e p h l (n.stops s t)

  none_up_to : (c : ℕ) → e ≤ c → Passes W st a v c → (s : Positions) → Stored W st s → Stops s v a e (min e e)
  none_up_to c l o s t =
      record { low = omega arith; high = omega arith; passed = λ i u w. o s t i u (omega arith); found = λ u. absurd (omega arith) }

-- ---- the returns of `run_from`: m has the bits of its word, and the run starts at p

module _ (W : ℕ) (st : List ℕ) (a e : ℕ) (v : Bool) (h : a < e) (l : e ≤ 64 * W) (m y : ℕ) (f : m < 2 ^ 64)
    (b : m ≡ cond v (word_read W st (a / 64)) (ALL - word_read W st (a / 64))) (g : Spans y (a % 64) 64) where
  its_bits : Valued W st (a / 64) v m
  its_bits = valued W st (a / 64) v m (omega arith) b

  pub no_start : bit_and m y ≡ 0 → Passes W st a v (64 * suc (a / 64))
  no_start = not_in_first W st a v (omega arith) m y f its_bits g

  -- nor is there one up to the next word
  pub run_none : bit_and m y ≡ 0 → e ≤ 64 * (a / 64) + 64 → RunFrom W a e v st e e
  run_none z k =
      record { low = omega arith; start = none_up_to W st a e v (omega arith) (64 * suc (a / 64)) (omega arith) (no_start z); end = λ u. absurd (omega arith) }

  module _ (ne : bit_and m y ≢ 0) where
    abbrev pub p : ℕ
    p = a / 64 * 64 + count_trailing_zeros 64 (bit_and m y)

    same_word : p / 64 ≡ a / 64
    same_word = let t = (lowest_masked m y (a % 64) f g ne).high in omega arith

    pub start_there : p < 64 * W
    start_there = omega (arith, same_word)

    starts : NextFrom W a v st p
    starts = in_first W st a v (omega arith) m y f its_bits g ne

    run_to : (q : ℕ) → (p < e → (s : Positions) → Stored W st s → Stops s (not v) p e (min q e)) → RunFrom W a e v st p q
    run_to q k = record { low = starts.low; start = up_to W st a e v (omega arith) p l starts; end = k }

    module _ (x : ℕ) (i : Spans x (p % 64) 64) where
      others : Valued W st (p / 64) (not v) (ALL - m)
      others = rw same_word (valued_not W st (a / 64) v m f its_bits)

      no_end : bit_and (ALL - m) x ≡ 0 → Passes W st p (not v) (64 * suc (p / 64))
      no_end = not_in_first W st p (not v) start_there (ALL - m) x (omega arith) others i

      pub run_in_word : bit_and (ALL - m) x ≢ 0 → RunFrom W a e v st p (a / 64 * 64 + count_trailing_zeros 64 (bit_and (ALL - m) x))
      run_in_word z =
          run_to (a / 64 * 64 + count_trailing_zeros 64 (bit_and (ALL - m) x))
          (λ u. up_to W st p e (not v) (omega arith) (a / 64 * 64 + count_trailing_zeros 64 (bit_and (ALL - m) x)) l
          (rw same_word at (in_first W st p (not v) start_there (ALL - m) x (omega arith) others i z)))

      -- up to the end of the range, which is no further than the next word
      pub run_whole : bit_and (ALL - m) x ≡ 0 → e ≤ 64 * (a / 64) + 64 → RunFrom W a e v st p e
      run_whole z k = run_to e (λ u. none_up_to W st p e (not v) (omega arith) (64 * suc (p / 64)) (omega (arith, same_word)) (no_end z))

      pub run_on : bit_and (ALL - m) x ≡ 0 → (q : ℕ) → NextAfter W p (not v) st q → RunFrom W a e v st p q
      run_on z q n = run_to q (λ u. up_to W st p e (not v) (omega arith) q l (n (no_end z)))

-- ---- the returns of `run_after`, whose search stopped at p

module _ (W : ℕ) (st : List ℕ) (a e : ℕ) (v : Bool) (p : ℕ) (h : a < e) (l : e ≤ 64 * W) (n : NextAfter W a v st p) where
  pub run_past : e ≤ p → RunAfter W a e v st e e
  run_past k o =
      record { low = omega arith; start = none_up_to W st a e v (omega arith) p k (λ s t. ((n o).stops s t).passed); end = λ u. absurd (omega arith) }

  pub run_later : (q : ℕ) → NextFrom W p (not v) st q → RunAfter W a e v st p q
  run_later q m o =
      record { low = (n o).low; start = up_to W st a e v (omega arith) p l (n o); end = λ u. up_to W st p e (not v) (omega arith) q l m }
