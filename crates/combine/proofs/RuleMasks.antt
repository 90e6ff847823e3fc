-- A rule on two words, and what it makes of the masks of two sides, bit by bit. Assumes nothing.
use Rattle.combine.proofs.Kit.{◌≡◌, refl, ap, ap₂, sym, ◌∙◌, ◌≢◌, Bool, true, false, not, ◌&&◌, ◌||◌, and-false, ℕ, ◌*◌, ◌-◌, ◌^◌, ◌%◌, ◌<◌, arith, dec_lt, eq-eqb, ne_eqb, not-false, not-true, bit_and, bit_or, or_lt, and_le_l, lt_of_le_of_lt, cond, true≢false, lt-ltb}
use Rattle.positions.specs.Positions.{differ}
use Rattle.positions.proofs.Bools.{and_right, same₁, same₂, same₃, same₄}
use Rattle.bits.specs.Bit.{bit}
use Rattle.bits.proofs.Bits.{bit_of_and, bit_of_or, bit_not, bit_beyond, bit_ones, bit_zero}
use Rattle.bits.proofs.Masks.{bit_without, test_shifted}
use Rattle.bits.proofs.Words.{mask_lt, mask_at, mask_of}
use Rattle.combine.specs.Rules.{Rule, both, either, without, on_words}
use Rattle.combine.specs.Inner.{first_settles, second_settles, settled_alone, unsettled_by, unsettled_at, full_at, Settles, Splits}
use Rattle.combine.specs.declared.rule.Masks.{Masks}

-- ---- a bit that the code tests

module _ (n j : ℕ) (h : j < 64) where
  pub bit_set : (bit_and n (1 * 2 ^ j % 2 ^ 64) ≢ 0) → bit n j ≡ true
  bit_set e = not-false (bit n j) (sym (test_shifted 64 n j h) ∙ ne_eqb _ 0 e)

  pub bit_clear : bit_and n (1 * 2 ^ j % 2 ^ 64) ≡ 0 → bit n j ≡ false
  bit_clear e = not-true (bit n j) (sym (test_shifted 64 n j h) ∙ eq-eqb _ 0 e)

-- ---- a rule on two words

module _ (f : Rule) (x y : ℕ) where
  pub on_lt : on_words f x y < 2 ^ 64
  unfolding on_words
  on_lt = mask_lt 64 _

  pub on_bit : (i : ℕ) → i < 64 → bit (on_words f x y) i ≡ f (bit x i) (bit y i)
  unfolding on_words
  on_bit i h = mask_at 64 _ i h

  -- a word is known by its bits
  pub on_is : (r : ℕ) → r < 2 ^ 64 → ((i : ℕ) → i < 64 → bit r i ≡ f (bit x i) (bit y i)) → r ≡ on_words f x y
  unfolding on_words
  on_is r h e = mask_of 64 r _ h e

pub both_is : (x y : ℕ) → x < 2 ^ 64 → bit_and x y ≡ on_words both x y
both_is x y h = on_is both x y _ (lt_of_le_of_lt (and_le_l x y) h) (λ i l. bit_of_and x y i)

pub either_is : (x y : ℕ) → x < 2 ^ 64 → y < 2 ^ 64 → bit_or x y ≡ on_words either x y
either_is x y h k = on_is either x y _ (or_lt 64 x y h k) (λ i l. bit_of_or x y i)

pub without_is : (x y : ℕ) → x < 2 ^ 64 → y < 2 ^ 64 → bit_and x ((2 ^ 64 - 1) - y) ≡ on_words without x y
without_is x y h k = on_is without x y _ (lt_of_le_of_lt (and_le_l x _) h) (λ i l. bit_without 64 x y i h k)

-- ---- what a side settles alone, by the table of each rule

module _ (x y : Masks) where
  settles : (f : Rule) (r : ℕ) → r < 2 ^ 64
      → ((i : ℕ) → i < 64 → bit r i ≡ settled_alone f (bit x.nonzero i) (bit x.full i) (bit y.nonzero i) (bit y.full i)) → Settles f x y r
  settles f r h e = mask_of 64 r _ h e

  pub both_settles : x.nonzero < 2 ^ 64 → y.nonzero < 2 ^ 64 → Settles both x y (bit_or ((2 ^ 64 - 1) - x.nonzero) ((2 ^ 64 - 1) - y.nonzero))
  both_settles h k =
      settles both _ (or_lt 64 ((2 ^ 64 - 1) - x.nonzero) ((2 ^ 64 - 1) - y.nonzero) (omega arith) (omega arith))
      (λ i l.
      bit_of_or _ _ i ∙ ap₂ ◌||◌ (bit_not 64 x.nonzero i h l) (bit_not 64 y.nonzero i k l)
      ∙ same₄ (λ n a m b. not n || not m) (settled_alone both) tt (bit x.nonzero i) (bit x.full i) (bit y.nonzero i) (bit y.full i))

  pub either_settles : x.full < 2 ^ 64 → y.full < 2 ^ 64 → Settles either x y (bit_or x.full y.full)
  either_settles h k =
      settles either _ (or_lt 64 _ _ h k)
      (λ i l. bit_of_or _ _ i ∙ same₄ (λ n a m b. a || b) (settled_alone either) tt (bit x.nonzero i) (bit x.full i) (bit y.nonzero i) (bit y.full i))

  pub without_settles : x.nonzero < 2 ^ 64 → y.full < 2 ^ 64 → Settles without x y (bit_or ((2 ^ 64 - 1) - x.nonzero) y.full)
  without_settles h k =
      settles without _ (or_lt 64 ((2 ^ 64 - 1) - x.nonzero) y.full (omega arith) k)
      (λ i l.
      bit_of_or _ _ i ∙ ap (λ (z : Bool). z || bit y.full i) (bit_not 64 x.nonzero i h l)
      ∙ same₄ (λ n a m b. not n || b) (settled_alone without) tt (bit x.nonzero i) (bit x.full i) (bit y.nonzero i) (bit y.full i))

-- ---- a part that is to be looked into, and even on one side (all clear or all set there, by its full bit): the rule tells the other side's truths apart

-- the rule with its two sides exchanged
abbrev pub exchanged : Rule → Rule
exchanged f a b = f b a

either_way : (f : Rule) (n a m b : Bool) → unsettled_by (exchanged f) m b n a ≡ unsettled_by f n a m b
either_way f n a m b =
    let swap : (x y : Bool) → (x || y) ≡ (y || x) = same₂ (λ x y. x || y) (λ x y. y || x) tt in
    ap₂ (λ (x y : Bool). x && not y) (swap (m && not b) (n && not a))
    (swap ((not m && second_settles f false) || (b && second_settles f true)) ((not n && first_settles f false) || (a && first_settles f true)))

-- even on the second side
pub second_even : (f : Rule) (n a m b : Bool) → unsettled_by f n a m b ≡ true → (m && not b) ≡ false → differ (f false b) (f true b) ≡ true
second_even f n a m b e z = by m b (none ((not n && first_settles f false) || (a && first_settles f true)) _ (not-true _ (and_right ((n && not a) || (m && not b)) _ e))) z
  where
    none : (x y : Bool) → (x || y) ≡ false → y ≡ false
    none true y q = absurd (true≢false q)
    none false y q = q

    by : (m b : Bool) → ((not m && second_settles f false) || (b && second_settles f true)) ≡ false → (m && not b) ≡ false → differ (f false b) (f true b) ≡ true
    by m true q z = not-false _ (none (not m && second_settles f false) (second_settles f true) q)
    by true false q z = absurd (true≢false z)
    by false false q z = not-false _ (sym (same₁ (λ x. x || false) (λ x. x) tt (second_settles f false)) ∙ q)

-- even on the first
pub first_even : (f : Rule) (n a m b : Bool) → unsettled_by f n a m b ≡ true → (n && not a) ≡ false → differ (f a false) (f a true) ≡ true
first_even f n a m b e z = second_even (exchanged f) m b n a (either_way f n a m b ∙ e) z

-- and so the word of the other side is kept or turned over
pub kept_or_turned : (f : Rule) (c : Bool) (x : ℕ) → x < 2 ^ 64 → differ (f false c) (f true c) ≡ true
    → on_words f x (cond c (2 ^ 64 - 1) 0) ≡ cond (f false c) ((2 ^ 64 - 1) - x) x
kept_or_turned f c x h d = sym (on_is f x (cond c (2 ^ 64 - 1) 0) _ (below (f false c)) (λ i l. bits i l (f false c) refl ∙ ap (f (bit x i)) (sym (even c i l))))
  where
    below : (b : Bool) → cond b ((2 ^ 64 - 1) - x) x < 2 ^ 64
    below true = omega arith
    below false = h

    even : (c : Bool) (i : ℕ) → i < 64 → bit (cond c (2 ^ 64 - 1) 0) i ≡ c
    even true i l = bit_ones 64 i ∙ lt-ltb i 64 l
    even false i l = bit_zero i

    value : (b v : Bool) → f false c ≡ b → cond b (not v) v ≡ f v c
    value true true e = sym (not-true (f true c) (sym (ap (λ (z : Bool). differ z (f true c)) e) ∙ d))
    value true false e = sym e
    value false true e = sym (sym (ap (λ (z : Bool). differ z (f true c)) e) ∙ d)
    value false false e = sym e

    bits : (i : ℕ) → i < 64 → (b : Bool) → f false c ≡ b → bit (cond b ((2 ^ 64 - 1) - x) x) i ≡ f (bit x i) c
    bits i l true e = bit_not 64 x i h l ∙ value true (bit x i) e
    bits i l false e = value false (bit x i) e

pub exchanged_words : (f : Rule) (x y : ℕ) → on_words f x y ≡ on_words (exchanged f) y x
unfolding on_words
exchanged_words f x y = refl

-- ---- the parts split

-- `a & !b`
abbrev pub minus : ℕ → ℕ → ℕ
minus a b = bit_and a ((2 ^ 64 - 1) - b)

pub split_is : (f : Rule) (x y : Masks) (valid s w : ℕ) → x.nonzero < 2 ^ 64 → x.full < 2 ^ 64 → y.nonzero < 2 ^ 64 → y.full < 2 ^ 64 → valid < 2 ^ 64
    → s < 2 ^ 64 → Settles f x y s → w < 2 ^ 64 → w ≡ on_words f x.full y.full
    → Splits f x y valid
    (record {
      unsettled = bit_and (minus (bit_or (minus x.nonzero x.full) (minus y.nonzero y.full)) s) valid;
      full = minus (bit_and w valid) (bit_and (minus (bit_or (minus x.nonzero x.full) (minus y.nonzero y.full)) s) valid);
    })
split_is f x y valid s w hn ha hm hb hv hs e hw q =
    record { unsettled_is = unsettled; full_is = full }
  where
    mixed_lt : bit_or (minus x.nonzero x.full) (minus y.nonzero y.full) < 2 ^ 64
    mixed_lt = or_lt 64 _ _ (lt_of_le_of_lt (and_le_l x.nonzero _) hn) (lt_of_le_of_lt (and_le_l y.nonzero _) hm)

    mixed : (i : ℕ) → bit (bit_or (minus x.nonzero x.full) (minus y.nonzero y.full)) i
        ≡ ((bit x.nonzero i && not (bit x.full i)) || (bit y.nonzero i && not (bit y.full i)))
    mixed i = bit_of_or _ _ i ∙ ap₂ ◌||◌ (bit_without 64 x.nonzero x.full i hn ha) (bit_without 64 y.nonzero y.full i hm hb)

    unsettled : (i : ℕ) → bit (bit_and (minus (bit_or (minus x.nonzero x.full) (minus y.nonzero y.full)) s) valid) i ≡ (bit valid i && unsettled_at f x y i)
    unsettled i =
        bit_of_and _ valid i ∙ ap (λ (z : Bool). z && bit valid i) (bit_without 64 _ s i mixed_lt hs ∙ ap (λ (z : Bool). z && not (bit s i)) (mixed i))
        ∙ by (dec_lt i 64)
      where
        by : Dec (i < 64) → ((((bit x.nonzero i && not (bit x.full i)) || (bit y.nonzero i && not (bit y.full i))) && not (bit s i)) && bit valid i)
            ≡ (bit valid i && unsettled_at f x y i)
        by (yes l) = rw (ap (λ (z : ℕ). bit z i) e ∙ mask_at 64 _ i l) (same₂ (λ a b. a && b) (λ a b. b && a) tt _ (bit valid i))
        by (no l) = rw (bit_beyond 64 valid i hv (omega arith)) (and-false _)

    full : (i : ℕ) → bit (minus (bit_and w valid) (bit_and (minus (bit_or (minus x.nonzero x.full) (minus y.nonzero y.full)) s) valid)) i
        ≡ ((bit valid i && not (unsettled_at f x y i)) && full_at f x y i)
    full i =
        bit_without 64 _ _ i (lt_of_le_of_lt (and_le_l w valid) hw) (lt_of_le_of_lt (and_le_l _ valid) (lt_of_le_of_lt (and_le_l _ _) mixed_lt))
        ∙ ap₂ (λ (a b : Bool). a && not b) (bit_of_and w valid i) (unsettled i) ∙ by (dec_lt i 64)
      where
        by : Dec (i < 64) → ((bit w i && bit valid i) && not (bit valid i && unsettled_at f x y i))
            ≡ ((bit valid i && not (unsettled_at f x y i)) && full_at f x y i)
        by (yes l) =
            rw (ap (λ (z : ℕ). bit z i) q ∙ on_bit f x.full y.full i l)
            (same₃ (λ g v u. (g && v) && not (v && u)) (λ g v u. (v && not u) && g) tt (full_at f x y i) (bit valid i) (unsettled_at f x y i))
        by (no l) = rw (bit_beyond 64 valid i hv (omega arith), and-false (bit w i)) refl
