-- The walks over the words of one kind, stored on both sides or on one: what is written and counted up to a word, and gathered. Assumes nothing.
use Rattle.combine.proofs.Kit.{◌≡◌, refl, ap, sym, ◌∙◌, ◌≢◌, Bool, true, false, not, ◌&&◌, ◌||◌, cond, List, ℕ, ◌+◌, ◌*◌, ◌-◌, ◌^◌, ◌%◌, ◌<◌, ◌≤◌, arith, eqb, eqb-true, eqb-false, bit_and, bit_or, and_le_l, ones, count_trailing_zeros, length, get_or, set, length-set, get_or-set_same, get_or-set_other}
use Rattle.positions.specs.Positions.{sum_over}
use Rattle.positions.proofs.Bools.{same₁}
use Rattle.bits.specs.Bit.{bit, mask}
use Rattle.bits.proofs.Bits.{bit_zero, bit_below}
use Rattle.bits.proofs.Masks.{test_shifted}
use Rattle.bits.proofs.Walks.{taken, walk_none}
use Rattle.bits.proofs.Words.{mask_ext, mask_none}
use Rattle.range_bitset.specs.Read.{ALL}
use Rattle.range_bitset.proofs.Walked.{ones_most}
use Rattle.combine.specs.Rules.{Rule}
use Rattle.combine.specs.Inner.{pair_word, lone_word, Puts}
use Rattle.combine.proofs.RuleMasks.{on_lt}
use Rattle.combine.proofs.Gathered.{past, here, still_left, past_more, gathered_next}

-- what is made of a word is a word
pub pair_lt : (f : Rule) (l k : List ℕ) (i : ℕ) → pair_word f l k i < 2 ^ 64
pair_lt f l k i = on_lt f (get_or l i 0) (get_or k i 0)

pub lone_lt : (l : List ℕ) (over : ℕ) → ((k : ℕ) → get_or l k 0 < 2 ^ 64) → (i : ℕ) → lone_word l over i < 2 ^ 64
lone_lt l over known i = by (bit over i)
  where
    by : (b : Bool) → cond b (ALL - get_or l i 0) (get_or l i 0) < 2 ^ 64
    by true = omega arith
    by false = known i

-- a word kept or turned over, as the code tests it
pub turned_is : (l : List ℕ) (over i : ℕ) → i < 64 → (word : ℕ)
    → word ≡ cond (not (eqb (bit_and over (1 * 2 ^ i % 2 ^ 64)) 0)) (ALL - get_or l i 0) (get_or l i 0) → word ≡ lone_word l over i
turned_is l over i h word e =
    e ∙ ap (λ (b : Bool). cond (not b) (ALL - get_or l i 0) (get_or l i 0)) (test_shifted 64 over i h)
    ∙ ap (λ (b : Bool). cond b (ALL - get_or l i 0) (get_or l i 0)) (same₁ (λ b. not (not b)) (λ b. b) tt (bit over i))

-- before the walk none is past, after it all are
none_past : (m i : ℕ) → past (bit m) m i ≡ false
none_past m i = same₁ (λ x. x && not x) (λ x. false) tt (bit m i)

all_past : (m left i : ℕ) → left ≡ 0 → past (bit m) left i ≡ bit m i
all_past m left i z = ap (λ (x : ℕ). bit m i && not (bit x i)) z ∙ ap (λ (x : Bool). bit m i && not x) (bit_zero i) ∙ same₁ (λ x. x && not false) (λ x. x) tt (bit m i)

-- the words of m are to become those of v; `left` are yet to come, and n is the population of the others
pub record Along (m : ℕ) (v : ℕ → ℕ) (st st' : List ℕ) (left n : ℕ) : Type 0 where
  pub same_length : length st' ≡ length st
  pub fits : left < 2 ^ 64
  pub part : (i : ℕ) → bit left i ≡ true → bit m i ≡ true
  pub put : (i : ℕ) → i < length st → get_or st' i 0 ≡ cond (past (bit m) left i) (v i) (get_or st i 0)
  pub counted : n + sum_over (bit left) (λ i. ones (v i)) 0 64 ≡ sum_over (bit m) (λ i. ones (v i)) 0 64

-- those of them that g holds of are gathered in r
abbrev pub Gathers : ℕ → (ℕ → ℕ) → (ℕ → Bool) → ℕ → ℕ → Type 0
Gathers m v g left r = r ≡ mask 64 (λ i. past (bit m) left i && g (v i))

module _ (m : ℕ) (v : ℕ → ℕ) (st : List ℕ) where
  pub along_first : m < 2 ^ 64 → Along m v st st m 0
  along_first h =
      record {
        same_length = refl;
        fits = h;
        part = λ i e. e;
        put = λ i l. sym (ap (λ (b : Bool). cond b (v i) (get_or st i 0)) (none_past m i));
        counted = omega arith;
      }

  pub gathers_first : (g : ℕ → Bool) → Gathers m v g m 0
  gathers_first g = sym (mask_ext 64 _ (λ i. false) (λ i l. ap (λ (b : Bool). b && g (v i)) (none_past m i)) ∙ mask_none 64)

  module _ {st' : List ℕ} {left n i left' : ℕ} (a : Along m v st st' left n)
      (q : (left ≢ 0) × (i ≡ count_trailing_zeros 64 left) × (left' ≡ bit_and left (left - 1))) where
    pub along_in : (k : ℕ) → m < 2 ^ k → i < k
    along_in k h = bit_below k m i h (a.part i (here q a.fits))

    pub along_most : ((j : ℕ) → v j < 2 ^ 64) → n + ones (v i) ≤ 4096
    along_most u = omega (arith, a.counted, taken q (λ j. ones (v j)) a.fits, ones_most m v u)

    more : (j : ℕ) → past (bit m) left' j ≡ (past (bit m) left j || eqb j i)
    more = past_more q a.fits (bit m) (a.part i (here q a.fits))

    pub along_next : (word : ℕ) → word ≡ v i → i < length st → Along m v st (set st' i word) left' (n + ones word)
    along_next word e l =
        record {
          same_length = length-set st' i word ∙ a.same_length;
          fits = omega (arith, q.2, and_le_l left (left - 1), a.fits);
          part = λ j p. a.part j (still_left q a.fits j p);
          put = λ j k. by j k (eqb j i) refl ∙ ap (λ (b : Bool). cond b (v j) (get_or st j 0)) (sym (more j));
          counted = omega (arith, a.counted, taken q (λ j. ones (v j)) a.fits, ap ones e);
        }
      where
        by : (j : ℕ) → j < length st → (b : Bool) → eqb j i ≡ b → get_or (set st' i word) j 0 ≡ cond (past (bit m) left j || b) (v j) (get_or st j 0)
        by j k true p =
            let z = eqb-true j i p in
            rw z (get_or-set_same st' i word 0 (omega (arith, a.same_length)) ∙ e)
            ∙ ap (λ (b : Bool). cond b (v j) (get_or st j 0)) (same₁ (λ x. true) (λ x. x || true) tt (past (bit m) left j))
        by j k false p =
            get_or-set_other st' i j word 0 (eqb-false j i p) ∙ a.put j k
            ∙ ap (λ (b : Bool). cond b (v j) (get_or st j 0)) (same₁ (λ x. x) (λ x. x || false) tt (past (bit m) left j))

    pub gathers_next : (g : ℕ → Bool) (word r r' : ℕ) → word ≡ v i → i < 64 → Gathers m v g left r → r' ≡ cond (g word) (bit_or r (2 ^ i)) r → Gathers m v g left' r'
    gathers_next g word r r' e l s d =
        gathered_next 64 (λ j. g (v j)) (past (bit m) left) (past (bit m) left') i more r r' l s
        (d ∙ ap (λ (z : ℕ). cond (g z) (bit_or r (2 ^ i)) r) e)

  module _ {st' : List ℕ} {left n : ℕ} (a : Along m v st st' left n) (z : left ≡ 0) where
    pub along_puts : Puts m v st st'
    along_puts =
        record {
          same_length = a.same_length;
          put = λ i l. a.put i l ∙ ap (λ (b : Bool). cond b (v i) (get_or st i 0)) (all_past m left i z);
        }

    pub along_counted : n ≡ sum_over (bit m) (λ i. ones (v i)) 0 64
    along_counted = omega (arith, a.counted, ap (λ (c : ℕ). sum_over (bit c) (λ i. ones (v i)) 0 64) z, walk_none 64 (λ i. ones (v i)))

    pub along_few : ((j : ℕ) → v j < 2 ^ 64) → n ≤ 4096
    along_few u = omega (arith, along_counted, ones_most m v u)

  pub gathers_last : (g : ℕ → Bool) (left r : ℕ) → left ≡ 0 → Gathers m v g left r → r ≡ mask 64 (λ i. bit m i && g (v i))
  gathers_last g left r z s = s ∙ mask_ext 64 _ _ (λ i l. ap (λ (b : Bool). b && g (v i)) (all_past m left i z))
