-- The walks over the parts of a level, up and down: where a walk stands, and what each of its steps and ends means for the set. On sound
-- memory alone; `k` is the ordinal sought. Assumes nothing.
use Rattle.range_bitset.proofs.Kit.{◌≡◌, refl, sym, ap, ◌∙◌, true, false, true≢false, ℕ, suc, zero-le, ◌+◌, ◌*◌, ◌-◌, ◌^◌, ◌≤◌, ◌<◌, zero-mul, mul-le-mul_right, dec_lt, arith}
use Rattle.positions.specs.Positions.{Positions, count}
use Rattle.positions.specs.Walks.{Lacks, Nth}
use Rattle.positions.proofs.Counts.{count_split, count_none, count_all, count_empty}
use Rattle.bits.specs.Bit.{bit}
use Rattle.bits.proofs.Bits.{bit_zero, bit_beyond}
use Rattle.bits.proofs.Ones.{Highest}
use Rattle.range_bitset.specs.Levels.{start_of, size_of, LevelOf, Lands}
use Rattle.range_bitset.specs.declared.level.Level.{Level}
use Rattle.range_bitset.specs.declared.level.Landing.TheVariants.{At, Within}
use Rattle.range_bitset.proofs.SearchReturns.{Lowest, lacks_parts}

pub starts_up : {each : ℕ} (l : Level each) (i j : ℕ) → i ≤ j → start_of l i ≤ start_of l j
starts_up {each} l i j h = omega (arith, mul-le-mul_right each h)

module _ {t : Positions} {each : ℕ} {l : Level each} (level : LevelOf t l) (k : ℕ) where
  abbrev start : ℕ → ℕ
  start i = start_of l i

  up : (i j : ℕ) → i ≤ j → start i ≤ start j
  up i j h = starts_up l i j h

  first : start 0 ≡ 0
  first = omega (arith, zero-mul each)

  past : start 64 ≡ l.end
  past = omega (arith, level.reach)

  -- parts without a position of the set
  none_between : (i j : ℕ) → i ≤ j → ((m : ℕ) → i ≤ m → m < j → bit l.some m ≡ false) → count t (start i) (start j) ≡ 0
  none_between i j h e = count_none t (start i) (start j) (lacks_parts t true start i j h (λ m p q. level.none m (e m p q)))

  module _ (i j : ℕ) (h : i ≤ j) (e : (m : ℕ) → i ≤ m → m < j → bit l.others m ≡ false) where
    all_between : Lacks t false (start i) (start j)
    all_between = lacks_parts t false start i j h (λ m p q. level.whole m (e m p q))

    pub whole_count : count t (start i) (start j) ≡ start j - start i
    whole_count = count_all t (start i) (start j) all_between

    -- n positions after the start of a stretch of whole parts
    pub in_whole : (n : ℕ) → i * each ≤ l.end → count t 0 (start i) + n ≡ k → n < start j - start i → Nth t 0 k (i * each + n)
    in_whole n l b u =
        let here : count t (start i) (i * each + n) ≡ i * each + n - start i = count_all t (start i) (i * each + n) (λ p q w. all_between p q (omega arith)) in
        record {
          low = zero-le;
          member = all_between (i * each + n) (omega arith) (omega arith);
          before = omega (arith, count_split t 0 (start i) (i * each + n) zero-le (omega arith), here);
        }

  -- ---- up

  -- the parts before `at` are passed, and have all but n of the k
  pub record Up (left n : ℕ) : Type 0 where
    pub at : ℕ
    pub most : at ≤ 64
    pub gone : (i : ℕ) → i < at → bit left i ≡ false
    pub kept : (i : ℕ) → at ≤ i → bit left i ≡ bit l.some i
    pub before : count t 0 (start at) + n ≡ k

  pub up_begins : Up l.some k
  up_begins =
      record {
        at = 0;
        most = zero-le;
        gone = λ i l. absurd (omega arith);
        kept = λ i l. refl;
        before = omega (arith, count_empty t 0 (start 0) (omega (arith, first)));
      }

  module _ {left n : ℕ} (u : Up left n) (i : ℕ) (low : Lowest left 0 i) where
    up_at : u.at ≤ i
    up_at = by (dec_lt i u.at)
      where
        by : Dec (i < u.at) → u.at ≤ i
        by (yes l) = absurd (true≢false (sym low.set ∙ u.gone i l))
        by (no l) = omega arith

    pub up_some : bit l.some i ≡ true
    up_some = sym (u.kept i up_at) ∙ low.set

    pub up_before : count t 0 (start i) + n ≡ k
    up_before =
        omega (
          arith,
          u.before,
          count_split t 0 (start u.at) (start i) zero-le (up u.at i up_at),
          none_between u.at i up_at (λ m p q. sym (u.kept m p) ∙ low.clear m zero-le q),
        )

    -- past the parts i..j, which have c positions of the set
    pub up_on : (j left' n' c : ℕ) → i < j → j ≤ 64 → ((m : ℕ) → m < j → bit left' m ≡ false) → ((m : ℕ) → j ≤ m → bit left' m ≡ bit left m)
        → c ≡ count t (start i) (start j) → n ≡ c + n' → Up left' n'
    up_on j left' n' c l h g q e d =
        let a = up_at in
        record {
          at = j;
          most = h;
          gone = g;
          kept = λ m p. q m p ∙ u.kept m (omega arith);
          before = omega (arith, up_before, e, d, count_split t 0 (start i) (start j) zero-le (up i j (omega arith)));
        }

    -- it is in part i, or in the whole parts i..j
    pub up_part : (c : ℕ) → bit l.others i ≡ true → c ≡ size_of l i → Lands t l k (Within i n c)
    up_part c o e = (up_before, e ∙ level.sized i up_some o)

    pub up_whole : (j : ℕ) → i ≤ j → ((m : ℕ) → i ≤ m → m < j → bit l.others m ≡ false) → i * each ≤ l.end → n < start j - start i
        → Lands t l k (At i n)
    up_whole j h e l w = in_whole i j h e n l up_before w

  pub up_ends : (n : ℕ) → Up 0 n → k < count t 0 l.end → ⊥
  up_ends n u h =
      let a = u.most in
      omega (
        arith,
        u.before,
        count_split t 0 (start u.at) l.end zero-le (omega arith),
        none_between u.at 64 a (λ m p q. sym (u.kept m p) ∙ bit_zero m),
        ap (count t (start u.at)) past,
      )

  -- ---- down

  module _ (b : ℕ) where
    -- the parts from `at` on are passed, and have all but n of the b after it
    pub record Down (left n : ℕ) : Type 0 where
      pub at : ℕ
      pub most : at ≤ 64
      pub gone : (i : ℕ) → at ≤ i → bit left i ≡ false
      pub kept : (i : ℕ) → i < at → bit left i ≡ bit l.some i
      pub after : count t (start at) l.end + n ≡ b

    pub down_begins : l.some < 2 ^ 64 → Down l.some b
    down_begins f =
        record {
          at = 64;
          most = omega arith;
          gone = λ i z. bit_beyond 64 l.some i f z;
          kept = λ i l. refl;
          after = omega (arith, count_empty t (start 64) l.end (omega (arith, past)));
        }

    module _ {left n : ℕ} (d : Down left n) (i : ℕ) (high : Highest 64 left i) where
      down_at : i < d.at
      down_at = by (dec_lt i d.at)
        where
          by : Dec (i < d.at) → i < d.at
          by (yes l) = l
          by (no l) = absurd (true≢false (sym high.set ∙ d.gone i (omega arith)))

      pub down_some : bit l.some i ≡ true
      down_some = sym (d.kept i down_at) ∙ high.set

      pub down_after : count t (start (suc i)) l.end + n ≡ b
      down_after =
          let a = down_at in
          omega (
            arith,
            d.after,
            count_split t (start (suc i)) (start d.at) l.end (up (suc i) d.at a) (omega arith),
            none_between (suc i) d.at a (λ m p q. sym (d.kept m q) ∙ high.clear m p),
          )

      -- past the parts j..i, and i, which have c positions of the set
      module _ (j c : ℕ) (h : j ≤ i) (e : c ≡ count t (start j) (start (suc i))) where
        pub down_on : (left' n' : ℕ) → ((m : ℕ) → j ≤ m → bit left' m ≡ false) → ((m : ℕ) → m < j → bit left' m ≡ bit left m) → n ≡ c + n' → Down left' n'
        down_on left' n' g q z =
            let a = down_at in
            let m = d.most in
            record {
              at = j;
              most = omega arith;
              gone = g;
              kept = λ m p. q m p ∙ d.kept m (omega arith);
              after = omega (arith, down_after, e, z, count_split t (start j) (start (suc i)) l.end (up j (suc i) (omega arith)) (omega arith));
            }

        -- or it is there
        down_before : k + suc b ≡ count t 0 l.end → n < c → count t 0 (start j) + (c - 1 - n) ≡ k
        down_before w u =
            omega (
              arith,
              down_after,
              e,
              count_split t 0 (start j) l.end zero-le (omega arith),
              count_split t (start j) (start (suc i)) l.end (up j (suc i) (omega arith)) (omega arith),
            )

        pub down_whole : k + suc b ≡ count t 0 l.end → ((m : ℕ) → j ≤ m → m < suc i → bit l.others m ≡ false) → j * each ≤ l.end → n < c
            → Lands t l k (At j (c - 1 - n))
        down_whole w o l u =
            let a = whole_count j (suc i) (omega arith) o in
            in_whole j (suc i) (omega arith) o (c - 1 - n) l (down_before w u) (omega arith)

      pub down_part : (c : ℕ) → k + suc b ≡ count t 0 l.end → bit l.others i ≡ true → c ≡ size_of l i → n < c
          → Lands t l k (Within i (c - 1 - n) c)
      down_part c w o e u =
          let z = e ∙ level.sized i down_some o in
          (down_before i c (omega arith) z w u, z)

    pub down_ends : (n : ℕ) → Down 0 n → k + suc b ≡ count t 0 l.end → ⊥
    down_ends n d w =
        omega (
          arith,
          d.after,
          count_split t 0 (start d.at) l.end zero-le (omega arith),
          none_between 0 d.at zero-le (λ m p q. sym (d.kept m q) ∙ bit_zero m),
          ap (λ (x : ℕ). count t x (start d.at)) first,
        )
