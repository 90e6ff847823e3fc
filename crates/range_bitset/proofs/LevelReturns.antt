-- The steps and the returns of `seek_up` and `seek_down`, from what the code has there: on any memory a part that there is, and on sound
-- memory what LevelWalks says. Assumes nothing.
use Rattle.range_bitset.proofs.Kit.{◌≡◌, ap, subst, ◌∙◌, ◌≢◌, true, ℕ, suc, ◌+◌, ◌*◌, ◌-◌, ◌^◌, ◌≤◌, ◌<◌, le_refl, add-one, lt_of_le_of_lt, lt_of_lt_of_le, arith, bit_and, and_le_l, count_trailing_zeros, count_leading_zeros, length, pow_mono}
use Rattle.positions.specs.Positions.{Positions, count}
use Rattle.bits.specs.Bit.{bit}
use Rattle.bits.proofs.Bits.{bit_below}
use Rattle.bits.proofs.Ones.{Highest, lz_highest}
use Rattle.range_bitset.specs.Inner.{Spans}
use Rattle.range_bitset.specs.Levels.{start_of, size_of, LevelOf, FirstFrom, LastBefore, Seeks, NthOf, BackOf}
use Rattle.range_bitset.specs.declared.level.Level.{Level}
use Rattle.range_bitset.specs.declared.level.Landing.{Landing}
use Rattle.range_bitset.specs.declared.level.Landing.TheVariants.{At, Within}
use Rattle.range_bitset.proofs.SearchReturns.{Lowest, lowest_whole}
use Rattle.range_bitset.proofs.LevelMasks.{from_gone, from_kept, before_gone, before_kept, drop_gone, drop_kept, less_bit}
use Rattle.range_bitset.proofs.LevelWalks as W

module _ {each : ℕ} (l : Level each) where
  pub wide : (m : ℕ) → m < 2 ^ length l.sizes.now → m < 2 ^ 64
  wide m h = lt_of_lt_of_le h (pow_mono l.most)

-- ---- `seek_up`

pub record AtUp {each : ℕ} (l : Level each) (n left m : ℕ) : Type 0 where
  pub fits : left < 2 ^ length l.sizes.now
  pub stands : (t : Positions) (k : ℕ) (level : LevelOf t l) → NthOf n (count t 0 l.end) k → W.Up level k left m

module _ {each : ℕ} (l : Level each) {n : ℕ} where
  pub up_first : AtUp l n l.some n
  up_first =
      record {
        fits = l.some_fits;
        stands = λ t k level w. subst (λ (x : ℕ). W.Up level k l.some x) w.0 (W.up_begins level k);
      }

  module _ {left m : ℕ} (a : AtUp l n left m) (ne : left ≢ 0) where
    abbrev part : ℕ
    part = count_trailing_zeros 64 left

    lowest : Lowest left 0 part
    lowest = lowest_whole left (wide l left a.fits) ne

    pub up_there : part < length l.sizes.now
    up_there = bit_below (length l.sizes.now) left part a.fits lowest.set

    pub up_start : part * each ≤ l.end
    up_start = l.starts part up_there

    module _ {to : ℕ} (f : FirstFrom l.others part to) where
      -- a stretch of whole parts, which ends at x
      module _ (x : ℕ) (h : part < to) (e : x ≡ start_of l to) where
        pub up_in_whole : m < x - part * each → Seeks l (NthOf n) (At part m)
        up_in_whole u =
            let s = up_start in
            record {
              inside = omega arith;
              lands = λ t k level w. W.up_whole level k (a.stands t k level w) part lowest to (omega arith) f.none s (omega arith);
            }

        module _ (y : ℕ) (s : Spans y (to - 1 + 1) 64) where
          onward : Spans y to 64
          onward = let q : to - 1 + 1 ≡ to = omega arith in subst (λ (z : ℕ). Spans y z 64) q s

          pub up_less_whole : bit_and left y < left
          up_less_whole = less_bit left y part lowest.set (from_gone left y to part onward h)

          pub up_past_whole : x - part * each ≤ m → AtUp l n (bit_and left y) (m - (x - part * each))
          up_past_whole u =
              let b = up_start in
              record {
                fits = lt_of_le_of_lt (and_le_l left y) a.fits;
                stands = λ t k level w.
                    W.up_on level k (a.stands t k level w) part lowest to (bit_and left y) (m - (x - part * each)) (x - part * each) h f.high
                    (λ i q. from_gone left y to i onward q) (λ i q. from_kept left y to i onward (wide l left a.fits) q)
                    (omega (arith, W.whole_count level k part to (omega arith) f.none)) (omega arith);
              }

      -- one part of both values
      module _ (c : ℕ) (h : to ≤ part) (e : c ≡ size_of l part) where
        other : bit l.others part ≡ true
        other =
            let p = up_there in
            let q = l.most in
            let g : to ≡ part = omega (arith, f.low) in
            subst (λ (x : ℕ). bit l.others x ≡ true) g (f.set (omega arith))

        pub up_in_part : m < c → Seeks l (NthOf n) (Within part m c)
        up_in_part u =
            record {
              inside = (up_there, u, e);
              lands = λ t k level w. W.up_part level k (a.stands t k level w) part lowest c other e;
            }

        pub up_past_part : c ≤ m → AtUp l n (bit_and left (left - 1)) (m - c)
        up_past_part u =
            let p = up_there in
            let q = l.most in
            record {
              fits = lt_of_le_of_lt (and_le_l left (left - 1)) a.fits;
              stands = λ t k level w.
                  let s = a.stands t k level w in
                  W.up_on level k s part lowest (suc part) (bit_and left (left - 1)) (m - c) c (omega arith) (omega arith)
                  (drop_gone left ne (wide l left a.fits)) (drop_kept left ne (wide l left a.fits))
                  (e ∙ level.sized part (W.up_some level k s part lowest) other) (omega arith);
            }

  pub up_last : {left m : ℕ} → AtUp l n left m → left ≡ 0 → Seeks l (NthOf n) (At 0 0)
  up_last {left} {m} a z =
      record {
        inside = omega arith;
        lands = λ t k level w.
            absurd
            (W.up_ends level k m
            (subst (λ (x : ℕ). W.Up level k x m) z (a.stands t k level w)) w.1);
      }

-- ---- `seek_down`

pub record AtDown {each : ℕ} (l : Level each) (b left m : ℕ) : Type 0 where
  pub fits : left < 2 ^ length l.sizes.now
  pub stands : (t : Positions) (k : ℕ) (level : LevelOf t l) → BackOf b (count t 0 l.end) k → W.Down level k b left m

module _ {each : ℕ} (l : Level each) {b : ℕ} where
  pub down_first : AtDown l b l.some b
  down_first =
      record {
        fits = l.some_fits;
        stands = λ t k level w. W.down_begins level k b (wide l l.some l.some_fits);
      }

  module _ {left m : ℕ} (a : AtDown l b left m) (ne : left ≢ 0) where
    abbrev last : ℕ
    last = 63 - count_leading_zeros 64 left

    highest : Highest 64 left last
    highest =
        let t = lz_highest 64 left ne (wide l left a.fits) in
        let p = t.1.place in
        let e : t.0 ≡ last = omega arith in
        subst (Highest 64 left) e t.1

    pub zeros_few : count_leading_zeros 64 left ≤ 63
    zeros_few = omega (arith, (lz_highest 64 left ne (wide l left a.fits)).1.place)

    pub down_there : last < length l.sizes.now
    down_there = bit_below (length l.sizes.now) left last a.fits highest.set

    module _ {from : ℕ} (f : LastBefore l.others (last + 1) from) where
      -- a stretch of whole parts, which ends at x
      module _ (x : ℕ) (h : from ≤ last) (e : x ≡ start_of l (last + 1)) where
        end_is : x ≡ start_of l (suc last)
        end_is = e ∙ ap (start_of l) (add-one last)

        pub down_start : from * each ≤ l.end
        down_start = let p = down_there in l.starts from (omega arith)

        size_is : (t : Positions) (k : ℕ) → LevelOf t l → x - from * each ≡ count t (start_of l from) (start_of l (suc last))
        size_is t k level =
            let s = down_start in
            omega (arith, end_is, W.whole_count level k from (suc last) (omega arith) (λ i p q. f.none i p (omega arith)))

        pub down_in_whole : m < x - from * each → Seeks l (BackOf b) (At from (x - from * each - 1 - m))
        down_in_whole u =
            record {
              inside = omega arith;
              lands = λ t k level w.
                  W.down_whole level k b (a.stands t k level w) last highest from (x - from * each) h (size_is t k level) w
                  (λ i g z. f.none i g (omega arith)) down_start u;
            }

        module _ (y : ℕ) (s : y ≡ 2 ^ from - 1) where
          pub down_less_whole : bit_and left y < left
          down_less_whole = less_bit left y last highest.set (before_gone left y from last s h)

          pub down_past_whole : x - from * each ≤ m → AtDown l b (bit_and left y) (m - (x - from * each))
          down_past_whole u =
              record {
                fits = lt_of_le_of_lt (and_le_l left y) a.fits;
                stands = λ t k level w.
                    W.down_on level k b (a.stands t k level w) last highest from (x - from * each) h (size_is t k level)
                    (bit_and left y) (m - (x - from * each)) (λ i g. before_gone left y from i s g) (λ i g. before_kept left y from i s g) (omega arith);
              }

      -- one part of both values
      module _ (c : ℕ) (h : last < from) (e : c ≡ size_of l last) where
        other_down : bit l.others last ≡ true
        other_down = f.set last (omega (arith, f.high))

        pub down_in_part : m < c → Seeks l (BackOf b) (Within last (c - 1 - m) c)
        down_in_part u =
            record {
              inside = (down_there, omega arith, e);
              lands = λ t k level w. W.down_part level k b (a.stands t k level w) last highest c w other_down e u;
            }

        module _ (y : ℕ) (s : y ≡ 2 ^ last - 1) where
          pub down_less_part : bit_and left y < left
          down_less_part = less_bit left y last highest.set (before_gone left y last last s (le_refl last))

          pub down_past_part : c ≤ m → AtDown l b (bit_and left y) (m - c)
          down_past_part u =
              record {
                fits = lt_of_le_of_lt (and_le_l left y) a.fits;
                stands = λ t k level w.
                    let d = a.stands t k level w in
                    W.down_on level k b d last highest last c (le_refl last)
                    (e ∙ level.sized last (W.down_some level k b d last highest) other_down)
                    (bit_and left y) (m - c) (λ i g. before_gone left y last i s g) (λ i g. before_kept left y last i s g) (omega arith);
              }

  pub down_last : {left m : ℕ} → AtDown l b left m → left ≡ 0 → Seeks l (BackOf b) (At 0 0)
  down_last {left} {m} a z =
      record {
        inside = omega arith;
        lands = λ t k level w.
            absurd
            (W.down_ends level k b m
            (subst (λ (x : ℕ). W.Down level k b x m) z (a.stands t k level w)) w);
      }

-- ---- `seek`

pub asked_so : {each : ℕ} {l : Level each} {p q : ℕ → ℕ → Type 0} {x : Landing} → Seeks l p x → ((c k : ℕ) → q c k → p c k) → Seeks l q x
asked_so s f = record { inside = s.inside; lands = λ t k level w. s.lands t k level (f (count t 0 _) k w) }
