-- Laws of the n-th position: what proves that `select` finds it, and that `select` is a walk over every position. They hold of any
-- set, and so of the positions that have either value (`having`). Assumes nothing.
use Rattle.positions.proofs.Kit.{◌≡◌, refl, sym, ap, ◌∙◌, Bool, true, false, not, ◌&&◌, cond, ℕ, zero, suc, ◌+◌, ◌-◌, ◌≤◌, ◌<◌, zero-le, arith, eq-eqb, ne_eqb, eqb}
use Rattle.positions.specs.Positions.{Positions, found_at, not_found, differ, one, count_from, count, first_from, first, select, nth_from}
use Rattle.positions.specs.Walks.{Lacks, having, Nth}
use Rattle.positions.proofs.Counts.{count_from_balance, count_from_all, count_from_none, count_from_shift, count_split, count_none, count_all, count_same, count_empty}
use Rattle.positions.proofs.Searches.{first_at, first_none}

-- ---- the positions that have a value

module _ (s : Positions) (a e : ℕ) where
  pub having_none : (v : Bool) → Lacks s v a e → Lacks (having s v) true a e
  having_none true h = h
  having_none false h = λ i l u. ap not (h i l u)

  pub having_all : (v : Bool) → Lacks s (not v) a e → Lacks (having s v) false a e
  having_all true h = h
  having_all false h = λ i l u. ap not (h i l u)

  one_each : (b : Bool) → one b + one (not b) ≡ one true + one false
  one_each true = refl
  one_each false = refl

  pub count_having : (v : Bool) → count (having s v) a e ≡ cond v (count s a e) (e - a - count s a e)
  unfolding count
  count_having true = refl
  count_having false =
      omega (
        arith,
        count_from_balance (λ i. true) s (λ i. not (s i)) (λ i. false) a (e - a) (λ i. one_each (s i)),
        count_from_all (λ i. true) a (e - a) (λ i p q. refl),
        count_from_none (λ i. false) a (e - a) (λ i p q. refl),
      )

-- a set seen from position k on
pub count_moved_lem : (s : Positions) (k a e : ℕ) → count (λ i. s (k + i)) a e ≡ count s (k + a) (k + e)
unfolding count
count_moved_lem s k a e =
    let n : (k + e) - (k + a) ≡ e - a = omega arith in
    sym (ap (count_from s (k + a)) n ∙ count_from_shift s k a (e - a))

module _ (s : Positions) where
  -- ---- one position more

  pub count_member : (a i : ℕ) → a ≤ i → s i ≡ true → count s a (suc i) ≡ suc (count s a i)
  count_member a i l t =
      let one : count s i (suc i) ≡ suc i - i = count_all s i (suc i) (λ j p q. let e : j ≡ i = omega arith in ap s e ∙ t) in
      omega (arith, count_split s a i (suc i) l (omega arith), one)

  pub count_other : (a i : ℕ) → a ≤ i → s i ≡ false → count s a (suc i) ≡ count s a i
  count_other a i l t =
      let none : count s i (suc i) ≡ 0 = count_none s i (suc i) (λ j p q. let e : j ≡ i = omega arith in ap s e ∙ t) in
      omega (arith, count_split s a i (suc i) l (omega arith), none)

  -- a member is counted before every later end
  pub count_past : (a i e : ℕ) → a ≤ i → i < e → s i ≡ true → count s a i < count s a e
  count_past a i e l h t = omega (arith, count_member a i l t, count_split s a (suc i) e (omega arith) h)

  -- ---- the n-th

  -- from an earlier start: so many more before it
  pub nth_from_lem : (a b n m p : ℕ) → a ≤ b → Nth s b n p → count s a b + n ≡ m → Nth s a m p
  nth_from_lem a b n m p l x e =
      let k : b ≤ p = x.low in
      record { low = omega arith; member = x.member; before = count_split s a b p l k ∙ ap (λ (y : ℕ). count s a b + y) x.before ∙ e }

  -- in another set that has the same positions up to it, from k on
  pub nth_moved : (u : Positions) (k n p : ℕ) → ((i : ℕ) → i < suc p → u i ≡ s (k + i)) → Nth u 0 n p → Nth s k n (k + p)
  nth_moved u k n p h x =
      let z : k + 0 ≡ k = omega arith in
      record {
        low = omega arith;
        member = sym (h p (omega arith)) ∙ x.member;
        before = ap (λ (y : ℕ). count s y (k + p)) (sym z) ∙ sym (count_moved_lem s k 0 p) ∙ count_same (λ i. s (k + i)) u 0 p (λ i l q. sym (h i (omega arith))) ∙ x.before;
      }

  -- it is the last of n + 1
  pub nth_end : (a n p : ℕ) → Nth s a n p → count s a (suc p) ≡ suc n
  nth_end a n p x = count_member a p x.low x.member ∙ ap suc x.before

  abbrev test : ℕ → Positions
  test n i = s i && eqb (count s 0 i) n

  passes_not : (n i : ℕ) (b : Bool) → s i ≡ b → (b ≡ true → count s 0 i ≡ n → ⊥) → test n i ≡ false
  passes_not n i true t h = rw (t, ne_eqb (count s 0 i) n (h refl)) refl
  passes_not n i false t h = rw t refl

  pub select_at : (n e p : ℕ) → Nth s 0 n p → p < e → select s n e ≡ found_at p
  unfolding select
  select_at n e p x h =
      first_at (test n) true 0 e p
      (record {
        low = zero-le;
        high = h;
        value = rw (x.member, eq-eqb (count s 0 p) n x.before) refl;
        none_before = λ i l k. passes_not n i (s i) refl (λ t z. omega (arith, count_past 0 i p l k t, x.before));
      })

  pub select_none : (n e : ℕ) → count s 0 e ≤ n → select s n e ≡ not_found
  unfolding select
  select_none n e h =
      first_none (test n) true 0 e (λ i l k. passes_not n i (s i) refl (λ t z. omega (arith, count_past 0 i e l k t)))

  -- ---- the theorem: `select` answers what a walk from 0 over every position answers

  walks_from : (n m a t : ℕ) → count s 0 a + n ≡ t → first_from (test t) true a m ≡ nth_from s n a m
  unfolding first_from nth_from
  walks_from n zero a t e = refl
  walks_from zero (suc m) a t e = by (walks_from zero m (suc a) t) (s a) refl
    where
      by : (count s 0 (suc a) + zero ≡ t → first_from (test t) true (suc a) m ≡ nth_from s zero (suc a) m) → (b : Bool) → s a ≡ b
          → cond (differ (b && eqb (count s 0 a) t) true) (first_from (test t) true (suc a) m) (found_at a) ≡ cond b (found_at a) (nth_from s zero (suc a) m)
      by on true q = rw (eq-eqb (count s 0 a) t (omega arith)) refl
      by on false q = on (omega (arith, count_other 0 a zero-le q))
  walks_from (suc n) (suc m) a t e = by (walks_from n m (suc a) t) (walks_from (suc n) m (suc a) t) (s a) refl
    where
      by : (count s 0 (suc a) + n ≡ t → first_from (test t) true (suc a) m ≡ nth_from s n (suc a) m)
          → (count s 0 (suc a) + suc n ≡ t → first_from (test t) true (suc a) m ≡ nth_from s (suc n) (suc a) m) → (b : Bool) → s a ≡ b
          → cond (differ (b && eqb (count s 0 a) t) true) (first_from (test t) true (suc a) m) (found_at a) ≡ cond b (nth_from s n (suc a) m) (nth_from s (suc n) (suc a) m)
      by less same true q = rw (ne_eqb (count s 0 a) t (λ z. omega arith)) (less (omega (arith, count_member 0 a zero-le q)))
      by less same false q = same (omega (arith, count_other 0 a zero-le q))

  pub select_walks : (n e : ℕ) → select s n e ≡ nth_from s n 0 e
  unfolding select first
  select_walks n e =
      let m : e - 0 ≡ e = omega arith in
      ap (first_from (test n) true 0) m ∙ walks_from n e 0 n (omega (arith, count_empty s 0 0 zero-le))
