-- Laws of `assigned` and `changed_count`: what giving a range a value changes, and ranges given one value piece by piece.
-- Assumes nothing.
use Rattle.positions.proofs.Kit.{◌≡◌, refl, sym, ap, ◌∙◌, fun_ext, Bool, true, false, cond, ◌&&◌, true≢false, ℕ, ◌+◌, ◌-◌, ◌≤◌, ◌<◌, arith, leb-true, leb-false, leb}
use Rattle.positions.specs.Positions.{Positions, none, within, assigned, one, count_from, count, differ, lacking, changed_count}
use Rattle.positions.proofs.Ranges.{Place, inside, before, behind, place, within_in, within_before, within_behind}
use Rattle.positions.proofs.Counts.{count_split, count_none, count_same, count_empty, count_le, count_zero, count_from_balance, count_from_none}
use Rattle.positions.proofs.Bools.{same₃}

-- ---- one range, at one position

module _ (s : Positions) (a e : ℕ) (v : Bool) (i : ℕ) where
  pub assigned_in : a ≤ i → i < e → assigned s a e v i ≡ v
  unfolding assigned
  assigned_in h k = rw (within_in a e i h k)

  pub assigned_before : i < a → assigned s a e v i ≡ s i
  unfolding assigned
  assigned_before h = rw (within_before a e i h)

  pub assigned_behind : e ≤ i → assigned s a e v i ≡ s i
  unfolding assigned
  assigned_behind h = rw (within_behind a e i h)

-- an empty range
pub assigned_empty : (s : Positions) (a e : ℕ) (v : Bool) → e ≤ a → assigned s a e v ≡ s
assigned_empty s a e v h = fun_ext (λ i. go i (place a e i))
  where
    go : (i : ℕ) → Place a e i → assigned s a e v i ≡ s i
    go i (inside u w x) = absurd (omega arith)
    go i (before u x) = assigned_before s a e v i u
    go i (behind u x) = assigned_behind s a e v i u

-- ---- what changes

pub changed_le : (s : Positions) (a e : ℕ) (v : Bool) → changed_count s a e v ≤ e - a
unfolding changed_count
changed_le s a e v = count_le (lacking s v) a e

pub changed_empty : (s : Positions) (a e : ℕ) (v : Bool) → e ≤ a → changed_count s a e v ≡ 0
unfolding changed_count
changed_empty s a e v h = count_empty (lacking s v) a e h

-- it hangs on the range alone
pub changed_same : (s t : Positions) (a e : ℕ) (v : Bool) → ((i : ℕ) → a ≤ i → i < e → s i ≡ t i) → changed_count s a e v ≡ changed_count t a e v
unfolding changed_count
changed_same s t a e v h = count_same (lacking s v) (lacking t v) a e (λ i p q. ap (λ (x : Bool). differ x v) (h i p q))

pub changed_split : (s : Positions) (a b e : ℕ) (v : Bool) → a ≤ b → b ≤ e → changed_count s a e v ≡ changed_count s a b v + changed_count s b e v
unfolding changed_count
changed_split s a b e v h k = count_split (lacking s v) a b e h k

-- a call that changes nothing leaves the set as it is
pub assigned_none : (s : Positions) (a e : ℕ) (v : Bool) → changed_count s a e v ≡ 0 → assigned s a e v ≡ s
unfolding changed_count
assigned_none s a e v h = fun_ext (λ i. go i (place a e i))
  where
    same : (x v : Bool) → differ x v ≡ false → v ≡ x
    same true true e = refl
    same true false e = absurd (true≢false e)
    same false true e = absurd (true≢false e)
    same false false e = refl

    go : (i : ℕ) → Place a e i → assigned s a e v i ≡ s i
    go i (inside u w x) = assigned_in s a e v i u w ∙ same (s i) v (count_zero (lacking s v) a e h i u w)
    go i (before u x) = assigned_before s a e v i u
    go i (behind u x) = assigned_behind s a e v i u

-- ---- the count after a call: what it adds, and what it takes away

-- what a call of value v with n changed positions adds to the population, and what it takes away
abbrev pub gain : Bool → ℕ → ℕ
gain v n = cond (differ v true) 0 n

abbrev pub loss : Bool → ℕ → ℕ
loss v n = cond (differ v false) 0 n

-- the positions of d in a..e
clip : ℕ → ℕ → Positions → Positions
clip a e d i = within a e i && d i

module _ (d : Positions) (a e x y : ℕ) (h : x ≤ a) (k : e ≤ y) where
  low : (z : ℕ) → z ≤ a → count (clip a e d) x z ≡ 0
  unfolding clip
  low z l = count_none (clip a e d) x z (λ i p q. rw (within_before a e i (omega arith)))

  high : (z : ℕ) → e ≤ z → count (clip a e d) z y ≡ 0
  unfolding clip
  high z l = count_none (clip a e d) z y (λ i p q. rw (within_behind a e i (omega arith)))

  mid : count (clip a e d) a e ≡ count d a e
  unfolding clip
  mid = count_same (clip a e d) d a e (λ i p q. rw (within_in a e i p q))

  count_clip : count (clip a e d) x y ≡ count d a e
  unfolding clip
  count_clip = go (leb a e) refl
    where
      go : (b : Bool) → leb a e ≡ b → count (clip a e d) x y ≡ count d a e
      go true q =
          let l : a ≤ e = leb-true a e q in
          omega (
            arith,
            count_split (clip a e d) x a y h (omega arith),
            count_split (clip a e d) a e y l k,
            low a (omega arith),
            high e (omega arith),
            mid,
          )
      go false q =
          let l : e < a = leb-false a e q in
          rw (count_empty d a e (omega arith))
          (count_none (clip a e d) x y
          (λ i p r. elim (place a e i) [ inside u z w ↦ absurd (omega arith) | before u w ↦ rw w | behind u w ↦ rw w ]))

pub assigned_count : (s : Positions) (a e : ℕ) (v : Bool) (x y : ℕ) → x ≤ a → e ≤ y
    → count (assigned s a e v) x y + loss v (changed_count s a e v) ≡ count s x y + gain v (changed_count s a e v)
unfolding assigned clip changed_count count
assigned_count s a e v x y h k = go v
  where
    changes : Bool → Positions
    changes v = clip a e (lacking s v)

    all : (v : Bool) → count_from (changes v) x (y - x) ≡ changed_count s a e v
    all v = count_clip (lacking s v) a e x y h k

    zero_of : count_from none x (y - x) ≡ 0
    zero_of = count_from_none none x (y - x) (λ i p q. refl)

    marks : (i : ℕ) → one (assigned s a e true i) + one (none i) ≡ one (s i) + one (changes true i)
    marks i = cases (within a e i) (s i)
      where
        cases : (w z : Bool) → one (cond w true z) + 0 ≡ one z + one (w && differ z true)
        cases true true = refl
        cases true false = refl
        cases false true = refl
        cases false false = refl

    clears : (i : ℕ) → one (assigned s a e false i) + one (changes false i) ≡ one (s i) + one (none i)
    clears i = cases (within a e i) (s i)
      where
        cases : (w z : Bool) → one (cond w false z) + one (w && differ z false) ≡ one z + 0
        cases true true = refl
        cases true false = refl
        cases false true = refl
        cases false false = refl

    go : (v : Bool) → count (assigned s a e v) x y + loss v (changed_count s a e v) ≡ count s x y + gain v (changed_count s a e v)
    go true = omega (arith, count_from_balance s (assigned s a e true) none (changes true) x (y - x) marks, all true, zero_of)
    go false = omega (arith, count_from_balance s (assigned s a e false) (changes false) none x (y - x) clears, all false, zero_of)

-- the changed count is in how many positions the two sets differ, over any range around the call's
pub changed_differ : (s : Positions) (a e : ℕ) (v : Bool) (x y : ℕ) → x ≤ a → e ≤ y
    → count (λ i. differ (assigned s a e v i) (s i)) x y ≡ changed_count s a e v
unfolding assigned changed_count clip
changed_differ s a e v x y h k =
    count_same (λ i. differ (assigned s a e v i) (s i)) (clip a e (lacking s v)) x y (λ i p q. by (within a e i) (s i) v)
    ∙ count_clip (lacking s v) a e x y h k
  where
    by : (w z v : Bool) → differ (cond w v z) z ≡ (w && differ z v)
    by = same₃ (λ w z v. differ (cond w v z) z) (λ w z v. w && differ z v) tt

-- the changed count is how far the two counts lie apart, over any range around the call's
pub changed_apart : (s : Positions) (a e : ℕ) (v : Bool) (x y : ℕ) → x ≤ a → e ≤ y
    → (count s x y - count (assigned s a e v) x y) + (count (assigned s a e v) x y - count s x y) ≡ changed_count s a e v
changed_apart s a e v x y h k = by v (assigned_count s a e v x y h k)
  where
    by : (w : Bool) → count (assigned s a e v) x y + loss w (changed_count s a e v) ≡ count s x y + gain w (changed_count s a e v)
        → (count s x y - count (assigned s a e v) x y) + (count (assigned s a e v) x y - count s x y) ≡ changed_count s a e v
    by true q = omega arith
    by false q = omega arith

-- ---- one range in three pieces: the low end, then the high end, then what lies between

module _ (s : Positions) (a b c e : ℕ) (v : Bool) (h : a ≤ b) (k : b ≤ c) (l : c ≤ e) where
  pub assigned_pieces : assigned (assigned (assigned s a b v) c e v) b c v ≡ assigned s a e v
  assigned_pieces = fun_ext (λ i. go i (place a b i) (place c e i) (place b c i))
    where
      s₁ : Positions
      s₁ = assigned s a b v

      s₂ : Positions
      s₂ = assigned s₁ c e v

      go : (i : ℕ) → Place a b i → Place c e i → Place b c i → assigned s₂ b c v i ≡ assigned s a e v i
      go i p q (inside u w x) = assigned_in s₂ b c v i u w ∙ sym (assigned_in s a e v i (omega arith) (omega arith))
      go i p (inside u w x) (before y z) = absurd (omega arith)
      go i p (inside u w x) (behind y z) =
          assigned_behind s₂ b c v i y ∙ assigned_in s₁ c e v i u w ∙ sym (assigned_in s a e v i (omega arith) w)
      go i (inside u w x) (before y z) (before m n) =
          assigned_before s₂ b c v i m ∙ assigned_before s₁ c e v i y ∙ assigned_in s a b v i u w
          ∙ sym (assigned_in s a e v i u (omega arith))
      go i (before u x) (before y z) (before m n) =
          assigned_before s₂ b c v i m ∙ assigned_before s₁ c e v i y ∙ assigned_before s a b v i u
          ∙ sym (assigned_before s a e v i u)
      go i (behind u x) (before y z) (before m n) = absurd (omega arith)
      go i p (before y z) (behind m n) = absurd (omega arith)
      go i p (behind y z) (before m n) = absurd (omega arith)
      go i (inside u w x) (behind y z) (behind m n) = absurd (omega arith)
      go i (before u x) (behind y z) (behind m n) = absurd (omega arith)
      go i (behind u x) (behind y z) (behind m n) =
          assigned_behind s₂ b c v i m ∙ assigned_behind s₁ c e v i y ∙ assigned_behind s a b v i u
          ∙ sym (assigned_behind s a e v i y)

  pub changed_pieces : changed_count s a b v + changed_count (assigned s a b v) c e v + changed_count (assigned (assigned s a b v) c e v) b c v
      ≡ changed_count s a e v
  changed_pieces =
      let high = changed_same (assigned s a b v) s c e v (λ i p q. assigned_behind s a b v i (omega arith)) in
      let mid =
      changed_same (assigned (assigned s a b v) c e v) s b c v
      (λ i p q. assigned_before (assigned s a b v) c e v i q ∙ assigned_behind s a b v i p) in
      omega (arith, high, mid, changed_split s a b e v h (omega arith), changed_split s b c e v k l)
