-- Laws of searches: what `first` and `next_run` find, and what proves that they find it. Assumes nothing.
use Rattle.positions.proofs.Kit.{◌≡◌, refl, sym, ap, ◌∙◌, subst, ⊎_elim, Bool, true, false, not, cond, Bool·not-not, true≢false, false≢true, ℕ, zero, suc, ◌+◌, ◌-◌, ◌≤◌, ◌<◌, min, le_refl, eq-or-lt_of_le, arith, dec_lt, ltb-true, ltb-false, ltb}
use Rattle.std.proofs.Common.{Some, None}
use Rattle.positions.specs.Positions.{Positions, Place, found_at, not_found, differ, first_from, first}
use Rattle.positions.specs.Runs.{Run, run, place_or, run_end, run_at, next_run}
use Rattle.positions.specs.Walks.{Lacks, Stops, cut}

-- position p is the first of a..e with the value v
pub record IsFirst (s : Positions) (v : Bool) (a e p : ℕ) : Type 0 where
  pub low : a ≤ p
  pub high : p < e
  pub value : s p ≡ v
  pub none_before : (i : ℕ) → a ≤ i → i < p → s i ≡ not v

-- either answer with what it means
pub data Searched (s : Positions) (v : Bool) (a e : ℕ) : Place → Type 0 where
  hit : (p : ℕ) → IsFirst s v a e p → Searched s v a e (found_at p)
  miss : Lacks s v a e → Searched s v a e not_found

pub differ_same : (v : Bool) → differ v v ≡ false
differ_same true = refl
differ_same false = refl

pub differ_other : (v : Bool) → differ (not v) v ≡ true
differ_other true = refl
differ_other false = refl

same_of : (x v : Bool) → differ x v ≡ false → x ≡ v
same_of true true e = refl
same_of true false e = absurd (true≢false e)
same_of false true e = absurd (true≢false e)
same_of false false e = refl

other_of : (x v : Bool) → differ x v ≡ true → x ≡ not v
other_of true true e = absurd (false≢true e)
other_of true false e = refl
other_of false true e = refl
other_of false false e = absurd (false≢true e)

-- the meaning settles the answer

pub none_from : (s : Positions) (v : Bool) (a n : ℕ) → Lacks s v a (a + n) → first_from s v a n ≡ not_found
unfolding first_from
none_from s v a zero h = refl
none_from s v a (suc n) h =
    rw (h a (omega arith) (omega arith), differ_other v, none_from s v (suc a) n (λ i p q. h i (omega arith) (omega arith)))

pub first_none : (s : Positions) (v : Bool) (a e : ℕ) → Lacks s v a e → first s v a e ≡ not_found
unfolding first
first_none s v a e h = none_from s v a (e - a) (λ i p q. h i p (omega arith))

at_from : (s : Positions) (v : Bool) (a n k : ℕ) → k < n → s (a + k) ≡ v → ((i : ℕ) → a ≤ i → i < a + k → s i ≡ not v)
    → first_from s v a n ≡ found_at (a + k)
unfolding first_from
at_from s v a zero k h x l = absurd (omega arith)
at_from s v a (suc n) zero h x l =
    let p : a + 0 ≡ a = omega arith in
    rw (p, rw p at x, differ_same v)
at_from s v a (suc n) (suc k) h x l =
    let p : a + suc k ≡ suc a + k = omega arith in
    rw (l a (omega arith) (omega arith), differ_other v, p)
    (at_from s v (suc a) n k (omega arith) (rw p at x) (λ i u w. l i (omega arith) (omega arith)))

pub first_at : (s : Positions) (v : Bool) (a e p : ℕ) → IsFirst s v a e p → first s v a e ≡ found_at p
unfolding first
first_at s v a e p h =
    let q : a + (p - a) ≡ p = omega arith in
    rw q at (at_from s v a (e - a) (p - a) (omega arith) (rw q h.value) (λ i u w. h.none_before i u (omega arith)))

-- and the answer has its meaning

lacks_more : (s : Positions) (v : Bool) (a e : ℕ) → s a ≡ not v → Lacks s v (suc a) e → Lacks s v a e
lacks_more s v a e x h i u w = ⊎_elim (λ q. rw (← q) x) (λ q. h i q w) (eq-or-lt_of_le u)

searched_more : (s : Positions) (v : Bool) (a e : ℕ) → s a ≡ not v → (f : Place) → Searched s v (suc a) e f → Searched s v a e f
searched_more s v a e x f (hit p h) =
    hit p
    (record { low = omega arith; high = h.high; value = h.value; none_before = lacks_more s v a p x h.none_before })
searched_more s v a e x f (miss h) = miss (lacks_more s v a e x h)

from_means : (s : Positions) (v : Bool) (a n : ℕ) → Searched s v a (a + n) (first_from s v a n)
unfolding first_from
from_means s v a zero = miss (λ i p q. absurd (omega arith))
from_means s v a (suc n) = go (differ (s a) v) refl (first_from s v (suc a) n) (from_means s v (suc a) n)
  where
    go : (b : Bool) → differ (s a) v ≡ b → (f : Place) → Searched s v (suc a) (suc a + n) f → Searched s v a (a + suc n) (cond b f (found_at a))
    go false x f m =
        hit a (record { low = omega arith; high = omega arith; value = same_of (s a) v x; none_before = λ i p q. absurd (omega arith) })
    go true x f m =
        let p : a + suc n ≡ suc a + n = omega arith in
        rw p (searched_more s v a (suc a + n) (other_of (s a) v x) f m)

searched_to : (s : Positions) (v : Bool) (a e e' : ℕ) → ((i : ℕ) → a ≤ i → i < e' → i < e) → ((i : ℕ) → a ≤ i → i < e → i < e') → (f : Place) → Searched s v a e' f → Searched s v a e f
searched_to s v a e e' h k f (hit p x) =
    hit p (record { low = x.low; high = h p x.low x.high; value = x.value; none_before = x.none_before })
searched_to s v a e e' h k f (miss x) = miss (λ i u w. x i u (k i u w))

pub first_means : (s : Positions) (v : Bool) (a e : ℕ) → Searched s v a e (first s v a e)
unfolding first
first_means s v a e =
    searched_to s v a e (a + (e - a)) (λ i u w. omega arith) (λ i u w. omega arith) (first_from s v a (e - a)) (from_means s v a (e - a))

-- ---- the run that a search finds

-- p..q is the first stretch of the value v in a..e, and it ends where the value does, or at e
pub record IsNext (s : Positions) (v : Bool) (a e p q : ℕ) : Type 0 where
  pub low : a ≤ p
  pub some : p < q
  pub high : q ≤ e
  pub before : Lacks s v a p
  pub own : (i : ℕ) → p ≤ i → i < q → s i ≡ v
  pub stops : q < e → s q ≡ not v

-- the meaning settles the answer

run_end_is : (s : Positions) (v : Bool) (e p q : ℕ) → p ≤ q → q ≤ e → ((i : ℕ) → p ≤ i → i < q → s i ≡ v) → (q < e → s q ≡ not v) → run_end s v p e ≡ q
unfolding run_end
run_end_is s v e p q l h own stops = by (dec_lt q e)
  where
    same : (i : ℕ) → p ≤ i → i < q → s i ≡ not (not v)
    same i u w = rw (own i u w, Bool·not-not v) refl

    by : Dec (q < e) → run_end s v p e ≡ q
    by (yes k) = rw (first_at s (not v) p e q (record { low = l; high = k; value = stops k; none_before = same })) refl
    by (no k) =
        let d : q ≡ e = omega arith in
        rw (first_none s (not v) p e (λ i u w. same i u (omega arith))) (sym d)

pub next_is : (s : Positions) (v : Bool) (a e p q : ℕ) → IsNext s v a e p q → next_run s v a e ≡ Some (run p q)
unfolding next_run
next_is s v a e p q m =
    rw
    (first_at s v a e p (record { low = m.low; high = omega (arith, m.some, m.high); value = m.own p (le_refl p) m.some; none_before = m.before }), run_end_is s v e p q (omega (arith, m.some)) m.high m.own m.stops)
    refl

pub next_none : (s : Positions) (v : Bool) (a e : ℕ) → Lacks s v a e → next_run s v a e ≡ None
unfolding next_run
next_none s v a e h = rw (first_none s v a e h) refl

-- and the answer has its meaning

run_of : (f : ℕ → ℕ) (x : Place) (p q : ℕ) → run_at f x ≡ Some (run p q) → (x ≡ found_at p) × (f p ≡ q)
run_of f (found_at i) p q h =
    let k : run i (f i) ≡ run p q = cc in
    let j = ap (λ (r : Run). r.start) k in
    rw (← j) (refl, ap (λ (r : Run). r.end) k)
run_of f not_found p q h = absurd (let z : ◌≡◌ {A = ℕ} 0 1 = cc in omega arith)

none_of : (f : ℕ → ℕ) (x : Place) → run_at f x ≡ None → x ≡ not_found
none_of f (found_at i) h = absurd (let z : ◌≡◌ {A = ℕ} 0 1 = cc in omega arith)
none_of f not_found h = refl

-- two positions of different values are two
apart : (s : Positions) (v : Bool) (p q : ℕ) → p ≤ q → s p ≡ v → s q ≡ not v → p < q
apart s v p q l x y = by (dec_lt p q)
  where
    never : (v : Bool) → v ≡ not v → ⊥
    never true h = true≢false h
    never false h = false≢true h

    by : Dec (p < q) → p < q
    by (yes k) = k
    by (no k) = let d : p ≡ q = omega arith in absurd (never v (sym x ∙ ap s d ∙ y))

pub next_means : (s : Positions) (v : Bool) (a e p q : ℕ) → next_run s v a e ≡ Some (run p q) → IsNext s v a e p q
unfolding next_run run_end
next_means s v a e p q h = let (x, y) = run_of _ (first s v a e) p q h in starts (first s v a e) (first_means s v a e) x y
  where
    itself : (i : ℕ) → s i ≡ not (not v) → s i ≡ v
    itself i x = x ∙ Bool·not-not v

    ends : IsFirst s v a e p → (f : Place) → Searched s (not v) p e f → place_or e f ≡ q → IsNext s v a e p q
    ends m f (hit i k) y =
        record {
          low = m.low;
          some = rw y at (apart s v p i k.low m.value k.value);
          high = omega (arith, y, k.high);
          before = m.none_before;
          own = λ j u w. itself j (k.none_before j u (omega (arith, y)));
          stops = λ w. rw y at k.value;
        }
    ends m f (miss k) y =
        record {
          low = m.low;
          some = omega (arith, y, m.high);
          high = omega (arith, y);
          before = m.none_before;
          own = λ j u w. itself j (k j u (omega (arith, y)));
          stops = λ w. absurd (omega (arith, y));
        }

    starts : (f : Place) → Searched s v a e f → f ≡ found_at p → place_or e (first s (not v) p e) ≡ q → IsNext s v a e p q
    starts f (hit i m) x y =
        let j : i ≡ p = cc in
        ends (subst (λ (k : ℕ). IsFirst s v a e k) j m) (first s (not v) p e) (first_means s (not v) p e) y
    starts f (miss m) x y = absurd (let z : ◌≡◌ {A = ℕ} 0 1 = cc in omega arith)

pub none_means : (s : Positions) (v : Bool) (a e : ℕ) → next_run s v a e ≡ None → Lacks s v a e
unfolding next_run
none_means s v a e h = by (first s v a e) (first_means s v a e) (none_of _ (first s v a e) h)
  where
    by : (f : Place) → Searched s v a e f → f ≡ not_found → Lacks s v a e
    by f (hit i m) x = absurd (let z : ◌≡◌ {A = ℕ} 0 1 = cc in omega arith)
    by f (miss m) x = m

-- ---- a walk that stopped at p, seen up to an end before its own

pub stops_to : (s : Positions) (v : Bool) (a c e p : ℕ) → a ≤ e → e ≤ c → Stops s v a c p → Stops s v a e (min p e)
stops_to s v a c e p h l z =
    record {
      low = omega (arith, z.low);
      high = omega arith;
      passed = λ i u w. z.passed i u (omega arith);
      found = λ u. let m : min p e ≡ p = omega arith in rw m (z.found (omega arith));
    }

-- a walk up to e that stopped at p, and one from there that stopped at q: the answer of the search
pub next_cut : (s : Positions) (v : Bool) (a e p q : ℕ) → Stops s v a e (min p e) → (p < e → Stops s (not v) p e (min q e)) → next_run s v a e ≡ cut p q e
next_cut s v a e p q z y = go (ltb p (min q e)) refl
  where
    go : (b : Bool) → ltb p (min q e) ≡ b → next_run s v a e ≡ cond b (Some (run p (min q e))) None
    go true x =
        let k : p < min q e = ltb-true p (min q e) x in
        let w = y (omega arith) in
        next_is s v a e p (min q e)
        (record {
          low = omega (arith, z.low);
          some = k;
          high = omega arith;
          before = λ i u l. z.passed i u (omega arith);
          own = λ i u l. w.passed i u l ∙ Bool·not-not v;
          stops = λ l. w.found l;
        })
    go false x = next_none s v a e (λ i u w. z.passed i u (omega (arith, past (dec_lt p e))))
      where
        past : Dec (p < e) → e ≤ p
        past (no k) = omega arith
        past (yes k) =
            let w = y k in
            let l : min q e ≤ p = ltb-false p (min q e) x in
            let m : min p e ≡ p = omega arith in
            let n : min q e ≡ p = omega (arith, w.low) in
            absurd (omega (arith, apart s v p p (le_refl p) (rw m at (z.found (omega arith))) (rw n at (w.found (omega arith)))))
