-- Laws of runs: they cover the set, they are the only ascending list that does, their lengths sum to the count,
-- and giving the changed runs the other value back undoes a call. Assumes nothing.
use Rattle.positions.proofs.Kit.{◌≡◌, refl, sym, ap, ◌∙◌, fun_ext, subst, ◌≢◌, Bool, true, false, not, cond, ◌&&◌, true≢false, false≢true, List, [], ◌∷◌, ℕ, zero, suc, ◌+◌, ◌-◌, ◌≤◌, ◌<◌, add-zero, add-suc, suc-add, arith, ltb-true, ltb-false, leb-true, leb-false, le-leb, eqb-true, eqb-false, eq-eqb, ne_eqb, leb, ltb, eqb, length}
use Rattle.positions.specs.Positions.{Positions, within, assigned, count, differ, lacking}
use Rattle.positions.specs.Runs.{Run, run, glued, runs_from, runs, changed_runs, assigned_runs, covered, lengths, Ascending, Covers}
use Rattle.positions.proofs.Ranges.{Place, inside, before, behind, place, within_in, within_before, within_behind, Same, here, off, same, within_more, within_none}
use Rattle.positions.proofs.Counts.{count_split, count_none, count_same, count_all, count_empty}

-- the runs are ascending

pub ascending_from : (b c e : ℕ) (rs : List Run) → c ≤ b → Ascending b e rs → Ascending c e rs
ascending_from b c e [] h p = tt
ascending_from b c e (r ∷ rs) h p = (omega arith, p.1, p.2, p.3)

glued_ascending : (x : Bool) (a e : ℕ) (rs : List Run) → suc a ≤ e → Ascending (suc a) e rs → Ascending a e (glued x a rs)
glued_ascending false a e rs h p = ascending_from (suc a) a e rs (omega arith) p
glued_ascending true a e [] h p = (omega arith, omega arith, h, tt)
glued_ascending true a e (r ∷ rs) h p = go (eqb r.start (suc a)) refl
  where
    go : (b : Bool) → eqb r.start (suc a) ≡ b → Ascending a e (cond b (run a r.end ∷ rs) (run a (suc a) ∷ r ∷ rs))
    go true x = (omega arith, omega arith, p.2, p.3)
    go false x =
        let n : r.start ≢ suc a = eqb-false r.start (suc a) x in
        (omega arith, omega arith, h, (omega arith, p.1, p.2, p.3))

pub runs_from_ascending : (d : Positions) (a n : ℕ) → Ascending a (a + n) (runs_from d a n)
unfolding runs_from
runs_from_ascending d a zero = tt
runs_from_ascending d a (suc n) =
    glued_ascending (d a) a (a + suc n) (runs_from d (suc a) n) (omega arith)
    (rw (add-suc a n, ← suc-add a n) (runs_from_ascending d (suc a) n))

-- a position below an ascending list is not covered
pub covered_below : (b e : ℕ) (rs : List Run) → Ascending b e rs → (i : ℕ) → i < b → covered rs i ≡ false
covered_below b e [] p i h = refl
covered_below b e (r ∷ rs) p i h =
    rw (within_before r.start r.end i (omega arith), covered_below (suc r.end) e rs p.3 i (omega arith))

pub covered_above : (b e : ℕ) (rs : List Run) → Ascending b e rs → (i : ℕ) → e ≤ i → covered rs i ≡ false
covered_above b e [] p i h = refl
covered_above b e (r ∷ rs) p i h =
    rw (within_behind r.start r.end i (omega arith), covered_above (suc r.end) e rs p.3 i h)

-- the lengths of an ascending list of runs sum to the count of the positions covered
pub count_covered : (b e x : ℕ) (rs : List Run) → Ascending b e rs → x ≤ b → count (covered rs) x e ≡ lengths rs
count_covered b e x [] p h = count_none (covered []) x e (λ i u v. refl)
count_covered b e x (r ∷ rs) p h =
    rw
    (count_split (covered (r ∷ rs)) x r.start e (omega arith) (omega arith), count_split (covered (r ∷ rs)) r.start r.end e (omega arith) p.2, low, all, tail (count_covered (suc r.end) e r.end rs p.3 (omega arith)))
    (omega arith)
  where
    low : count (covered (r ∷ rs)) x r.start ≡ 0
    low = count_none (covered (r ∷ rs)) x r.start (λ i u v. covered_below r.start e (r ∷ rs) (omega arith, p.1, p.2, p.3) i v)

    all : count (covered (r ∷ rs)) r.start r.end ≡ r.end - r.start
    all = count_all (covered (r ∷ rs)) r.start r.end (λ i u v. rw (within_in r.start r.end i u v))

    tail : count (covered rs) r.end e ≡ lengths rs → count (covered (r ∷ rs)) r.end e ≡ lengths rs
    tail ih = count_same (covered (r ∷ rs)) (covered rs) r.end e (λ i u v. rw (within_behind r.start r.end i u)) ∙ ih

-- the runs cover just the positions of the set in their range

glued_covered : (x : Bool) (a e : ℕ) (rs : List Run) → Ascending (suc a) e rs → (i : ℕ)
    → covered (glued x a rs) i ≡ cond (eqb i a) x (covered rs i)
glued_covered false a e rs p i = go (same a i)
  where
    go : Same a i → covered rs i ≡ cond (eqb i a) false (covered rs i)
    go (here x y) = rw (y, covered_below (suc a) e rs p i (omega arith))
    go (off n y) = rw y
glued_covered true a e [] p i = rw (within_more a (suc a) i (omega arith), within_none (suc a) i) (both (eqb i a))
  where
    both : (b : Bool) → cond (cond b true false) true false ≡ cond b true false
    both true = refl
    both false = refl
glued_covered true a e (r ∷ rs) p i = go (eqb r.start (suc a)) refl
  where
    both : (b w x : Bool) → cond (cond b true w) true x ≡ cond b true (cond w true x)
    both true w x = refl
    both false w x = refl

    go : (b : Bool) → eqb r.start (suc a) ≡ b
        → covered (cond b (run a r.end ∷ rs) (run a (suc a) ∷ r ∷ rs)) i
        ≡ cond (eqb i a) true (cond (within r.start r.end i) true (covered rs i))
    go true x = rw (eqb-true r.start (suc a) x, within_more a r.end i (omega arith)) (both (eqb i a) (within (suc a) r.end i) (covered rs i))
    go false x = rw (within_more a (suc a) i (omega arith), within_none (suc a) i) (both (eqb i a) false (cond (within r.start r.end i) true (covered rs i)))

pub runs_from_covered : (d : Positions) (a n i : ℕ) → covered (runs_from d a n) i ≡ (within a (a + n) i && d i)
unfolding runs_from
runs_from_covered d a zero i = rw (add-zero a, within_none a i)
runs_from_covered d a (suc n) i =
    rw (glued_covered (d a) a (suc a + n) (runs_from d (suc a) n) (runs_from_ascending d (suc a) n) i, runs_from_covered d (suc a) n i, within_more a (a + suc n) i (omega arith), add-suc a n, suc-add a n)
    (go (same a i))
  where
    go : Same a i → cond (eqb i a) (d a) (within (suc a) (suc (a + n)) i && d i) ≡ (cond (eqb i a) true (within (suc a) (suc (a + n)) i) && d i)
    go (here x y) = rw (y, x)
    go (off n y) = rw y

pub runs_ascending : (d : Positions) (a e : ℕ) → a ≤ e → Ascending a e (runs d a e)
unfolding runs
runs_ascending d a e h = let p : a + (e - a) ≡ e = omega arith in rw p at (runs_from_ascending d a (e - a))

pub runs_empty : (d : Positions) (a e : ℕ) → e ≤ a → runs d a e ≡ []
unfolding runs runs_from
runs_empty d a e h = let p : e - a ≡ 0 = omega arith in rw p

pub runs_covered : (d : Positions) (a e i : ℕ) → covered (runs d a e) i ≡ (within a e i && d i)
unfolding runs
runs_covered d a e i = go (leb a e) refl
  where
    go : (b : Bool) → leb a e ≡ b → covered (runs d a e) i ≡ (within a e i && d i)
    go true x =
        let h : a ≤ e = leb-true a e x in
        let p : a + (e - a) ≡ e = omega arith in
        rw p at (runs_from_covered d a (e - a) i)
    go false x =
        let h : e < a = leb-false a e x in
        rw (runs_empty d a e (omega arith))
        (elim (place a e i) [ inside u v w ↦ absurd (omega arith) | before u w ↦ rw w | behind u w ↦ rw w ])

-- the runs' lengths sum to the count
pub runs_lengths : (d : Positions) (a e : ℕ) → lengths (runs d a e) ≡ count d a e
runs_lengths d a e = go (leb a e) refl
  where
    go : (b : Bool) → leb a e ≡ b → lengths (runs d a e) ≡ count d a e
    go true x =
        sym (count_covered a e a (runs d a e) (runs_ascending d a e (leb-true a e x)) (omega arith))
        ∙ count_same (covered (runs d a e)) d a e (λ i u v. runs_covered d a e i ∙ rw (within_in a e i u v))
    go false x =
        let h : e < a = leb-false a e x in
        rw (runs_empty d a e (omega arith), count_empty d a e (omega arith))

-- runs given a value, at one position
pub assigned_runs_at : (rs : List Run) (s : Positions) (v : Bool) (i : ℕ) → assigned_runs s rs v i ≡ cond (covered rs i) v (s i)
unfolding assigned
assigned_runs_at [] s v i = refl
assigned_runs_at (r ∷ rs) s v i =
    assigned_runs_at rs (assigned s r.start r.end v) v i ∙ swap (covered rs i) (within r.start r.end i)
  where
    swap : (c w : Bool) → cond c v (cond w v (s i)) ≡ cond (cond w true c) v (s i)
    swap true true = refl
    swap true false = refl
    swap false true = refl
    swap false false = refl

-- giving the changed runs the other value back restores the set
pub take_back_restores : (s : Positions) (a e : ℕ) (v : Bool)
    → assigned_runs (assigned s a e v) (changed_runs s a e v) (not v) ≡ s
unfolding assigned changed_runs
take_back_restores s a e v =
    fun_ext (λ i. assigned_runs_at (changed_runs s a e v) (assigned s a e v) (not v) i
    ∙ rw (runs_covered (lacking s v) a e i) (cases (within a e i) (s i) v))
  where
    cases : (w x v : Bool) → cond (w && differ x v) (not v) (cond w v x) ≡ x
    cases true true true = refl
    cases true true false = refl
    cases true false true = refl
    cases true false false = refl
    cases false true true = refl
    cases false true false = refl
    cases false false true = refl
    cases false false false = refl

-- the runs are the only ascending list that covers just the positions of the set: they are its longest stretches

run_path : (r : Run) (a e : ℕ) → r.start ≡ a → r.end ≡ e → r ≡ run a e
run_path r a e p q = λ i. record { start = p i; end = q i }

module _ (d : Positions) (a e : ℕ) (xs : List Run)
    (only : (rs : List Run) → Ascending (suc a) e rs → Covers d (suc a) e rs → rs ≡ xs) where
  -- a run that ends right after a
  short : (r : Run) (rs : List Run) → r.start ≡ a → r.end ≡ suc a → Ascending (suc (suc a)) e rs → r ∷ rs ≡ glued true a rs
  short r [] p q t = rw (run_path r a (suc a) p q)
  short r (u ∷ us) p q t = rw (ne_eqb u.start (suc a) (λ z. omega arith), run_path r a (suc a) p q)

  starts : (r : Run) (rs : List Run) → a < e → r.start ≡ a → Ascending a e (r ∷ rs) → Covers d a e (r ∷ rs) → r ∷ rs ≡ glued true a xs
  starts r rs l z p h = go (same (suc a) r.end)
    where
      go : Same (suc a) r.end → r ∷ rs ≡ glued true a xs
      go (here q y) =
          let f : rs ≡ xs
          = only rs (ascending_from (suc r.end) (suc a) e rs (omega arith) p.3)
          (λ i u v. let w : within r.start r.end i ≡ false = within_behind r.start r.end i (omega arith) in rw w at (h i (omega arith) v)) in
          rw (← f) (short r rs z q (rw q at p.3))
      go (off q y) =
          let f : run (suc a) r.end ∷ rs ≡ xs
          = only (run (suc a) r.end ∷ rs) (omega arith, omega arith, p.2, p.3)
          (λ i u v. rw (within_in_more i u) (h i (omega arith) v)) in
          rw (← f, eq-eqb (suc a) (suc a) refl, run_path r a r.end z refl)
        where
          within_in_more : (i : ℕ) → suc a ≤ i → within (suc a) r.end i ≡ within r.start r.end i
          within_in_more i u = rw (le-leb (suc a) i u, le-leb r.start i (omega arith))

  -- a list that does not start at a
  later : (rs : List Run) → d a ≡ false → a < e → Ascending a e rs → Covers d a e rs → Ascending (suc a) e rs
  later [] x l p h = tt
  later (r ∷ rs) x l p h = go (same a r.start)
    where
      go : Same a r.start → Ascending (suc a) e (r ∷ rs)
      go (here q y) =
          absurd (true≢false ((rw (within_in r.start r.end a (omega arith) (omega arith)) at (h a (omega arith) l)) ∙ x))
      go (off q y) = (omega arith, p.1, p.2, p.3)

  next : (x : Bool) → d a ≡ x → a < e → (rs : List Run) → Ascending a e rs → Covers d a e rs → rs ≡ glued x a xs
  next false x l rs p h = only rs (later rs x l p h) (λ i u v. h i (omega arith) v)
  next true x l [] p h = absurd (false≢true (h a (omega arith) l ∙ x))
  next true x l (r ∷ rs) p h = go (same a r.start)
    where
      go : Same a r.start → r ∷ rs ≡ glued true a xs
      go (here q y) = starts r rs l q p h
      go (off q y) =
          absurd
          (false≢true (sym (covered_below (suc a) e (r ∷ rs) (omega arith, p.1, p.2, p.3) a (omega arith)) ∙ h a (omega arith) l ∙ x))

pub runs_from_only : (d : Positions) (a n : ℕ) (rs : List Run) → Ascending a (a + n) rs → Covers d a (a + n) rs → rs ≡ runs_from d a n
unfolding runs_from
runs_from_only d a zero [] p h = refl
runs_from_only d a zero (r ∷ rs) p h = absurd (omega arith)
runs_from_only d a (suc n) rs p h =
    let k : a + suc n ≡ suc a + n = omega arith in
    next d a (suc a + n) (runs_from d (suc a) n) (runs_from_only d (suc a) n) (d a) refl (omega arith) rs (rw k at p) (λ i u v. h i u (omega arith))

pub runs_only : (d : Positions) (a e : ℕ) (rs : List Run) → a ≤ e → Ascending a e rs → Covers d a e rs → rs ≡ runs d a e
unfolding runs
runs_only d a e rs h p q =
    let k : e ≡ a + (e - a) = omega arith in
    runs_from_only d a (e - a) rs (subst (λ (x : ℕ). Ascending a x rs) k p) (λ i u v. q i u (omega arith))

pub runs_skip : (d : Positions) (a e : ℕ) → a < e → d a ≡ false → runs d a e ≡ runs d (suc a) e
unfolding runs runs_from
runs_skip d a e h x = let p : e - a ≡ suc (e - suc a) = omega arith in rw (p, x)

-- one run found, and the runs after it: what a loop over searches adds at each turn
pub runs_next : (d : Positions) (a p q e : ℕ) → a ≤ p → p < q → q ≤ e
    → ((i : ℕ) → a ≤ i → i < p → d i ≡ false) → ((i : ℕ) → p ≤ i → i < q → d i ≡ true) → (q < e → d q ≡ false)
    → runs d a e ≡ run p q ∷ runs d q e
runs_next d a p q e h k l low mid stop =
    sym (runs_only d a e (run p q ∷ runs d q e) (omega arith) (h, k, l, up) cover)
  where
    up : Ascending (suc q) e (runs d q e)
    up = go (ltb q e) refl
      where
        go : (b : Bool) → ltb q e ≡ b → Ascending (suc q) e (runs d q e)
        go true x =
            let m : q < e = ltb-true q e x in
            rw (runs_skip d q e m (stop m)) (runs_ascending d (suc q) e m)
        go false x = rw (runs_empty d q e (ltb-false q e x)) tt

    cover : Covers d a e (run p q ∷ runs d q e)
    cover i u v = go (place p q i)
      where
        go : Place p q i → cond (within p q i) true (covered (runs d q e) i) ≡ d i
        go (inside x y w) = rw (w, mid i x y)
        go (before x w) = rw (w, runs_covered d q e i, within_before q e i (omega arith), low i u x)
        go (behind x w) = rw (w, runs_covered d q e i, within_in q e i x v)

-- and what a first run tells: where it lies, and which positions the set has up to its end
pub record FirstRun (d : Positions) (a e p q : ℕ) : Type 0 where
  pub low : a ≤ p
  pub some : p < q
  pub high : q ≤ e
  pub own : (i : ℕ) → a ≤ i → i < q → d i ≡ within p q i

pub first_run : (d : Positions) (a e p q : ℕ) (rs : List Run) → runs d a e ≡ run p q ∷ rs → FirstRun d a e p q
first_run d a e p q rs h = by (leb a e) refl
  where
    known : Ascending a e (run p q ∷ rs) → FirstRun d a e p q
    known m = record { low = m.0; some = m.1; high = m.2; own = each }
      where
        itself : (b : Bool) → cond b true false ≡ b
        itself true = refl
        itself false = refl

        each : (i : ℕ) → a ≤ i → i < q → d i ≡ within p q i
        each i u v = sym (rw (h, within_in a e i u (omega (arith, m.2)), covered_below (suc q) e rs m.3 i (omega arith)) at (runs_covered d a e i)) ∙ itself (within p q i)

    by : (b : Bool) → leb a e ≡ b → FirstRun d a e p q
    by true x = known (rw h at (runs_ascending d a e (leb-true a e x)))
    by false x =
        let l : e < a = leb-false a e x in
        absurd (omega (arith, ap length (sym (runs_empty d a e (omega arith)) ∙ h)))

pub no_runs : (d : Positions) (a e : ℕ) → runs d a e ≡ [] → (i : ℕ) → a ≤ i → i < e → d i ≡ false
no_runs d a e h i u v = sym (rw (h, within_in a e i u v) at (runs_covered d a e i))
