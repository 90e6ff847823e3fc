-- Laws for code that walks a call's changed runs by searches, and that takes a call back run by run. Assumes nothing.
use Rattle.positions.proofs.Kit.{◌≡◌, refl, sym, ap, ◌∙◌, fun_ext, Bool, true, false, not, cond, ◌&&◌, Bool·not-not, false≢true, List, [], ◌∷◌, ◌++◌, ℕ, suc, ◌*◌, ◌-◌, ◌≤◌, ◌<◌, min, arith, leb-true, leb-false, leb, length}
use Rattle.std.proofs.Common.{Some, None}
use Rattle.positions.specs.Positions.{Positions, assigned, within, differ, lacking, count, changed_count}
use Rattle.positions.specs.Runs.{Run, run, runs, changed_runs, next_run, assigned_runs, covered, lengths, Ascending}
use Rattle.positions.proofs.Ranges.{within_in, within_behind}
use Rattle.positions.proofs.Counts.{count_all, count_empty}
use Rattle.positions.proofs.Runs.{runs_only, runs_next, runs_empty, runs_lengths, runs_ascending, runs_covered, assigned_runs_at}
use Rattle.positions.proofs.Searches.{differ_same, differ_other, next_means, none_means}

-- the changed runs, by a search: none where it finds nothing, else the run found and the runs behind it

pub changed_none : (s : Positions) (a e : ℕ) (v : Bool) → next_run s (not v) a e ≡ None → changed_runs s a e v ≡ []
unfolding changed_runs
changed_none s a e v h = by (leb a e) refl
  where
    by : (b : Bool) → leb a e ≡ b → runs (lacking s v) a e ≡ []
    by true x =
        let m = none_means s (not v) a e h in
        sym (runs_only (lacking s v) a e [] (leb-true a e x) tt (λ i u w. rw (m i u w, Bool·not-not v, differ_same v)))
    by false x = runs_empty (lacking s v) a e (omega (arith, leb-false a e x))

pub changed_next : (s : Positions) (a e : ℕ) (v : Bool) (p q : ℕ) → next_run s (not v) a e ≡ Some (run p q)
    → changed_runs s a e v ≡ run p q ∷ changed_runs s q e v
unfolding changed_runs
changed_next s a e v p q h =
    let m = next_means s (not v) a e p q h in
    runs_next (lacking s v) a p q e m.low m.some m.high
    (λ i u w. rw (m.before i u w, Bool·not-not v, differ_same v))
    (λ i u w. rw (m.own i u w, differ_other v))
    (λ w. rw (m.stops w, Bool·not-not v, differ_same v))

-- the runs that clearing changes are the set's own
pub own_runs : (s : Positions) (a e : ℕ) → changed_runs s a e false ≡ runs s a e
unfolding changed_runs
own_runs s a e = ap (λ (d : Positions). runs d a e) (fun_ext (λ i. itself (s i)))
  where
    itself : (b : Bool) → differ b false ≡ b
    itself true = refl
    itself false = refl

-- two runs have a position between them, so that n positions have at most (n + 1) / 2 runs

pub few_runs : (b e : ℕ) (rs : List Run) → Ascending b e rs → b ≤ suc e → 2 * length rs ≤ suc e - b
few_runs b e [] p h = omega arith
few_runs b e (r ∷ rs) p h = omega (arith, few_runs (suc r.end) e rs p.3 (omega arith))

pub changed_few : (s : Positions) (a e : ℕ) (v : Bool) → 2 * length (changed_runs s a e v) ≤ suc (e - a)
unfolding changed_runs
changed_few s a e v = go (leb a e) refl
  where
    go : (b : Bool) → leb a e ≡ b → 2 * length (runs (lacking s v) a e) ≤ suc (e - a)
    go true x =
        let h : a ≤ e = leb-true a e x in
        omega (arith, few_runs a e (runs (lacking s v) a e) (runs_ascending (lacking s v) a e h) (omega arith))
    go false x =
        let h : e < a = leb-false a e x in
        omega (arith, ap length (runs_empty (lacking s v) a e (omega arith)))

-- a set has a run where it has a position, and a call changes one where it changes a position

pub some_run : (d : Positions) (a e : ℕ) → min 1 (length (runs d a e)) ≡ min 1 (count d a e)
some_run d a e = go (leb a e) refl
  where
    by : (rs : List Run) → Ascending a e rs → lengths rs ≡ count d a e → min 1 (length rs) ≡ min 1 (count d a e)
    by [] p q = omega (arith, q)
    by (r ∷ rs) p q = omega (arith, p.1, q)

    go : (b : Bool) → leb a e ≡ b → min 1 (length (runs d a e)) ≡ min 1 (count d a e)
    go true x = by (runs d a e) (runs_ascending d a e (leb-true a e x)) (runs_lengths d a e)
    go false x =
        let h : e < a = leb-false a e x in
        rw (runs_empty d a e (omega arith), count_empty d a e (omega arith))

pub changed_some : (s : Positions) (a e : ℕ) (v : Bool) → min 1 (length (changed_runs s a e v)) ≡ min 1 (changed_count s a e v)
unfolding changed_runs changed_count
changed_some s a e v = some_run (lacking s v) a e

-- taking back, run by run

pub assigned_runs_then : (s : Positions) (rs : List Run) (r : Run) (v : Bool)
    → assigned_runs s (rs ++ r ∷ []) v ≡ assigned (assigned_runs s rs v) r.start r.end v
assigned_runs_then s [] r v = refl
assigned_runs_then s (x ∷ xs) r v = assigned_runs_then (assigned s x.start x.end v) xs r v

-- the changed count is the sum of the changed runs' lengths
pub changed_lengths : (s : Positions) (a e : ℕ) (v : Bool) → lengths (changed_runs s a e v) ≡ changed_count s a e v
unfolding changed_runs changed_count
changed_lengths s a e v = runs_lengths (lacking s v) a e

-- a position of a run is in no run before it
earlier_lack : (b e : ℕ) (ps : List Run) (r : Run) (qs : List Run) → Ascending b e (ps ++ r ∷ qs) → (i : ℕ) → r.start ≤ i → covered ps i ≡ false
earlier_lack b e [] r qs h i u = refl
earlier_lack b e (p ∷ ps) r qs h i u =
    rw (within_behind p.start p.end i (omega (arith, bound (suc p.end) e ps r qs h.3)), earlier_lack (suc p.end) e ps r qs h.3 i u)
  where
    bound : (b e : ℕ) (ps : List Run) (r : Run) (qs : List Run) → Ascending b e (ps ++ r ∷ qs) → b ≤ r.start
    bound b e [] r qs h = h.0
    bound b e (p ∷ ps) r qs h = omega (arith, bound (suc p.end) e ps r qs h.3)

-- and in the whole list
whole_has : (ps : List Run) (r : Run) (qs : List Run) (i : ℕ) → r.start ≤ i → i < r.end → covered (ps ++ r ∷ qs) i ≡ true
whole_has [] r qs i u w = rw (within_in r.start r.end i u w)
whole_has (p ∷ ps) r qs i u w = rw (whole_has ps r qs i u w) (both (within p.start p.end i))
  where
    both : (b : Bool) → cond b true true ≡ true
    both true = refl
    both false = refl

-- taking one of the changed runs back, after those before it, changes each of its positions
pub back_changes : (s : Positions) (a e : ℕ) (v : Bool) (ps : List Run) (r : Run) (qs : List Run) → a ≤ e → changed_runs s a e v ≡ ps ++ r ∷ qs
    → changed_count (assigned_runs (assigned s a e v) ps (not v)) r.start r.end (not v) ≡ r.end - r.start
unfolding changed_count changed_runs assigned
back_changes s a e v ps r qs l h =
    count_all (lacking (assigned_runs (assigned s a e v) ps (not v)) (not v)) r.start r.end each
  where
    asc : Ascending a e (ps ++ r ∷ qs)
    asc = rw h at (runs_ascending (lacking s v) a e l)

    marked : (i : ℕ) → (within a e i && differ (s i) v) ≡ true → assigned s a e v i ≡ v
    marked i x = go (within a e i) (differ (s i) v) x
      where
        go : (w d : Bool) → (w && d) ≡ true → cond w v (s i) ≡ v
        go true d x = refl
        go false d x = absurd (false≢true x)

    turned : (v : Bool) → differ v (not v) ≡ true
    turned true = refl
    turned false = refl

    each : (i : ℕ) → r.start ≤ i → i < r.end → differ (assigned_runs (assigned s a e v) ps (not v) i) (not v) ≡ true
    each i u w =
        rw (assigned_runs_at ps (assigned s a e v) (not v) i, earlier_lack a e ps r qs asc i u, marked i (sym (runs_covered (lacking s v) a e i) ∙ ap (λ (x : List Run). covered x i) h ∙ whole_has ps r qs i u w))
        (turned v)
