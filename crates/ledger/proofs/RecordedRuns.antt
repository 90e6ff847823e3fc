-- Laws for marking and clearing: how many journal numbers a call can need, and the runs that it changes written into the journal, with
-- its closing number behind them. Assumes nothing.
use Rattle.ledger.proofs.Kit.{◌≡◌, refl, sym, ap, ◌∙◌, ◌⊎◌, inl, inr, Bool, cond, List, [], ◌∷◌, ◌++◌, append_assoc, ℕ, suc, ◌+◌, ◌-◌, ◌*◌, ◌/◌, ◌≤◌, ◌<◌, arith, lt-ltb, le-ltb, ltb, length, get_or, take, set, length-set, get_or-set_other, take-suc-set}
use Rattle.positions.specs.Positions.{Positions, one, changed_count}
use Rattle.positions.specs.Runs.{Run, run, changed_runs}
use Rattle.positions.proofs.Changes.{changed_few, changed_some}
use Rattle.range_bitset.specs.declared.RangeBitset.{RangeBitset}
use Rattle.set_runs.specs.Walks.{WritesRuns}
use Rattle.set_runs.proofs.RunWalks.{Puts}
use Rattle.ledger.specs.Machine.{Call, range, back, wipe}
use Rattle.ledger.specs.Journal.{pair, pairs, entry, written}
use Rattle.ledger.specs.Entries.{call_need, most_need}
use Rattle.ledger.specs.Inner.{numbers_added, WritesCall}
use Rattle.ledger.proofs.Machines.{numbers_sum, need_sum}

-- ---- what a call needs

-- no call needs more than its length lets it
pub need_most : (c : Call) (s : Positions) → call_need c s ≤ most_need c
need_most (range a e v) s = omega (arith, changed_few s a e v, need_sum s a e v, numbers_sum ((e - a + 1) / 2))
need_most back s = omega arith
need_most wipe s = omega arith

-- ---- writing

-- two numbers written at a place
two : (j : List ℕ) (at x y : ℕ) → at + 1 < length j → take (at + 2) (set (set j at x) (at + 1) y) ≡ take at j ++ x ∷ y ∷ []
two j at x y h =
    let p : at + 2 ≡ suc (suc at) = omega arith in
    let q : at + 1 ≡ suc at = omega arith in
    rw (p, q, take-suc-set (set j at x) (suc at) y (omega (arith, length-set j at x)), take-suc-set j at x (omega arith))
    (append_assoc (take at j) (x ∷ []) (y ∷ []))

-- a number outside them is as it was
apart : (j : List ℕ) (at x y k : ℕ) → (k < at) ⊎ (at + 2 ≤ k) → get_or (set (set j at x) (at + 1) y) k 0 ≡ get_or j k 0
apart j at x y k (inl h) = get_or-set_other (set j at x) (at + 1) k y 0 (λ z. omega arith) ∙ get_or-set_other j at k x 0 (λ z. omega arith)
apart j at x y k (inr h) = get_or-set_other (set j at x) (at + 1) k y 0 (λ z. omega arith) ∙ get_or-set_other j at k x 0 (λ z. omega arith)

-- a run's two ends
pub stored_pair : (j : List ℕ) (at at' x y : ℕ) → at' ≡ at + 2 → at + 1 < length j
    → Puts (pair (run x y)) at at' j (set (set j at x) (at + 1) y)
stored_pair j at at' x y e h =
    record {
      low = omega arith;
      same_length = length-set (set j at x) (at + 1) y ∙ length-set j at x;
      others = outside;
      here = rw e (two j at x y h);
    }
  where
    outside : (i : ℕ) → (i < at) ⊎ (at' ≤ i) → get_or (set (set j at x) (at + 1) y) i 0 ≡ get_or j i 0
    outside i (inl b) = apart j at x y i (inl b)
    outside i (inr b) = apart j at x y i (inr (omega arith))

-- the closing number behind the runs, where there are any
pub writing_closed : (h : RangeBitset) (st : List ℕ) (a e : ℕ) (v : Bool) (u most : ℕ) (j₀ j : List ℕ) (n x at u' : ℕ)
    → at ≡ u + 2 * n → at < length j → 0 < n → x ≡ 2 * n + one v → u' ≡ at + 1 → WritesRuns pair h st a e v most n u (u + 2 * n) j₀ j
    → WritesCall h st a e v u most u' j₀ (set j at x)
unfolding written numbers_added
writing_closed h st a e v u most j₀ j n x at u' o f p k g w =
    record {
      most_used = omega (arith, w.most_runs, numbers_sum most);
      others = rest;
      in_use = λ z s r t. omega (arith, w.all_runs z s r t, need_sum s a e v);
      written_is = λ z s r t. closed s (w.all_runs z s r t) (w.written_are z s r t);
    }
  where
    rest : (c : ℕ) → (c < u) ⊎ (u' ≤ c) → get_or (set j at x) c 0 ≡ get_or j₀ c 0
    rest c (inl b) = get_or-set_other j at c x 0 (λ z. omega arith) ∙ w.others c (inl b)
    rest c (inr b) = get_or-set_other j at c x 0 (λ z. omega arith) ∙ w.others c (inr (omega arith))

    closed : (s : Positions) → n ≡ length (changed_runs s a e v) → take (u + 2 * n) j ≡ take u j₀ ++ pairs (changed_runs s a e v)
        → take u' (set j at x) ≡ take u j₀ ++ cond (ltb 0 (changed_count s a e v)) (entry (changed_runs s a e v) v) []
    closed s b d =
        let some : 0 < changed_count s a e v = omega (arith, changed_some s a e v) in
        let m : u' ≡ suc at = omega arith in
        let y : x ≡ 2 * length (changed_runs s a e v) + one v = omega arith in
        rw (lt-ltb 0 (changed_count s a e v) some, m, take-suc-set j at x f, y, o, d) (append_assoc (take u j₀) (pairs (changed_runs s a e v)) ((2 * length (changed_runs s a e v) + one v) ∷ []))

-- no run is written, and so no number
pub writing_none : (h : RangeBitset) (st : List ℕ) (a e : ℕ) (v : Bool) (u most : ℕ) (j₀ j : List ℕ) (n : ℕ)
    → n ≡ 0 → WritesRuns pair h st a e v most n u (u + 2 * n) j₀ j → WritesCall h st a e v u most u j₀ j
unfolding numbers_added
writing_none h st a e v u most j₀ j n p w =
    record {
      most_used = omega arith;
      others = λ c b. w.others c (outside c b);
      in_use = λ z s r t. omega (arith, w.all_runs z s r t, need_sum s a e v);
      written_is = λ z s r t. left s (w.all_runs z s r t) (w.written_are z s r t);
    }
  where
    empty : (rs : List Run) → length rs ≡ 0 → rs ≡ []
    empty [] e = refl
    empty (r ∷ rs) e = absurd (omega arith)

    same : u + 2 * n ≡ u
    same = omega arith

    outside : (c : ℕ) → (c < u) ⊎ (u ≤ c) → (c < u) ⊎ (u + 2 * n ≤ c)
    outside c (inl b) = inl b
    outside c (inr b) = inr (omega arith)

    left : (s : Positions) → n ≡ length (changed_runs s a e v) → take (u + 2 * n) j ≡ take u j₀ ++ pairs (changed_runs s a e v)
        → take u j ≡ take u j₀ ++ cond (ltb 0 (changed_count s a e v)) (written s a e v) []
    left s b d =
        let none : changed_count s a e v ≤ 0 = omega (arith, changed_some s a e v) in
        rw (le-ltb 0 (changed_count s a e v) none) (sym (ap (λ (k : ℕ). take k j) same) ∙ d ∙ ap (λ (rs : List Run). take u j₀ ++ pairs rs) (empty (changed_runs s a e v) (omega arith)))
