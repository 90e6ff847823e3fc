-- Laws of the walk: the runs by a search each, counted, few enough, and written by those above, each run as the numbers that `code`
-- makes of it. Assumes nothing.
use Rattle.set_runs.proofs.Kit.{◌≡◌, refl, sym, ap, ◌∙◌, ◌⊎◌, inl, inr, Bool, true, false, not, List, [], ◌∷◌, ◌++◌, append_assoc, append-nil, ℕ, ◌+◌, ◌*◌, ◌-◌, ◌≤◌, ◌<◌, arith, leb-true, leb-false, le-leb, lt-leb, leb, length, get_or, take, subst, dec_lt}
use Rattle.positions.specs.Positions.{Positions}
use Rattle.positions.specs.Runs.{Run, run, next_run, changed_runs, encoded}
use Rattle.positions.specs.Replies.{of_run}
use Rattle.positions.proofs.Changes.{changed_none, changed_next, changed_few}
use Rattle.range_bitset.specs.Represents.{Represents}
use Rattle.range_bitset.specs.Answers.{Found, of_found, range_refusal}
use Rattle.range_bitset.specs.Entries.{NextEnsures}
use Rattle.std.proofs.Common.{Ok, Err, Option, Some, None}
use Rattle.answers.specs.Refusals.{of_range}
use Rattle.std.specs.Result.{result_unwrap_or}
use Rattle.range_bitset.specs.declared.RangeBitset.{RangeBitset}
use Rattle.range_bitset.proofs.AcceptedHeads.{range_accepted}
use Rattle.std.specs.declared.ops.Range.{Range}
use Rattle.set_runs.specs.Runs.{GivesRun}
use Rattle.set_runs.specs.declared.Runs.{Runs}
use Rattle.std.specs.declared.iter.Take.{Take}
use Rattle.std.specs.Iterator.{YieldsThen}
use Rattle.std.specs.Iterator.Adapters.{take_steps}
use Rattle.set_runs.specs.Walks.{Finds, RunsFit, CountsRuns, WritesRuns}

-- ---- a search of the set: what it answers, and that a run that it finds is within the largest capacity

abbrev found_in : Found → Option (Range ℕ)
found_in r = result_unwrap_or r None

pub found_run : (h : RangeBitset) (st : List ℕ) (a e : ℕ) (v : Bool) (r : Found) → NextEnsures (not v) h st a e r → Finds h st a e v (found_in r)
found_run h st a e v r n = record { ahead = lies r n; first = λ z s t. same r (next_run s (not v) a e) (n.query.answers z s t) }
  where
    lies : (r : Found) → NextEnsures (not v) h st a e r → (q : Range ℕ) → found_in r ≡ Some q → (a ≤ q.start) × (q.start < q.end) × (q.end ≤ e) × (e ≤ 262144)
    lies (Ok (Some x)) n q k =
        let b = range_accepted h st e (sym n.query.refuses) in
        let same : x ≡ q = cc in
        rw (← same) (n.lies.0, n.lies.1, n.lies.2, omega (arith, b.0.most, b.1))
    lies (Ok None) n q k = absurd (let z : ◌≡◌ {A = ℕ} 0 1 = cc in omega arith)
    lies (Err x) n q k = absurd (let z : ◌≡◌ {A = ℕ} 0 1 = cc in omega arith)

    same : (r : Found) (f : Option Run) → of_found r ≡ of_run f → of_range (found_in r) ≡ of_run f
    same (Ok x) f k = k
    same (Err x) (Some y) k = cc
    same (Err x) None k = cc

-- ---- the changed runs, one by each search, on the memory that was searched

none_of : (f : Option Run) → of_range None ≡ of_run f → f ≡ None
none_of (Some x) k = absurd (let z : ◌≡◌ {A = ℕ} 0 1 = cc in omega arith)
none_of None k = refl

run_of : (f : Option Run) (q : Range ℕ) → of_range (Some q) ≡ of_run f → f ≡ Some (run q.start q.end)
run_of (Some x) q k =
    let a : q.start ≡ x.start = cc in
    let b : q.end ≡ x.end = cc in
    rw (a, b) refl
run_of None q k = absurd (let z : ◌≡◌ {A = ℕ} 0 1 = cc in omega arith)

module _ (h : RangeBitset) (st : List ℕ) (from e : ℕ) (v : Bool) (z : range_refusal h (length st) e ≡ 0) (s : Positions) (r : Represents h st s) where
  pub none_left : Finds h st from e v None → changed_runs s from e v ≡ []
  none_left x = changed_none s from e v (none_of _ (x.first z s r))

  pub run_found : (q : Range ℕ) → Finds h st from e v (Some q) → changed_runs s from e v ≡ run q.start q.end ∷ changed_runs s q.end e v
  run_found q x = changed_next s from e v q.start q.end (run_of _ q (x.first z s r))

-- ---- the iterator

-- it walks over the runs of ..e that giving it the value v changes
pub record Along (h : RangeBitset) (st : List ℕ) (e : ℕ) (v : Bool) (x : Runs) : Type 0 where
  pub set_is : x.set ≡ h
  pub storage_is : x.storage.now ≡ st
  pub end_is : x.end ≡ e
  pub value_is : x.value ≡ v

pub along_itself : (x : Runs) → Along x.set x.storage.now x.end x.value x
along_itself x = record { set_is = refl; storage_is = refl; end_is = refl; value_is = refl }

module _ (h : RangeBitset) (st : List ℕ) (e : ℕ) (v : Bool) (x : Runs) (a : Along h st e v x) where
  pub along_next : (r : Option (Range ℕ)) (x' : Runs) → GivesRun x r x' → Along h st e v x'
  along_next r x' g =
      record {
        set_is = g.same_set ∙ a.set_is;
        storage_is = ap (λ (b : _). b.now) g.same_storage ∙ a.storage_is;
        end_is = g.same_end ∙ a.end_is;
        value_is = g.same_value ∙ a.value_is;
      }

  pub along_finds : (r : Option (Range ℕ)) (x' : Runs) → GivesRun x r x' → Finds h st x.from e v r
  along_finds r x' g = rw (← a.set_is, ← a.storage_is, ← a.end_is, ← a.value_is) g.finds

-- ---- counting

-- n runs are counted, and the rest lie from `from` on
abbrev pub Counting : RangeBitset → List ℕ → ℕ → ℕ → Bool → ℕ → ℕ → Type 0
Counting h st a e v n from =
    range_refusal h (length st) e ≡ 0 → (s : Positions) → Represents h st s
    → n + length (changed_runs s from e v) ≡ length (changed_runs s a e v)

pub counting_start : (h : RangeBitset) (st : List ℕ) (a e : ℕ) (v : Bool) → Counting h st a e v 0 a
counting_start h st a e v z s r = omega arith

pub counting_next : (h : RangeBitset) (st : List ℕ) (a e : ℕ) (v : Bool) (n from : ℕ) (q : Range ℕ)
    → Finds h st from e v (Some q) → Counting h st a e v n from → Counting h st a e v (n + 1) q.end
counting_next h st a e v n from q x k z s r =
    omega (arith, k z s r, ap length (run_found h st from e v z s r q x))

pub counting_done : (h : RangeBitset) (st : List ℕ) (a e : ℕ) (v : Bool) (most n from : ℕ)
    → Finds h st from e v None → n ≤ most → Counting h st a e v n from → CountsRuns h st a e v most n
counting_done h st a e v most n from x m k =
    record { most_runs = m; counted = λ z s r. omega (arith, k z s r, ap length (none_left h st from e v z s r x)) }

pub counting_most : (h : RangeBitset) (st : List ℕ) (a e : ℕ) (v : Bool) (most n from : ℕ)
    → n ≤ most → most ≤ n → Counting h st a e v n from → CountsRuns h st a e v most n
counting_most h st a e v most n from l m k = record { most_runs = l; counted = λ z s r. omega (arith, k z s r) }

-- n are counted, and then the runs xs that the iterator gives, of which it takes as many as are still to be counted
pub counted : (h : RangeBitset) (st : List ℕ) (a e : ℕ) (v : Bool) (most n r : ℕ) (xs : List (Range ℕ)) (x u : Take Runs) → Along h st e v x.iter
    → n + x.n ≡ most → r ≡ n + length xs → Counting h st a e v n x.iter.from → YieldsThen (take_steps GivesRun) x xs None u → CountsRuns h st a e v most r
counted h st a e v most n r [] x u w m l k (t, same, g) = let same_number : n ≡ r = omega (arith, l) in subst (CountsRuns h st a e v most) same_number (by (dec_lt 0 x.n))
  where
    by : Dec (0 < x.n) → CountsRuns h st a e v most n
    by (yes p) =
        let ends = subst (λ (y : Take Runs). take_steps GivesRun y None u) (sym same) g p in
        counting_done h st a e v most n x.iter.from (along_finds h st e v x.iter w None u.iter ends) (omega arith) k
    by (no p) = counting_most h st a e v most n x.iter.from (omega arith) (omega arith) k
counted h st a e v most n r (q ∷ xs) x u w m l k (t, (x', (g, c), y), z) =
    counted h st a e v most (n + 1) r xs x' u (along_next h st e v x.iter w (Some q) x'.iter g) (omega (arith, m, c)) (omega (arith, l))
    (rw (g.behind q refl) (counting_next h st a e v n x.iter.from q (along_finds h st e v x.iter w (Some q) x'.iter g) k)) (t, y, z)

-- ---- fitting

-- a range of at most 2 · most positions
pub fits_short : (h : RangeBitset) (st : List ℕ) (a e : ℕ) (v : Bool) (most : ℕ) → e - a ≤ 2 * most → RunsFit h st a e v most true
fits_short h st a e v most l =
    record { short = λ x. refl; fits = λ z s r. sym (le-leb (length (changed_runs s a e v)) most (omega (arith, changed_few s a e v))) }

pub fits_counted : (h : RangeBitset) (st : List ℕ) (a e : ℕ) (v : Bool) (most n : ℕ) → 2 * most < e - a → CountsRuns h st a e v (most + 1) n → RunsFit h st a e v most (leb n most)
fits_counted h st a e v most n l c = record { short = λ x. absurd (omega arith); fits = λ z s r. by z s r (leb n most) refl }
  where
    by : range_refusal h (length st) e ≡ 0 → (s : Positions) → Represents h st s → (b : Bool) → leb n most ≡ b → b ≡ leb (length (changed_runs s a e v)) most
    by z s r true x = sym (le-leb (length (changed_runs s a e v)) most (omega (arith, leb-true n most x, c.counted z s r)))
    by z s r false x = sym (lt-leb (length (changed_runs s a e v)) most (omega (arith, leb-false n most x, c.counted z s r)))

-- ---- writing

-- i runs are written from u to `at`, and the rest lie from `from` on; x₀ is the list before, x as it is now
pub record Writing (code : Run → List ℕ) (h : RangeBitset) (st : List ℕ) (a e : ℕ) (v : Bool) (u : ℕ) (x₀ x : List ℕ) (i at from : ℕ) : Type 0 where
  pub low : u ≤ at
  pub same_length : length x ≡ length x₀
  pub others : (k : ℕ) → (k < u) ⊎ (at ≤ k) → get_or x k 0 ≡ get_or x₀ k 0
  pub left : Counting h st a e v i from
  pub so_far : range_refusal h (length st) e ≡ 0 → (s : Positions) → Represents h st s
      → take at x ++ encoded code (changed_runs s from e v) ≡ take u x₀ ++ encoded code (changed_runs s a e v)

-- the numbers l put into the list x from `at` to at'; x' is the list afterwards
pub record Puts (l : List ℕ) (at at' : ℕ) (x x' : List ℕ) : Type 0 where
  pub low : at ≤ at'
  pub same_length : length x' ≡ length x
  pub others : (k : ℕ) → (k < at) ⊎ (at' ≤ k) → get_or x' k 0 ≡ get_or x k 0
  pub here : take at' x' ≡ take at x ++ l

-- the run that was found is put behind the others
pub writing_next : (code : Run → List ℕ) (h : RangeBitset) (st : List ℕ) (a e : ℕ) (v : Bool) (u : ℕ) (x₀ x x' : List ℕ) (i from : ℕ) (q : Range ℕ) (at at' : ℕ)
    → Finds h st from e v (Some q) → Puts (code (run q.start q.end)) at at' x x' → Writing code h st a e v u x₀ x i at from
    → Writing code h st a e v u x₀ x' (i + 1) at' q.end
writing_next code h st a e v u x₀ x x' i from q at at' k n w =
    record {
      low = omega (arith, n.low, w.low);
      same_length = n.same_length ∙ w.same_length;
      others = rest;
      left = counting_next h st a e v i from q k w.left;
      so_far = λ z s r. joined s (run_found h st from e v z s r q k) (w.so_far z s r);
    }
  where
    rest : (c : ℕ) → (c < u) ⊎ (at' ≤ c) → get_or x' c 0 ≡ get_or x₀ c 0
    rest c (inl b) = n.others c (inl (omega (arith, w.low))) ∙ w.others c (inl b)
    rest c (inr b) = n.others c (inr b) ∙ w.others c (inr (omega (arith, n.low)))

    joined : (s : Positions) → changed_runs s from e v ≡ run q.start q.end ∷ changed_runs s q.end e v
        → take at x ++ encoded code (changed_runs s from e v) ≡ take u x₀ ++ encoded code (changed_runs s a e v)
        → take at' x' ++ encoded code (changed_runs s q.end e v) ≡ take u x₀ ++ encoded code (changed_runs s a e v)
    joined s c d =
        rw (n.here, append_assoc (take at x) (code (run q.start q.end)) (encoded code (changed_runs s q.end e v))) (rw c at d)

-- a step of the iterator, whose run is put behind the others
pub writing_one : (code : Run → List ℕ) (h : RangeBitset) (st : List ℕ) (a e : ℕ) (v : Bool) (u : ℕ) (l₀ l l' : List ℕ) (i at at' : ℕ) (x x' : Runs) (q : Range ℕ)
    → Along h st e v x → GivesRun x (Some q) x' → Puts (code (run q.start q.end)) at at' l l'
    → Writing code h st a e v u l₀ l i at x.from → Writing code h st a e v u l₀ l' (i + 1) at' x'.from
writing_one code h st a e v u l₀ l l' i at at' x x' q w g n k =
    rw (g.behind q refl) (writing_next code h st a e v u l₀ l l' i x.from q at at' (along_finds h st e v x w (Some q) x' g) n k)

-- the loop ends where no run is left, as far as all of them fit
writing_ends : (code : Run → List ℕ) (h : RangeBitset) (st : List ℕ) (a e : ℕ) (v : Bool) (u most : ℕ) (x₀ x : List ℕ) (i at from : ℕ) → i ≤ most
    → (range_refusal h (length st) e ≡ 0 → (s : Positions) → Represents h st s → length (changed_runs s a e v) ≤ most → length (changed_runs s from e v) ≡ 0)
    → Writing code h st a e v u x₀ x i at from → WritesRuns code h st a e v most i u at x₀ x
writing_ends code h st a e v u most x₀ x i at from l none w =
    record {
      most_runs = l;
      same_length = w.same_length;
      others = w.others;
      all_runs = λ z s r t. omega (arith, w.left z s r, none z s r t);
      written_are = λ z s r t. closed s (none z s r t) (w.so_far z s r);
    }
  where
    empty : (rs : List Run) → length rs ≡ 0 → encoded code rs ≡ []
    empty [] b = refl
    empty (r ∷ rs) b = absurd (omega arith)

    closed : (s : Positions) → length (changed_runs s from e v) ≡ 0 → take at x ++ encoded code (changed_runs s from e v) ≡ take u x₀ ++ encoded code (changed_runs s a e v)
        → take at x ≡ take u x₀ ++ encoded code (changed_runs s a e v)
    closed s b d = rw (← d, empty (changed_runs s from e v) b, append-nil (take at x))

-- as many runs as may be written were taken, or the iterator has none left
pub writing_last : (code : Run → List ℕ) (h : RangeBitset) (st : List ℕ) (a e : ℕ) (v : Bool) (u most left : ℕ) (l₀ l : List ℕ) (i at : ℕ) (x x' : Runs)
    → Along h st e v x → (0 < left → GivesRun x None x') → i + left ≡ most → Writing code h st a e v u l₀ l i at x.from
    → WritesRuns code h st a e v most i u at l₀ l
writing_last code h st a e v u most left l₀ l i at x x' w g m k = by (dec_lt 0 left)
  where
    by : Dec (0 < left) → WritesRuns code h st a e v most i u at l₀ l
    by (yes p) =
        writing_ends code h st a e v u most l₀ l i at x.from (omega arith) (λ z s r t. ap length (none_left h st x.from e v z s r (along_finds h st e v x w None x' (g p)))) k
    by (no p) = writing_ends code h st a e v u most l₀ l i at x.from (omega arith) (λ z s r t. omega (arith, k.left z s r)) k
