-- Laws for code that gives runs one value, one run after the other: one run more, the runs read from a journal or from a
-- saved list, and what taking a call's changed runs back changes. Assumes nothing.
use Rattle.ledger.proofs.Kit.{◌≡◌, refl, sym, ap, ◌∙◌, subst, Bool, true, false, not, ◌&&◌, ◌||◌, or-false, List, [], ◌∷◌, ◌++◌, append_assoc, ℕ, zero, suc, ◌+◌, ◌*◌, ◌-◌, ◌%◌, ◌≤◌, ◌<◌, zero-add, add-one, arith, lt-ltb, ltb-true, ltb-false, leb-true, leb-false, ne_eqb, eqb, ltb, leb, length, length-append, get_or, get_or-append, get_or-append-add, take, get_or-take}
use Rattle.positions.specs.Positions.{Positions, assigned, changed_count, lacking}
use Rattle.positions.specs.Runs.{Run, run, runs, changed_runs, assigned_runs, lengths, Ascending}
use Rattle.positions.proofs.Bools.{same₄}
use Rattle.positions.proofs.Runs.{runs_ascending, runs_empty}
use Rattle.positions.proofs.Changes.{assigned_runs_then, back_changes, changed_lengths}
use Rattle.range_bitset.specs.Represents.{Represents, capacity_of}
use Rattle.std.proofs.Common.{Ok, Err, drop, length-drop, length-take-le}
use Rattle.std.proofs.lemmas.List.{get_or-drop}
use Rattle.positions.specs.Replies.{number, numbers}
use Rattle.answers.specs.Refusals.{answer_in, head_after}
use Rattle.range_bitset.specs.Answers.{Counted, Assigned, of_assigned, storage_refusal, range_refusal}
use Rattle.range_bitset.specs.Entries.{AssignEnsures}
use Rattle.range_bitset.specs.declared.RangeBitset.{RangeBitset}
use Rattle.saved_list.specs.Format.{run_at, runs_after, held_count}
use Rattle.saved_list.specs.Answers.{run_reply, index_after}
use Rattle.saved_list.specs.declared.Runs.{Runs}
use Rattle.saved_list.proofs.GoodFiles.{found_is, found_none}
use Rattle.saved_list.proofs.Turns.{moved_on}
use Rattle.saved_list.proofs.Lists.{runs_more}
use Rattle.ledger.specs.Inner.{read_runs, changed_by_runs, Within, any_run, Reassigns, AssignsRuns, file_runs}
use Rattle.range_bitset.proofs.AcceptedHeads.{storage_again, range_accepts}

-- ---- a list with one run more

within_last : (c : ℕ) (rs : List Run) (r : Run) → Within c (rs ++ r ∷ []) → Within c rs × (r.end ≤ c)
within_last c [] r w = (tt, w.0)
within_last c (x ∷ xs) r w = let q = within_last c xs r w.1 in ((w.0, q.0), q.1)

any_last : (rs : List Run) (r : Run) → any_run (rs ++ r ∷ []) ≡ (any_run rs || ltb r.start r.end)
any_last [] r = or-false (ltb r.start r.end)
any_last (x ∷ xs) r = rw (any_last xs r) (by (ltb x.start x.end))
  where
    by : (l : Bool) → (l || (any_run xs || ltb r.start r.end)) ≡ ((l || any_run xs) || ltb r.start r.end)
    by true = refl
    by false = refl

changed_last : (s : Positions) (rs : List Run) (r : Run) (v : Bool)
    → changed_by_runs s (rs ++ r ∷ []) v ≡ changed_by_runs s rs v + changed_count (assigned_runs s rs v) r.start r.end v
changed_last s [] r v = omega arith
changed_last s (x ∷ xs) r v = omega (arith, changed_last (assigned s x.start x.end v) xs r v)

-- ---- one run more given the value

pub reassigns_none : (h : RangeBitset) (st : List ℕ) (v : Bool) → Reassigns h st [] v h st
reassigns_none h st v =
    record { same_words = refl; storage_kept = refl; represents = λ z s t w. t; flag = λ z s t w. by h.allocated v }
  where
    by : (x v : Bool) → x ≡ (x || (v && false))
    by true v = refl
    by false true = refl
    by false false = refl

pub assigns_none : (h : RangeBitset) (st : List ℕ) (v : Bool) → AssignsRuns h st [] v 0 h st
assigns_none h st v = record { reassigns = reassigns_none h st v; changed = λ z s t w. refl }

-- the count of an assignment, 0 where it is refused
abbrev pub count_in : Counted → ℕ
count_in (Ok n) = n
count_in (Err k) = 0

module _ (h : RangeBitset) (st : List ℕ) (rs : List Run) (v : Bool) (h₁ : RangeBitset) (st₁ : List ℕ) (p : Reassigns h st rs v h₁ st₁)
    (long : length st₁ ≡ length st) (r : Run) (d : Assigned) (st₂ : List ℕ) (e : AssignEnsures h₁ st₁ r.start r.end v d st₂) where
  module _ (z : storage_refusal h (length st) ≡ 0) (s : Positions) (t : Represents h st s) (w : Within (capacity_of h) (rs ++ r ∷ [])) where
    before : Represents h₁ st₁ (assigned_runs s rs v)
    before = p.represents z s t (within_last (capacity_of h) rs r w).0

    ok : range_refusal h₁ (length st₁) r.end ≡ 0
    ok =
        range_accepts h₁ (length st₁) r.end (storage_again h h₁ (length st) (length st₁) st₁ (assigned_runs s rs v) z p.same_words before long)
        (omega (arith, p.same_words, (within_last (capacity_of h) rs r w).1))

    flag_is : (head_after h₁ d).allocated ≡ (h.allocated || (v && any_run (rs ++ r ∷ [])))
    flag_is =
        ap (λ (x : RangeBitset). x.allocated) (e.head ok (assigned_runs s rs v) before)
        ∙ rw (p.flag z s t (within_last (capacity_of h) rs r w).0, any_last rs r)
        (same₄ (λ x v a b. (x || (v && a)) || (v && b)) (λ x v a b. x || (v && (a || b))) tt h.allocated v (any_run rs) (ltb r.start r.end))

    count_after : count_in (answer_in d) ≡ changed_count (assigned_runs s rs v) r.start r.end v
    count_after = by d (e.answers ok (assigned_runs s rs v) before)
      where
        by : (d : Assigned) → of_assigned d ≡ number (changed_count (assigned_runs s rs v) r.start r.end v)
            → count_in (answer_in d) ≡ changed_count (assigned_runs s rs v) r.start r.end v
        by (Ok c) q = cc
        by (Err k) q = cc

  pub reassigns_more : Reassigns h st (rs ++ r ∷ []) v (head_after h₁ d) st₂
  reassigns_more =
      record {
        same_words = e.same_words ∙ p.same_words;
        storage_kept = (rw p.same_words at e.storage_kept) ∙ p.storage_kept;
        represents = λ z s t w. rw (assigned_runs_then s rs r v) (e.represents (ok z s t w) (assigned_runs s rs v) (before z s t w));
        flag = flag_is;
      }

pub assigns_more : (h : RangeBitset) (st : List ℕ) (rs : List Run) (v : Bool) (n : ℕ) (h₁ : RangeBitset) (st₁ : List ℕ) → AssignsRuns h st rs v n h₁ st₁
    → length st₁ ≡ length st → (r : Run) (d : Assigned) (st₂ : List ℕ) → AssignEnsures h₁ st₁ r.start r.end v d st₂
    → (c m : ℕ) → c ≡ count_in (answer_in d) → m ≡ (n + c) % 4294967296 → AssignsRuns h st (rs ++ r ∷ []) v m (head_after h₁ d) st₂
assigns_more h st rs v n h₁ st₁ p long r d st₂ e c m ec em =
    record {
      reassigns = reassigns_more h st rs v h₁ st₁ p.reassigns long r d st₂ e;
      changed = λ z s t w.
          omega
          (arith, em, ec, count_after h st rs v h₁ st₁ p.reassigns long r d st₂ e z s t w, p.changed z s t (within_last (capacity_of h) rs r w).0, changed_last s rs r v);
    }

-- ---- runs read from a journal

read_more : (j : List ℕ) (at n : ℕ) → read_runs j at (suc n) ≡ read_runs j at n ++ (run (get_or j (at + 2 * n) 0) (get_or j (at + 2 * n + 1) 0) ∷ [])
read_more j at zero = let p : at + 2 * 0 ≡ at = omega arith in rw p
read_more j at (suc n) =
    let p : at + 2 * suc n ≡ at + 2 + 2 * n = omega arith in
    rw p (ap (λ (l : List Run). run (get_or j at 0) (get_or j (at + 1) 0) ∷ l) (read_more j (at + 2) n))

-- one turn of a loop over them, and its end
read_turn : (j : List ℕ) (at i start end : ℕ) → start ≡ get_or j (at + 2 * i) 0 → end ≡ get_or j (at + 2 * i + 1) 0
    → read_runs j at (i + 1) ≡ read_runs j at i ++ (run start end ∷ [])
read_turn j at i start end a b = rw (add-one i, a, b) (read_more j at i)

module _ (h : RangeBitset) (st j : List ℕ) (at i : ℕ) (v : Bool) (n : ℕ) (h₁ : RangeBitset) (st₁ : List ℕ)
    (p : AssignsRuns h st (read_runs j at i) v n h₁ st₁) where
  pub assigns_turn : length st₁ ≡ length st → (start end : ℕ) → start ≡ get_or j (at + 2 * i) 0 → end ≡ get_or j (at + 2 * i + 1) 0
      → (d : Assigned) (st₂ : List ℕ) → AssignEnsures h₁ st₁ start end v d st₂ → (c m : ℕ) → c ≡ count_in (answer_in d) → m ≡ (n + c) % 4294967296
      → AssignsRuns h st (read_runs j at (i + 1)) v m (head_after h₁ d) st₂
  assigns_turn long start end a b d st₂ e c m ec em =
      subst (λ (x : List Run). AssignsRuns h st x v m (head_after h₁ d) st₂) (sym (read_turn j at i start end a b))
      (assigns_more h st (read_runs j at i) v n h₁ st₁ p long (run start end) d st₂ e c m ec em)

  pub assigns_all : (k : ℕ) → i ≡ k → AssignsRuns h st (read_runs j at k) v n h₁ st₁
  assigns_all k e = subst (λ (x : ℕ). AssignsRuns h st (read_runs j at x) v n h₁ st₁) e p

-- the pairs of n runs that are left where i are read, from place `at` on
pub record PairsLeft (j : List ℕ) (at n i : ℕ) (rest : List ℕ) : Type 0 where
  pub long : length rest + 2 * i ≡ 2 * n
  pub numbers : (k : ℕ) → k < length rest → get_or rest k 0 ≡ get_or j (at + 2 * i + k) 0

pub pairs_all : (j : List ℕ) (at n m : ℕ) (rest : List ℕ) → at + 2 * n ≤ length j → m ≡ 2 * n → rest ≡ take m (drop at j) → PairsLeft j at n 0 rest
pairs_all j at n m rest l q e =
    let short : m ≤ length (drop at j) = omega (arith, l, q, length-drop at j) in
    let long : length rest ≡ m = ap length e ∙ length-take-le m (drop at j) short in
    record { long = omega (arith, long, q); numbers = λ k u. numbers k (omega (arith, long)) }
  where
    numbers : (k : ℕ) → k < m → get_or rest k 0 ≡ get_or j (at + 2 * 0 + k) 0
    numbers k u =
        let place : at + k ≡ at + 2 * 0 + k = omega arith in
        ap (λ (z : List ℕ). get_or z k 0) e ∙ get_or-take m (drop at j) k 0 u ∙ get_or-drop at j k 0 ∙ ap (λ (z : ℕ). get_or j z 0) place

-- the pair x is read
pub pairs_next : (j : List ℕ) (at n i : ℕ) (rest x rest' : List ℕ) → PairsLeft j at n i rest → rest ≡ x ++ rest' → length x ≡ 2
    → PairsLeft j at n (i + 1) rest' × (get_or x 0 0 ≡ get_or j (at + 2 * i) 0) × (get_or x 1 0 ≡ get_or j (at + 2 * i + 1) 0)
pairs_next j at n i rest x rest' p e l =
    let long : length rest ≡ length x + length rest' = ap length e ∙ length-append x rest' in
    let first : at + 2 * i + 0 ≡ at + 2 * i = omega arith in (
      record { long = omega (arith, p.long, long, l); numbers = λ k u. behind k (omega (arith, long)) },
      rw first at (in_pair 0 (omega (arith, l)) (omega (arith, long, l))),
      in_pair 1 (omega (arith, l)) (omega (arith, long, l)),
    )
  where
    in_pair : (k : ℕ) → k < length x → k < length rest → get_or x k 0 ≡ get_or j (at + 2 * i + k) 0
    in_pair k u w = sym (get_or-append x rest' 0 k u) ∙ ap (λ (z : List ℕ). get_or z k 0) (sym e) ∙ p.numbers k w

    behind : (k : ℕ) → length x + k < length rest → get_or rest' k 0 ≡ get_or j (at + 2 * (i + 1) + k) 0
    behind k u =
        let place : at + 2 * i + (length x + k) ≡ at + 2 * (i + 1) + k = omega (arith, l) in
        sym (get_or-append-add x rest' k 0) ∙ ap (λ (z : List ℕ). get_or z (length x + k) 0) (sym e) ∙ (rw place at (p.numbers (length x + k) u))

-- they hang on the numbers before their end alone
pub read_take : (j : List ℕ) (u at n : ℕ) → at + 2 * n ≤ u → read_runs (take u j) at n ≡ read_runs j at n
read_take j u at zero h = refl
read_take j u at (suc n) h =
    rw (get_or-take u j at 0 (omega arith), get_or-take u j (at + 1) 0 (omega arith), read_take j u (at + 2) n (omega arith))

-- ---- runs read from a saved list

pub file_none : (h : RangeBitset) (st file : List ℕ) → Reassigns h st (file_runs file 0) true h st
unfolding runs_after
file_none h st file = reassigns_none h st true

file_turn : (file : List ℕ) (i start end : ℕ) → run_at file i ≡ run start end → file_runs file (i + 1) ≡ file_runs file i ++ (run start end ∷ [])
file_turn file i start end e = rw (add-one i, runs_more file 0 i, zero-add i, e)

-- one turn of a loop over a reader x of the file, and its end
module _ (h : RangeBitset) (st file : List ℕ) (x x' : Runs) (h' : RangeBitset) (st' : List ℕ) (long : length st' ≡ length st) (file_is : x.file.now ≡ file)
    (p : Reassigns h st (file_runs file x.at) true h' st') where
  pub file_next : (start end : ℕ) → numbers (start ∷ end ∷ []) ≡ run_reply x.file.now x.at → x'.at ≡ index_after x.file.now x.at
      → (d : Assigned) (st₂ : List ℕ) → AssignEnsures h' st' start end true d st₂
      → (x'.at ≤ held_count file) × Reassigns h st (file_runs file x'.at) true (head_after h' d) st₂
  file_next start end found moved d st₂ e =
      let at_is : x'.at ≡ x.at + 1 = moved ∙ moved_on x.file.now x.at start end found in
      let k = found_is file x.at start end (rw file_is at found) in
      let more : Reassigns h st (file_runs file (x.at + 1)) true (head_after h' d) st₂ =
      subst (λ (rs : List Run). Reassigns h st rs true (head_after h' d) st₂) (sym (file_turn file x.at start end k.1))
      (reassigns_more h st (file_runs file x.at) true h' st' p long (run start end) d st₂ e) in
      (omega (arith, k.0, at_is), subst (λ (n : ℕ). Reassigns h st (file_runs file n) true (head_after h' d) st₂) (sym at_is) more)

  pub file_end : x.at ≤ held_count file → numbers [] ≡ run_reply x.file.now x.at → Reassigns h st (file_runs file (held_count file)) true h' st'
  file_end l none =
      let n = found_none file x.at (rw file_is at none) in
      let e : x.at ≡ held_count file = omega arith in
      subst (λ (k : ℕ). Reassigns h st (file_runs file k) true h' st') e p

-- ---- ascending runs

pub ascending_within : (b c e : ℕ) (rs : List Run) → e ≤ c → Ascending b e rs → Within c rs
ascending_within b c e [] l h = tt
ascending_within b c e (r ∷ rs) l h = (omega (arith, h.2), ascending_within (suc r.end) c e rs l h.3)

pub ascending_any : (b e : ℕ) (rs : List Run) → Ascending b e rs → any_run rs ≡ not (eqb (length rs) 0)
ascending_any b e [] h = refl
ascending_any b e (r ∷ rs) h = rw (lt-ltb r.start r.end h.1, ne_eqb (length (r ∷ rs)) 0 (λ z. omega arith))

-- ---- a call's changed runs

pub changed_within : (c : ℕ) (s : Positions) (a e : ℕ) (v : Bool) → e ≤ c → Within c (changed_runs s a e v)
unfolding changed_runs
changed_within c s a e v l = go (leb a e) refl
  where
    go : (b : Bool) → leb a e ≡ b → Within c (runs (lacking s v) a e)
    go true x = ascending_within a c e (runs (lacking s v) a e) l (runs_ascending (lacking s v) a e (leb-true a e x))
    go false x = rw (runs_empty (lacking s v) a e (omega (arith, leb-false a e x))) tt

-- some run has a position where the lengths do not sum to 0
pub any_lengths : (rs : List Run) → any_run rs ≡ ltb 0 (lengths rs)
any_lengths [] = refl
any_lengths (r ∷ rs) = go (ltb r.start r.end) refl (any_lengths rs)
  where
    go : (b : Bool) → ltb r.start r.end ≡ b → any_run rs ≡ ltb 0 (lengths rs) → (b || any_run rs) ≡ ltb 0 ((r.end - r.start) + lengths rs)
    go true x y = sym (lt-ltb 0 ((r.end - r.start) + lengths rs) (omega (arith, ltb-true r.start r.end x)))
    go false x y =
        let p : (r.end - r.start) + lengths rs ≡ lengths rs = omega (arith, ltb-false r.start r.end x) in
        rw p y

-- taking the changed runs back changes each of their positions
module _ (s : Positions) (a e : ℕ) (v : Bool) where
  back_lengths : a ≤ e → (ps qs : List Run) → changed_runs s a e v ≡ ps ++ qs
      → changed_by_runs (assigned_runs (assigned s a e v) ps (not v)) qs (not v) ≡ lengths qs
  back_lengths l ps [] h = refl
  back_lengths l ps (r ∷ rs) h =
      let k = back_lengths l (ps ++ r ∷ []) rs (h ∙ sym (append_assoc ps (r ∷ []) rs)) in
      omega (arith, back_changes s a e v ps r rs l h, rw (assigned_runs_then (assigned s a e v) ps r (not v)) at k)

  pub back_count : changed_by_runs (assigned s a e v) (changed_runs s a e v) (not v) ≡ changed_count s a e v
  unfolding changed_runs
  back_count = go (leb a e) refl
    where
      go : (b : Bool) → leb a e ≡ b → changed_by_runs (assigned s a e v) (changed_runs s a e v) (not v) ≡ changed_count s a e v
      go true x = back_lengths (leb-true a e x) [] (changed_runs s a e v) refl ∙ changed_lengths s a e v
      go false x =
          let q : runs (lacking s v) a e ≡ [] = runs_empty (lacking s v) a e (omega (arith, leb-false a e x)) in
          (rw q) ∙ (ap lengths (sym q) ∙ changed_lengths s a e v)
