-- The returns of the entries that change nothing: what each answers, from what the code has there. Assumes nothing.
use Rattle.range_bitset.proofs.Kit.{◌≡◌, refl, ap, sym, ◌∙◌, ◌≢◌, Bool, true, false, cond, List, ℕ, ◌/◌, ◌%◌, ◌≤◌, ◌<◌, zero-le, le_refl, arith, length, ltb, ltb-true}
use Rattle.positions.proofs.Replies.{accepted_refused}
use Rattle.positions.specs.Positions.{Positions, one}
use Rattle.positions.specs.Runs.{run, next_run}
use Rattle.positions.proofs.Counts.{count_empty, count_none, count_zero}
use Rattle.positions.specs.Walks.{cut}
use Rattle.positions.proofs.Searches.{next_none, next_is, next_cut}
use Rattle.bits.specs.Bit.{bit}
use Rattle.range_bitset.specs.Read.{word_read}
use Rattle.range_bitset.specs.Represents.{closed, Represents, Stored, capacity_of}
use Rattle.positions.specs.Replies.{Reply, number, of_run, Accepted}
use Rattle.range_bitset.specs.Answers.{point_refusal, range_refusal}
use Rattle.range_bitset.specs.Entries.{Answers, GetEnsures, CountEnsures, Lies, NextEnsures}
use Rattle.range_bitset.specs.Inner.{Counts, RunFrom}
use Rattle.range_bitset.specs.declared.RangeBitset.{RangeBitset}
use Rattle.std.proofs.Common.{Option, Some, None, Ok}
use Rattle.answers.specs.Refusals.{of_range}
use Rattle.std.specs.declared.ops.Range.{Range}
use Rattle.std.specs.Prelude.{min}
use Rattle.range_bitset.proofs.AcceptedHeads.{point_accepted, range_accepted}
use Rattle.range_bitset.proofs.SetWords.{word_is, in_word}

-- an accepted query: a number, or nothing
pub answered : {f : Positions → Reply} (k : ℕ) (h : RangeBitset) (st : List ℕ) (r : Reply) → k ≡ 0 → Accepted r
    → ((s : Positions) → Represents h st s → r ≡ f s) → Answers k h st f r
answered k h st r e z q = record { refuses = accepted_refused r z ∙ sym e; accepts = λ w. z; answers = λ w s t. q s t }

-- ---- `get`

module _ (h : RangeBitset) (st : List ℕ) (i : ℕ) where
  pub get_fresh : point_refusal h (length st) i ≡ 0 → h.allocated ≡ false → GetEnsures h st i (Ok false)
  get_fresh e f =
      answered _ h st _ e tt
      (λ s t. ap (λ (x : Bool). number (one x)) (sym (t.fresh f i (point_accepted h st i e).1)))

  pub get_begun : (w : ℕ) (b : Bool) → point_refusal h (length st) i ≡ 0 → h.allocated ≡ true → w ≡ word_read h.words st (i / 64) → b ≡ bit w (i % 64)
      → GetEnsures h st i (Ok b)
  get_begun w b e f p q =
      let l = (point_accepted h st i e).1 in
      answered _ h st _ e tt
      (λ s t.
      ap (λ (x : Bool). number (one x))
      (q ∙ ap (λ (x : ℕ). bit x (i % 64)) (p ∙ word_is h.words st s closed (t.begun f) (i / 64) (omega arith)) ∙ in_word s i))

-- a set of no positions has none before its capacity, and one that has any was begun
module _ (h : RangeBitset) (st : List ℕ) (s : Positions) (t : Represents h st s) where
  pub len_none : h.len ≡ 0 → (i : ℕ) → i < capacity_of h → s i ≡ false
  len_none z i l = count_zero s 0 (capacity_of h) (sym t.counted ∙ z) i zero-le l

  pub len_begun : h.len ≢ 0 → Stored h.words st s
  len_begun z = by h.allocated refl
    where
      by : (b : Bool) → h.allocated ≡ b → Stored h.words st s
      by true e = t.begun e
      by false e = absurd (z (t.counted ∙ count_none s 0 (capacity_of h) (λ i p q. t.fresh e i q)))

-- ---- `count`

module _ (h : RangeBitset) (st : List ℕ) (a e : ℕ) (ok : range_refusal h (length st) e ≡ 0) where
  pub count_nothing : e ≤ a → CountEnsures h st a e (Ok 0)
  count_nothing l = answered _ h st _ ok tt (λ s t. ap number (sym (count_empty s a e l)))

  pub count_empty_set : h.len ≡ 0 → CountEnsures h st a e (Ok 0)
  count_empty_set z =
      let l = (range_accepted h st e ok).1 in
      answered _ h st _ ok tt (λ s t. ap number (sym (count_none s a e (λ i p q. len_none h st s t z i (omega arith)))))

  pub count_begun : (r : ℕ) → h.len ≢ 0 → Counts h.words a e st r → CountEnsures h st a e (Ok r)
  count_begun r z q = answered _ h st _ ok tt (λ s t. ap number (q s (len_begun h st s t z)))

-- ---- the returns of `next_one` and `next_zero`

range_accepts : (r : Option (Range ℕ)) → Accepted (of_range r)
range_accepts (Some x) = tt
range_accepts None = tt

-- as much of p..q as lies below e
cut_lies : (a e p q : ℕ) → a ≤ p → (r : Option (Range ℕ)) → of_range r ≡ of_run (cut p q e) → Lies a e (Ok r)
cut_lies a e p q l None c = tt
cut_lies a e p q l (Some x) c = by (ltb p (min q e)) refl c
  where
    by : (b : Bool) → ltb p (min q e) ≡ b → of_range (Some x) ≡ of_run (cond b (Some (run p (min q e))) None) → Lies a e (Ok (Some x))
    by true t c =
        let u : x.start ≡ p = cc in
        let w : x.end ≡ min q e = cc in
        let k = ltb-true p (min q e) t in
        (omega arith, omega arith, omega arith)
    by false t c = absurd (let z : ◌≡◌ {A = ℕ} 0 1 = cc in omega arith)

module _ (h : RangeBitset) (st : List ℕ) (a e : ℕ) (k : range_refusal h (length st) e ≡ 0) where
  found : (v : Bool) (r : Option (Range ℕ)) → Lies a e (Ok r) → ((s : Positions) → Represents h st s → of_range r ≡ of_run (next_run s v a e))
      → NextEnsures v h st a e (Ok r)
  found v r l q = record { lies = l; query = answered _ h st _ k (range_accepts r) q }

  pub next_empty : (v : Bool) → e ≤ a → NextEnsures v h st a e (Ok None)
  next_empty v l = found v None tt (λ s t. ap of_run (sym (next_none s v a e (λ i p q. absurd (omega arith)))))

  pub next_none_set : h.len ≡ 0 → NextEnsures true h st a e (Ok None)
  next_none_set z =
      let l = (range_accepted h st e k).1 in
      found true None tt (λ s t. ap of_run (sym (next_none s true a e (λ i p q. len_none h st s t z i (omega arith)))))

  pub next_fresh : a < e → h.allocated ≡ false → NextEnsures false h st a e (Ok (Some (record { start = a; end = e })))
  next_fresh l z =
      let m = (range_accepted h st e k).1 in
      found false (Some (record { start = a; end = e })) (le_refl a, l, le_refl e)
      (λ s t.
      ap of_run
      (sym
      (next_is s false a e a e
      (record {
        low = le_refl a;
        some = l;
        high = le_refl e;
        before = λ i p q. absurd (omega arith);
        own = λ i p q. t.fresh z i (omega arith);
        stops = λ u. absurd (omega arith);
      }))))

  searched : (v : Bool) (p q : ℕ) (r : Option (Range ℕ)) → ((s : Positions) → Represents h st s → Stored h.words st s) → RunFrom h.words a e v st p q
      → of_range r ≡ of_run (cut p q e) → NextEnsures v h st a e (Ok r)
  searched v p q r b n c =
      found v r (cut_lies a e p q n.low r c) (λ s t. c ∙ ap of_run (sym (next_cut s v a e p q (n.start s (b s t)) (λ u. n.end u s (b s t)))))

  pub next_one : (p q : ℕ) (r : Option (Range ℕ)) → h.len ≢ 0 → RunFrom h.words a e true st p q → of_range r ≡ of_run (cut p q e)
      → NextEnsures true h st a e (Ok r)
  next_one p q r z = searched true p q r (λ s t. len_begun h st s t z)

  pub next_zero : (p q : ℕ) (r : Option (Range ℕ)) → h.allocated ≡ true → RunFrom h.words a e false st p q → of_range r ≡ of_run (cut p q e)
      → NextEnsures false h st a e (Ok r)
  next_zero p q r z = searched false p q r (λ s t. t.begun z)
