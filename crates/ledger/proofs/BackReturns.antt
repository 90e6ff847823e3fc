-- The returns of `wipe` and `take_back`: what each promises, from what the code has there. Assumes nothing.
use Rattle.ledger.proofs.Kit.{◌≡◌, refl, sym, ap, ◌∙◌, subst, inl, Bool, true, false, not, ◌||◌, cond, and-true, or-false, List, [], ◌∷◌, ◌++◌, ℕ, ◌+◌, ◌*◌, ◌-◌, ◌/◌, ◌%◌, ◌≤◌, ◌<◌, min, arith, le-leb, eq-eqb, ne_eqb, eqb-true, eqb-false, eqb, leb, lt-ltb, length, get_or, take, length-append, length-take-le, get_or-take, take-take, take_at}
use Rattle.positions.proofs.Replies.{accepted_refused}
use Rattle.positions.specs.Positions.{Positions, count, one}
use Rattle.positions.specs.Runs.{Run, changed_runs, lengths}
use Rattle.positions.proofs.Assigned.{changed_le}
use Rattle.positions.proofs.Changes.{changed_lengths}
use Rattle.positions.proofs.Counts.{one_is}
use Rattle.range_bitset.proofs.AcceptedHeads.{good_bounds}
use Rattle.range_bitset.proofs.Slots.{past_same}
use Rattle.range_bitset.specs.Represents.{Represents, capacity_of}
use Rattle.positions.specs.Replies.{number, refusal}
use Rattle.range_bitset.specs.Answers.{storage_refusal}
use Rattle.range_bitset.specs.Entries.{ClearEnsures}
use Rattle.range_bitset.specs.declared.RangeBitset.{RangeBitset}
use Rattle.ledger.specs.Machine.{Machine, Standing, back, wipe, held, set_of, population, needs, used, standing_call, Stands, StandAll, with_standing, step}
use Rattle.ledger.specs.Journal.{entry, journal_of}
use Rattle.ledger.specs.Memory.{Memory, memory, Holds, lent_refusal, wipe_refusal, call_refusal}
use Rattle.ledger.specs.Entries.{CallEnsures, restores}
use Rattle.ledger.specs.Inner.{last_of, read_runs, changed_by_runs, any_run, Within, AssignsRuns}
use Rattle.ledger.specs.declared.Ledger.{Ledger}
use Rattle.std.proofs.Common.{Option, Some, None, Ok, Err}
use Rattle.answers.specs.Refusals.{number_of}
use Rattle.answers.specs.declared.Refusal.{Refusal}
use Rattle.answers.specs.declared.Changed.{Changed}
use Rattle.answers.proofs.Numbers.{number_some}
use Rattle.ledger.proofs.Machines.{standing_entry, reachable_fresh, reachable_step, step_none, step_back, none_standing, set_after_back, journal_length}
use Rattle.ledger.proofs.Journals.{length_entry, entry_last, packed_runs, packed_value, read_entry}
use Rattle.ledger.proofs.ReassignedRuns.{read_take, changed_within, any_lengths, back_count}
use Rattle.ledger.proofs.Refusals.{refused_call, LentEnough, lent_accepted, lent_again, ledger_set, lent_wipes, set_accepts}

-- a call that needs no number is not refused for want of any
needs_none : (n : ℕ) → ◌≡◌ {A = ℕ} 0 (cond (leb 0 n) 0 6)
needs_none n = sym (ap (λ (b : Bool). cond b 0 6) (le-leb 0 n (omega arith)))

-- ---- `wipe`

module _ (h : Ledger) (st j : List ℕ) where
  pub wipe_refused : (k : Refusal) → number_of k ≡ wipe_refusal h (length st) → CallEnsures wipe (memory h st j) (refusal (number_of k)) (memory h st j)
  unfolding call_refusal
  wipe_refused k e =
      refused_call wipe (memory h st j) (number_of k) e (number_some k)
      (λ m q.
      let a = lent_accepted h h.journal (length st) (length j) q.lent in
      absurd (number_some k (e ∙ lent_wipes h h.journal (length st) (length j) a)))

  cleared : wipe_refusal h (length st) ≡ 0 → ◌≡◌ {A = ℕ} (storage_refusal h.set (length st)) 0
  cleared z = set_accepts h 0 (length st) 0 (lent_accepted h 0 (length st) 0 z)

  pub not_refused : wipe_refusal h (length st) ≡ 0 → (k : Refusal) (st' : List ℕ) → ClearEnsures h.set st (Err k) st' → ⊥
  not_refused z k st' e = e.accepts (cleared z)

  module _ (d : Changed ℕ RangeBitset) (st' : List ℕ) (z : wipe_refusal h (length st) ≡ 0) (e : ClearEnsures h.set st (Ok d) st')
      (long : length st' ≡ length st) where
    ok : ◌≡◌ {A = ℕ} (storage_refusal h.set (length st)) 0
    ok = cleared z

    pub wiped : CallEnsures wipe (memory h st j) (number d.answer) (memory (record { set = d.head; journal = h.journal; used = 0 }) st' j)
    unfolding call_refusal population set_of used step
    wiped =
        record {
          refuses = λ w. absurd (w z);
          only_6 = λ w. inl (e.accepts ok);
          exactly_6 = λ w s q. accepted_refused (number d.answer) (e.accepts ok) ∙ needs_none (h.journal - h.used);
          short_6 = λ w o. e.accepts ok;
          unchanged = λ w. absurd (w (e.accepts ok));
          same_words = e.same_words;
          same_limit = refl;
          used_most = λ w. omega arith;
          storage_kept = past_same _ _ e.same_words e.storage_kept;
          journal_kept = λ i w. refl;
          answers = λ m q. e.answers ok (set_of m) q.set ∙ ap (λ (x : ℕ). number (count (set_of m) 0 x)) q.capacity;
          holds = λ m q.
              record {
                reachable = reachable_fresh m.capacity m.journal;
                lent = lent_again h _ _ _ _ _ _ _ (lent_accepted h h.journal (length st) (length j) q.lent) e.same_words
                    (e.represents ok (set_of m) q.set) refl (omega arith) long refl;
                capacity = ap (λ (x : ℕ). 64 * x) e.same_words ∙ q.capacity;
                journal_length = q.journal_length;
                in_use = refl;
                set = e.represents ok (set_of m) q.set;
                journal = refl;
              };
          flag = λ m q. ap (λ (x : RangeBitset). x.allocated) (e.head ok (set_of m) q.set) ∙ or-false h.set.allocated;
        }

-- ---- the call that the last of u numbers closes

pub last_none : (j : List ℕ) (u : ℕ) → u ≤ length j → length (take u j) ≤ 0 → None ≡ last_of j u
unfolding last_of
last_none j u l z = let e : u ≡ 0 = omega (arith, length-take-le u j l) in rw (eq-eqb u 0 e)

pub last_some : (j : List ℕ) (u x n : ℕ) → u ≤ length j → 0 < length (take u j) → x ≡ get_or (take u j) (length (take u j) - 1) 0 → n ≡ min (x / 2) ((u - 1) / 2)
    → Some (n, eqb (x % 2) 1) ≡ last_of j u
unfolding last_of
last_some j u x n l z e m =
    let k : length (take u j) ≡ u = length-take-le u j l in
    let q : x ≡ get_or j (u - 1) 0 = e ∙ ap (λ (i : ℕ). get_or (take u j) (i - 1) 0) k ∙ get_or-take u j (u - 1) 0 (omega arith) in
    rw (ne_eqb u 0 (λ y. omega arith), m, q)

-- what it is, where there is one
pub record LastRead (j : List ℕ) (u n : ℕ) (v : Bool) : Type 0 where
  pub some : 0 < u
  pub runs_are : n ≡ min (get_or j (u - 1) 0 / 2) ((u - 1) / 2)
  pub value_is : v ≡ eqb (get_or j (u - 1) 0 % 2) 1
  pub fits : 2 * n + 1 ≤ u

pub last_read : (j : List ℕ) (u : ℕ) (r : ℕ × Bool) → Some r ≡ last_of j u → LastRead j u r.0 r.1
unfolding last_of
last_read j u r e = go (eqb u 0) refl e
  where
    go : (b : Bool) → eqb u 0 ≡ b
        → Some r ≡ cond b None (Some (min (get_or j (u - 1) 0 / 2) ((u - 1) / 2), eqb (get_or j (u - 1) 0 % 2) 1)) → LastRead j u r.0 r.1
    go true x y = cc
    go false x y =
        let p : r ≡ (min (get_or j (u - 1) 0 / 2) ((u - 1) / 2), eqb (get_or j (u - 1) 0 % 2) 1) = cc in
        let a : r.0 ≡ min (get_or j (u - 1) 0 / 2) ((u - 1) / 2) = ap (λ (q : ℕ × Bool). q.0) p in
        let z = eqb-false u 0 x in
        record { some = omega arith; runs_are = a; value_is = ap (λ (q : ℕ × Bool). q.1) p; fits = omega arith }

pub last_absent : (j : List ℕ) (u : ℕ) → None ≡ last_of j u → u ≡ 0
unfolding last_of
last_absent j u e = go (eqb u 0) refl e
  where
    go : (b : Bool) → eqb u 0 ≡ b
        → ◌≡◌ {A = Option (ℕ × Bool)} None (cond b None (Some (min (get_or j (u - 1) 0 / 2) ((u - 1) / 2), eqb (get_or j (u - 1) 0 % 2) 1))) → u ≡ 0
    go true x y = eqb-true u 0 x
    go false x y = cc

-- ---- the journal of a sound ledger, unpacked: the last standing call's runs and value, and the journal before it

module _ (j l : List ℕ) (rs : List Run) (w : Bool) (u n : ℕ) (v : Bool) (room : u ≤ length j) (e : take u j ≡ l ++ entry rs w) (r : LastRead j u n v) where
  size : u ≡ length l + (1 + 2 * length rs)
  size =
      omega
      (arith, length-take-le u j room, ap length e, length-append l (entry rs w), length_entry rs w)

  closing : get_or j (u - 1) 0 ≡ 2 * length rs + one w
  closing =
      let p : u - 1 ≡ length l + 2 * length rs = omega (arith, size) in
      sym (get_or-take u j (u - 1) 0 (omega (arith, r.some)))
      ∙ ap (λ (x : List ℕ). get_or x (u - 1) 0) e
      ∙ rw p (entry_last l rs w)

  pub same_runs : n ≡ length rs
  same_runs =
      let p : get_or j (u - 1) 0 / 2 ≡ length rs = rw closing (packed_runs (length rs) w) in
      omega (arith, r.runs_are, p, size)

  pub same_value : v ≡ w
  same_value = r.value_is ∙ rw (closing, packed_value (length rs) w) (one_is w)

  pub same_start : u - (2 * n + 1) ≡ length l
  same_start = omega (arith, same_runs, size)

  pub same_list : read_runs j (u - (2 * n + 1)) n ≡ rs
  same_list =
      rw (same_start, same_runs)
      (sym (read_take j u (length l) (length rs) (omega (arith, size))) ∙ ap (λ (x : List ℕ). read_runs x (length l) (length rs)) e ∙ read_entry l rs w)

  pub same_journal : take (u - (2 * n + 1)) j ≡ l
  same_journal =
      rw same_start
      (sym (take-take (length l) u j (omega (arith, size))) ∙ ap (λ (x : List ℕ). take (length l) x) e ∙ take_at l (entry rs w) (length l) refl)

-- ---- `take_back`

module _ (h : Ledger) (st j : List ℕ) where
  pub back_refused : (k : Refusal) → number_of k ≡ lent_refusal h (length st) (length j) → CallEnsures back (memory h st j) (refusal (number_of k)) (memory h st j)
  unfolding call_refusal
  back_refused k e =
      let z = number_some k in
      refused_call back (memory h st j) (number_of k) (rw (sym e, ne_eqb (number_of k) 0 z)) z (λ m q. absurd (z (e ∙ q.lent)))

  pub back_none : lent_refusal h (length st) (length j) ≡ 0 → h.used ≡ 0 → CallEnsures back (memory h st j) (refusal 5) (memory h st j)
  unfolding call_refusal
  back_none z e =
      refused_call back (memory h st j) 5 (rw (z, eq-eqb h.used 0 e)) (λ w. omega arith)
      (λ m q. step_none m (none_standing m q.reachable (sym q.in_use ∙ e)))

  pub back_room : (n : ℕ) (v : Bool) → lent_refusal h (length st) (length j) ≡ 0 → LastRead j h.used n v
      → (h.used - (2 * n + 1) + 2 * n ≤ length j) × (h.used - (2 * n + 1) + 2 * n ≤ 16384)
  back_room n v z r =
      let a = lent_accepted h h.journal (length st) (length j) z in
      (omega (arith, r.fits, a.used_most, a.journal_long), omega (arith, r.fits, a.used_most, a.journal_most))

  module _ (n : ℕ) (v : Bool) (count_back : ℕ) (h' : RangeBitset) (st' : List ℕ) (z : lent_refusal h (length st) (length j) ≡ 0)
      (r : LastRead j h.used n v) (long : length st' ≡ length st)
      (a : AssignsRuns h.set st (read_runs j (h.used - (2 * n + 1)) n) (not v) count_back h' st') where
    lent : LentEnough h h.journal (length st) (length j)
    lent = lent_accepted h h.journal (length st) (length j) z

    abbrev pub after : Memory
    after = memory (record { set = h'; journal = h.journal; used = h.used - (2 * n + 1) }) st' j

    -- on a sound ledger, c the last standing call
    record BackDone (m : Machine) (c : Standing) (cs : List Standing) : Type 0 where
      answered : count_back ≡ c.changed
      represents : Represents h' st' (held m.opened cs)
      in_use : h.used - (2 * n + 1) ≡ needs cs
      journal : take (h.used - (2 * n + 1)) j ≡ journal_of m.opened cs
      flag : h'.allocated ≡ (h.set.allocated || not c.value)

    done : (m : Machine) → Holds (memory h st j) m → (c : Standing) (cs : List Standing) → m.standing ≡ c ∷ cs → BackDone m c cs
    unfolding set_of used standing_call
    done m q c cs e =
        record {
          answered = omega (arith, b.changed ok S t w, counted, few);
          represents = subst (λ (x : Positions). Represents h' st' x) (set_after_back m.opened c cs) (b.reassigns.represents ok S t w);
          in_use = same_start j l rs c.value h.used n v room split r ∙ journal_length m.capacity m.opened cs all_stand.1;
          journal = same_journal j l rs c.value h.used n v room split r;
          flag = b.reassigns.flag ok S t w ∙ ap (λ (x : Bool). h.set.allocated || x) (rw any_some (and-true (not c.value)));
        }
      where
        s : Positions
        s = held m.opened cs

        S : Positions
        S = held m.opened (c ∷ cs)

        l : List ℕ
        l = journal_of m.opened cs

        rs : List Run
        rs = changed_runs s c.start c.end c.value

        all_stand : StandAll m.capacity m.opened (c ∷ cs)
        all_stand = rw e at q.reachable.standing

        stands : Stands m.capacity s c
        stands = all_stand.0

        room : h.used ≤ length j
        room = omega (arith, lent.used_most, lent.journal_long)

        split : take h.used j ≡ l ++ entry rs c.value
        split = (rw e at q.journal) ∙ ap (λ (x : List ℕ). l ++ x) (standing_entry s c)

        ok : storage_refusal h.set (length st) ≡ 0
        ok = set_accepts h h.journal (length st) (length j) lent

        t : Represents h.set st S
        t = rw e at q.set

        w : Within (capacity_of h.set) rs
        w = changed_within (capacity_of h.set) s c.start c.end c.value (omega (arith, stands.within, q.capacity))

        b : AssignsRuns h.set st rs (not c.value) count_back h' st'
        b = rw (same_list j l rs c.value h.used n v room split r, same_value j l rs c.value h.used n v room split r) at a

        sum : lengths rs ≡ c.changed
        sum = changed_lengths s c.start c.end c.value ∙ sym (ap (λ (x : Standing). x.changed) stands.as_made)

        any_some : any_run rs ≡ true
        any_some = any_lengths rs ∙ lt-ltb 0 (lengths rs) (omega (arith, sum, stands.some))

        few : c.changed ≤ 262144
        few =
            omega
            (arith, ap (λ (x : Standing). x.changed) stands.as_made, changed_le s c.start c.end c.value, stands.within, q.capacity, (good_bounds h.set (ledger_set h lent.good)).1)

        counted : changed_by_runs S rs (not c.value) ≡ c.changed
        counted = back_count s c.start c.end c.value ∙ sym (ap (λ (x : Standing). x.changed) stands.as_made)

    stands_some : (m : Machine) → Holds (memory h st j) m → (f : List Standing → Type 0) → ((c : Standing) (cs : List Standing) → m.standing ≡ c ∷ cs → f (c ∷ cs)) → f m.standing
    unfolding used
    stands_some m q f g = go m.standing refl
      where
        go : (l : List Standing) → m.standing ≡ l → f l
        go [] e = absurd (omega (arith, r.some, q.in_use, ap needs e))
        go (c ∷ cs) e = g c cs e

    holds_after : (m : Machine) → Holds (memory h st j) m → (c : Standing) (cs : List Standing) → m.standing ≡ c ∷ cs → Holds after (with_standing m cs)
    unfolding set_of used
    holds_after m q c cs e =
        let d = done m q c cs e in
        record {
          reachable = rw (step_back m c cs e) at (reachable_step m back q.reachable);
          lent = lent_again h after.head _ _ (length st') (length j) st' (held m.opened cs) lent a.reassigns.same_words d.represents refl (omega (arith, r.fits, lent.used_most)) long refl;
          capacity = ap (λ (x : ℕ). 64 * x) a.reassigns.same_words ∙ q.capacity;
          journal_length = q.journal_length;
          in_use = d.in_use;
          set = d.represents;
          journal = d.journal;
        }

    pub taken_back : CallEnsures back (memory h st j) (number count_back) after
    unfolding call_refusal
    taken_back =
        record {
          refuses = λ w. absurd (w accepted);
          only_6 = λ w. inl tt;
          exactly_6 = λ w s q. needs_none (h.journal - h.used);
          short_6 = λ w o. tt;
          unchanged = λ w. absurd (w tt);
          same_words = a.reassigns.same_words;
          same_limit = refl;
          used_most = λ w. omega (arith, r.fits, lent.used_most);
          storage_kept = past_same _ _ a.reassigns.same_words a.reassigns.storage_kept;
          journal_kept = λ i w. refl;
          answers = λ m q. stands_some m q (λ x. number count_back ≡ (step m back).answer) (λ c cs e. rw (step_back m c cs e) (ap number (done m q c cs e).answered));
          holds = λ m q. stands_some m q (λ x. Holds after (step m back).next) (λ c cs e. rw (step_back m c cs e) (holds_after m q c cs e));
          flag = λ m q. stands_some m q (λ x. h'.allocated ≡ (h.set.allocated || restores x)) (λ c cs e. (done m q c cs e).flag);
        }
      where
        accepted : call_refusal back (memory h st j) ≡ 0
        accepted = rw (z, ne_eqb h.used 0 (λ e. omega (arith, r.some)))
