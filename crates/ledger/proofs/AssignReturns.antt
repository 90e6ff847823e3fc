-- Laws for marking and clearing as calls: one for each return of `assign`, with the machine's step there. Assumes nothing.
use Rattle.ledger.proofs.Kit.{◌≡◌, refl, sym, ap, ◌∙◌, inl, Bool, true, false, true≢false, cond, List, ℕ, ◌+◌, ◌*◌, ◌-◌, ◌/◌, ◌≤◌, ◌<◌, arith, le-leb, lt-leb, leb-true, leb-false, ltb-true, ltb, ne_eqb, length, take, ap₂, ◌&&◌, ◌||◌}
use Rattle.positions.proofs.Replies.{accepted_refused}
use Rattle.positions.specs.Positions.{Positions, assigned, changed_count, differ, lacking}
use Rattle.positions.proofs.Assigned.{assigned_none}
use Rattle.positions.proofs.Counts.{count_all}
use Rattle.positions.specs.Runs.{changed_runs}
use Rattle.range_bitset.proofs.Slots.{past_same}
use Rattle.range_bitset.specs.Represents.{Represents, capacity_of}
use Rattle.positions.specs.Replies.{refusal, number}
use Rattle.std.proofs.Common.{Ok, Err}
use Rattle.answers.specs.Refusals.{number_of}
use Rattle.answers.specs.declared.Refusal.{Refusal}
use Rattle.answers.specs.declared.Changed.{Changed}
use Rattle.answers.proofs.Numbers.{number_some}
use Rattle.range_bitset.specs.Answers.{range_refusal}
use Rattle.range_bitset.specs.Entries.{AssignEnsures}
use Rattle.range_bitset.specs.declared.RangeBitset.{RangeBitset}
use Rattle.range_bitset.proofs.AcceptedHeads.{range_accepts}
use Rattle.range_bitset.proofs.ChangeReturns.{same_set}
use Rattle.ledger.specs.Machine.{Machine, range, set_of, used, numbers_for, need_of, step, next_of}
use Rattle.ledger.specs.Journal.{journal_of}
use Rattle.ledger.specs.Memory.{Memory, memory, lent_refusal, call_refusal, Holds}
use Rattle.ledger.specs.Entries.{CallEnsures, flag_after, most_need}
use Rattle.set_runs.specs.Walks.{RunsFit}
use Rattle.ledger.specs.Inner.{WritesCall}
use Rattle.ledger.specs.declared.Ledger.{Ledger}
use Rattle.ledger.proofs.Machines.{numbers_sum, need_sum, none_needed, went, step_outside, step_full, step_range, reachable_step, set_after_range, needs_added, journal_added}
use Rattle.ledger.proofs.Refusals.{declined_call, refused_call, LentEnough, lent_accepted, set_accepts, lent_again}

module _ (h : Ledger) (st j : List ℕ) (a e : ℕ) (v : Bool) where
  -- ---- the refusals of the table

  abbrev before : Memory
  before = memory h st j

  -- 2 or 3
  call_lent : (k : ℕ) → k ≡ lent_refusal h (length st) (length j) → (k ≡ 0 → ⊥) → call_refusal (range a e v) before ≡ k
  unfolding call_refusal
  call_lent k p n = rw (← p, ne_eqb k 0 n)

  call_outside : lent_refusal h (length st) (length j) ≡ 0 → capacity_of h.set < e → call_refusal (range a e v) before ≡ 4
  unfolding call_refusal
  call_outside p n = rw (p, lt-leb e (capacity_of h.set) n)

  call_passes : lent_refusal h (length st) (length j) ≡ 0 → e ≤ capacity_of h.set → call_refusal (range a e v) before ≡ 0
  unfolding call_refusal
  call_passes p n = rw (p, le-leb e (capacity_of h.set) n)

  -- the set's own calls then pass too
  accepted : lent_refusal h (length st) (length j) ≡ 0 → e ≤ capacity_of h.set → range_refusal h.set (length st) e ≡ 0
  accepted p n =
      range_accepts h.set (length st) e
      (set_accepts h h.journal (length st) (length j) (lent_accepted h h.journal (length st) (length j) p)) n

  -- ---- refused: nothing is changed

  pub not_lent : (k : Refusal) → number_of k ≡ lent_refusal h (length st) (length j) → CallEnsures (range a e v) before (refusal (number_of k)) before
  not_lent k l =
      refused_call (range a e v) before (number_of k) (sym (call_lent (number_of k) l (number_some k))) (number_some k)
      (λ m x. absurd (number_some k (l ∙ x.lent)))

  pub outside : lent_refusal h (length st) (length j) ≡ 0 → capacity_of h.set < e → CallEnsures (range a e v) before (refusal 4) before
  outside l n =
      refused_call (range a e v) before 4 (sym (call_outside l n)) (λ z. omega arith)
      (λ m x. step_outside m a e v (omega (arith, x.capacity)))

  -- more numbers are needed than the journal has left: there are more runs than fit
  pub too_many : (most : ℕ) (fit : Bool) → lent_refusal h (length st) (length j) ≡ 0
      → e ≤ capacity_of h.set → most ≡ (h.journal - h.used - 1) / 2 → RunsFit h.set st a e v most fit → fit ≡ false
      → CallEnsures (range a e v) before (refusal 6) before
  too_many most fit l n o c d =
      declined_call (range a e v) before 6 (λ z. absurd (z (call_passes l n))) (λ z. (refl, refl, more, some))
      (λ m x. step_full m a e v (omega (arith, x.capacity)) (omega (arith, x.journal_length, x.in_use, more (set_of m) x.set)))
    where
      more : (s : Positions) → Represents h.set st s → h.journal - h.used < need_of s a e v
      more s x =
          omega (arith, need_sum s a e v, leb-false (length (changed_runs s a e v)) most (sym (c.fits (accepted l n) s x) ∙ d))

      some : most_need (range a e v) ≤ h.journal - h.used → ⊥
      some w = true≢false (sym (c.short (omega (arith, numbers_sum ((e - a + 1) / 2)))) ∙ d)

  -- the journal has room for as many runs as fit
  pub write_room : (most : ℕ) → lent_refusal h (length st) (length j) ≡ 0 → most ≡ (h.journal - h.used - 1) / 2
      → (h.used + numbers_for most ≤ length j) × (h.used + numbers_for most ≤ 16384)
  write_room most l o =
      let a = lent_accepted h h.journal (length st) (length j) l in (
        omega (arith, a.used_most, a.journal_long, numbers_sum most),
        omega (arith, a.used_most, a.journal_most, numbers_sum most),
      )

  -- ---- done: the runs are recorded, then the range is given its value, which the set does not refuse

  pub not_refused : lent_refusal h (length st) (length j) ≡ 0 → e ≤ capacity_of h.set → (k : Refusal) (st' : List ℕ) → AssignEnsures h.set st a e v (Err k) st' → ⊥
  not_refused p n k st' q = q.accepts (accepted p n)

  -- the head afterwards
  abbrev pub moved : RangeBitset → ℕ → Ledger
  moved set u' = record { set = set; journal = h.journal; used = u' }

  -- the call passes the table, its runs fit, and they are in the journal j'
  pub record RunsWritten (u' most : ℕ) (j' : List ℕ) : Type 0 where
    pub lent : lent_refusal h (length st) (length j) ≡ 0
    pub end_within : e ≤ capacity_of h.set
    pub most_is : most ≡ (h.journal - h.used - 1) / 2
    pub fits : RunsFit h.set st a e v most true
    pub writes : WritesCall h.set st a e v h.used most u' j j'
    pub same_journal : length j' ≡ length j

  module _ (u' most : ℕ) (j' : List ℕ) (w : RunsWritten u' most j') where
    enough : LentEnough h h.journal (length st) (length j)
    enough = lent_accepted h h.journal (length st) (length j) w.lent

    passes : range_refusal h.set (length st) e ≡ 0
    passes = accepted w.lent w.end_within

    room : u' ≤ h.journal
    room = omega (arith, enough.used_most, w.writes.most_used, w.most_is, numbers_sum most)

    few : (s : Positions) → Represents h.set st s → length (changed_runs s a e v) ≤ most
    few s x = leb-true (length (changed_runs s a e v)) most (sym (w.fits.fits passes s x))

    need_is : (s : Positions) → Represents h.set st s → u' ≡ h.used + need_of s a e v
    need_is s x = w.writes.in_use passes s x (few s x)

    goes : (m : Machine) → Holds before m → step m (range a e v) ≡ went m (range a e v)
    goes m x =
        step_range m a e v (omega (arith, x.capacity))
        (omega (arith, x.journal_length, x.in_use, room, need_is (set_of m) x.set))

    -- nothing changes: no number is written, and the set is as its own call would leave it

    fresh_changes : h.set.allocated ≡ false → v ≡ true → (s : Positions) → Represents h.set st s → changed_count s a e v ≡ e - a
    unfolding changed_count
    fresh_changes p q s x = count_all (lacking s v) a e (λ i u l. ap₂ differ (x.fresh p i (omega (arith, w.end_within))) q)

    flag_stays : (s : Positions) → Represents h.set st s → changed_count s a e v ≡ 0 → h.set.allocated ≡ (h.set.allocated || (v && ltb a e))
    flag_stays s y none = go h.set.allocated refl v refl (ltb a e) refl
      where
        go : (b : Bool) → h.set.allocated ≡ b → (x : Bool) → v ≡ x → (l : Bool) → ltb a e ≡ l → b ≡ (b || (x && l))
        go true p x q l r = refl
        go false p false q l r = refl
        go false p true q false r = refl
        go false p true q true r = absurd (omega (arith, ltb-true a e r, fresh_changes p q s y, none))

    pub untouched : u' ≡ h.used → AssignEnsures h.set st a e v (Ok (record { answer = 0; head = h.set })) st
    untouched same =
        same_set _ h.set st _ passes tt (λ s x. let z = none s x in (ap number (sym z), assigned_none s a e v z, flag_stays s x z))
      where
        none : (s : Positions) → Represents h.set st s → changed_count s a e v ≡ 0
        none s x = none_needed s a e v (omega (arith, need_is s x))

    module _ (d : Changed ℕ RangeBitset) (st' : List ℕ) (changes : AssignEnsures h.set st a e v (Ok d) st') (same_storage : length st' ≡ length st) where
      abbrev next : Memory
      next = memory (moved d.head u') st' j'

      set_next : (m : Machine) → Holds before m → Represents d.head st' (assigned (set_of m) a e v)
      set_next m x = changes.represents passes (set_of m) x.set

      in_use_next : (m : Machine) → Holds before m → u' ≡ used (next_of m (range a e v))
      unfolding used
      in_use_next m x = rw (needs_added (set_of m) m.standing a e v) (omega (arith, x.in_use, need_is (set_of m) x.set))

      journal_next : (m : Machine) → Holds before m
          → take u' j' ≡ journal_of m.opened (next_of m (range a e v)).standing
      unfolding set_of
      journal_next m x =
          rw (journal_added m.opened m.standing a e v, ← x.journal)
          (w.writes.written_is passes (set_of m) x.set (few (set_of m) x.set))

      holds_next : (m : Machine) → Holds before m → Holds next (next_of m (range a e v))
      holds_next m x =
          record {
            reachable = rw (goes m x) at (reachable_step m (range a e v) x.reachable);
            lent = lent_again h (moved d.head u') (length st) (length j) (length st') (length j') st' (assigned (set_of m) a e v) enough
                changes.same_words (set_next m x) refl room same_storage w.same_journal;
            capacity = ap (λ (n : ℕ). 64 * n) changes.same_words ∙ x.capacity;
            journal_length = x.journal_length;
            in_use = in_use_next m x;
            set = rw (set_after_range m a e v) (set_next m x);
            journal = journal_next m x;
          }

      flag_next : (m : Machine) → Holds before m → d.head.allocated ≡ flag_after h.set.allocated m (range a e v) (number d.answer)
      flag_next m x =
          ap (λ (y : RangeBitset). y.allocated) (changes.head passes (set_of m) x.set)

      pub recorded : CallEnsures (range a e v) before (number d.answer) next
      recorded =
          record {
            refuses = λ z. absurd (z (call_passes w.lent w.end_within));
            only_6 = λ z. inl (changes.accepts passes);
            exactly_6 = λ z s x.
                accepted_refused (number d.answer) (changes.accepts passes)
                ∙ sym (ap (λ (b : Bool). cond b 0 6) (le-leb (need_of s a e v) (h.journal - h.used) (omega (arith, room, need_is s x))));
            short_6 = λ z o. changes.accepts passes;
            unchanged = λ z. absurd (z (changes.accepts passes));
            same_words = changes.same_words;
            same_limit = refl;
            used_most = λ z. room;
            storage_kept = past_same _ _ changes.same_words changes.storage_kept;
            journal_kept = w.writes.others;
            answers = λ m x. rw (goes m x) (changes.answers passes (set_of m) x.set);
            holds = λ m x. rw (goes m x) (holds_next m x);
            flag = flag_next;
          }
