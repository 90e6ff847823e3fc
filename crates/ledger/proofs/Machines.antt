-- Laws of the plain machine. Assumes nothing.
use Rattle.ledger.proofs.Kit.{◌≡◌, refl, sym, ap, ◌∙◌, Bool, true, false, not, List, [], ◌∷◌, ◌++◌, ℕ, ◌+◌, ◌*◌, ◌-◌, ◌≤◌, ◌<◌, min, arith, leb-true, le-leb, lt-leb, lt-ltb, le-ltb, ltb-true, ltb-false, eqb-true, eqb-false, eqb, leb, ltb, length, length-append, append-nil, cond}
use Rattle.positions.specs.Positions.{Positions, assigned, count, differ, changed_count}
use Rattle.positions.specs.Runs.{changed_runs, assigned_runs}
use Rattle.ledger.specs.Machine.{Standing, Machine, held, set_of, population, needs, used, Call, range, back, wipe, numbers_for, need_of, standing_call, Verdict, admitted, declined, unless, range_verdict, stands_any, verdict, amount, with_standing, fresh, next_of, Step, decided, step, after, added, changed_by, Stands, StandAll, Reachable, opened_with}
use Rattle.positions.specs.Replies.{number, refusal}
use Rattle.ledger.specs.Journal.{written, entry, journal_of}
use Rattle.positions.proofs.Ranges.{within_behind}
use Rattle.positions.proofs.Assigned.{assigned_count, assigned_none, gain, loss}
use Rattle.positions.proofs.Changes.{changed_some}
use Rattle.positions.proofs.Runs.{take_back_restores}
use Rattle.ledger.specs.Inner.{numbers_added}
use Rattle.ledger.proofs.Journals.{length_entry}

-- ---- what n runs need, and what a call needs

pub numbers_sum : (n : ℕ) → numbers_for n ≡ 2 * n + min 1 n
numbers_sum n = go (eqb n 0) refl
  where
    go : (b : Bool) → eqb n 0 ≡ b → cond b 0 (1 + 2 * n) ≡ 2 * n + min 1 n
    go true x = omega (arith, eqb-true n 0 x)
    go false x = let z = eqb-false n 0 x in omega arith

pub need_sum : (s : Positions) (a e : ℕ) (v : Bool) → need_of s a e v ≡ 2 * length (changed_runs s a e v) + min 1 (length (changed_runs s a e v))
unfolding need_of
need_sum s a e v = numbers_sum (length (changed_runs s a e v))

-- none, exactly where it changes no position
pub need_none : (s : Positions) (a e : ℕ) (v : Bool) → changed_count s a e v ≡ 0 → need_of s a e v ≡ 0
need_none s a e v h = omega (arith, need_sum s a e v, changed_some s a e v)

pub none_needed : (s : Positions) (a e : ℕ) (v : Bool) → need_of s a e v ≡ 0 → changed_count s a e v ≡ 0
none_needed s a e v h = omega (arith, need_sum s a e v, changed_some s a e v)

-- ---- one call more: what it does to the set, to the needs, to the journal, to the sums of changed counts, and that it stands as made

-- a statement on the standing calls afterwards holds if it does of one call more, where the call changes a position, and of as many, where not
by_change : (P : List Standing → Type 0) (s : Positions) (cs : List Standing) (a e : ℕ) (v : Bool)
    → (0 < changed_count s a e v → P (standing_call s a e v ∷ cs)) → (changed_count s a e v ≡ 0 → P cs) → P (added (standing_call s a e v) cs)
unfolding standing_call
by_change P s cs a e v some none = go (ltb 0 (changed_count s a e v)) refl
  where
    go : (b : Bool) → ltb 0 (changed_count s a e v) ≡ b → P (cond b (standing_call s a e v ∷ cs) cs)
    go true x = some (ltb-true 0 (changed_count s a e v) x)
    go false x = none (omega (arith, ltb-false 0 (changed_count s a e v) x))

pub held_added : (o : Positions) (cs : List Standing) (a e : ℕ) (v : Bool)
    → held o (added (standing_call (held o cs) a e v) cs) ≡ assigned (held o cs) a e v
unfolding standing_call
held_added o cs a e v =
    by_change (λ ds. held o ds ≡ assigned (held o cs) a e v) (held o cs) cs a e v (λ x. refl) (λ x. sym (assigned_none (held o cs) a e v x))

pub needs_added : (s : Positions) (cs : List Standing) (a e : ℕ) (v : Bool) → needs (added (standing_call s a e v) cs) ≡ need_of s a e v + needs cs
unfolding standing_call
needs_added s cs a e v =
    by_change (λ ds. needs ds ≡ need_of s a e v + needs cs) s cs a e v (λ x. refl) (λ x. omega (arith, need_none s a e v x))

pub journal_added : (o : Positions) (cs : List Standing) (a e : ℕ) (v : Bool)
    → journal_of o (added (standing_call (held o cs) a e v) cs) ≡ journal_of o cs ++ numbers_added (held o cs) a e v
unfolding standing_call numbers_added
journal_added o cs a e v =
    by_change (λ ds. journal_of o ds ≡ journal_of o cs ++ numbers_added (held o cs) a e v) (held o cs) cs a e v
    (λ x. rw (lt-ltb 0 (changed_count (held o cs) a e v) x))
    (λ x. rw (le-ltb 0 (changed_count (held o cs) a e v) (omega arith)) (sym (append-nil (journal_of o cs))))

pub changed_added : (w : Bool) (s : Positions) (cs : List Standing) (a e : ℕ) (v : Bool)
    → changed_by w (added (standing_call s a e v) cs) ≡ cond (differ v w) 0 (changed_count s a e v) + changed_by w cs
unfolding standing_call
changed_added w s cs a e v =
    by_change (λ ds. changed_by w ds ≡ cond (differ v w) 0 (changed_count s a e v) + changed_by w cs) s cs a e v (λ x. refl)
    (λ x. rw x (by (differ v w)))
  where
    by : (b : Bool) → changed_by w cs ≡ cond b 0 0 + changed_by w cs
    by true = omega arith
    by false = omega arith

stand_added : (c : ℕ) (o : Positions) (cs : List Standing) (a e : ℕ) (v : Bool) → e ≤ c → StandAll c o cs
    → StandAll c o (added (standing_call (held o cs) a e v) cs)
unfolding standing_call
stand_added c o cs a e v h k =
    by_change (StandAll c o) (held o cs) cs a e v (λ x. (record { within = h; some = x; as_made = refl }, k)) (λ x. k)

pub written_length : (s : Positions) (a e : ℕ) (v : Bool) → length (written s a e v) ≡ 1 + 2 * length (changed_runs s a e v)
unfolding written
written_length s a e v = length_entry (changed_runs s a e v) v

-- what a standing call put into the journal
pub standing_entry : (s : Positions) (x : Standing) → written s x.start x.end x.value ≡ entry (changed_runs s x.start x.end x.value) x.value
unfolding written
standing_entry s x = refl

-- a standing call needed 1 + 2 × runs numbers
pub needed_runs : (c : ℕ) (s : Positions) (x : Standing) → Stands c s x → x.needed ≡ 1 + 2 * length (changed_runs s x.start x.end x.value)
unfolding standing_call
needed_runs c s x k =
    omega
    (arith, k.some, ap (λ (y : Standing). y.needed) k.as_made, ap (λ (y : Standing). y.changed) k.as_made, need_sum s x.start x.end x.value, changed_some s x.start x.end x.value)

-- after an accepted marking or clearing the set is `assigned` of the set before
pub set_after_range : (m : Machine) (a e : ℕ) (v : Bool) → set_of (next_of m (range a e v)) ≡ assigned (set_of m) a e v
unfolding set_of
set_after_range m a e v = held_added m.opened m.standing a e v

-- giving the last call's changed runs the other value is the set after take-back
pub set_after_back : (o : Positions) (c : Standing) (cs : List Standing)
    → assigned_runs (held o (c ∷ cs)) (changed_runs (held o cs) c.start c.end c.value) (not c.value) ≡ held o cs
set_after_back o c cs = take_back_restores (held o cs) c.start c.end c.value

-- demand 3's sum, with no subtraction that could cut at 0
held_balance : (c : ℕ) (o : Positions) (cs : List Standing) → StandAll c o cs
    → count (held o cs) 0 c + changed_by false cs ≡ count o 0 c + changed_by true cs
unfolding standing_call
held_balance c o [] k = refl
held_balance c o (x ∷ xs) k =
    omega
    (arith, assigned_count (held o xs) x.start x.end x.value 0 c (omega arith) k.0.within, held_balance c o xs k.1, ap (λ (y : Standing). loss x.value y.changed) k.0.as_made, ap (λ (y : Standing). gain x.value y.changed) k.0.as_made)

pub population_sum : (m : Machine) → Reachable m
    → population m + changed_by false m.standing ≡ count m.opened 0 m.capacity + changed_by true m.standing
unfolding population set_of
population_sum m k = held_balance m.capacity m.opened m.standing k.standing

-- the journal has as many numbers as the standing calls needed
pub journal_length : (c : ℕ) (o : Positions) (cs : List Standing) → StandAll c o cs → length (journal_of o cs) ≡ needs cs
journal_length c o [] k = refl
journal_length c o (x ∷ xs) k =
    rw (length-append (journal_of o xs) (written (held o xs) x.start x.end x.value), written_length (held o xs) x.start x.end x.value)
    (omega (arith, journal_length c o xs k.1, needed_runs c (held o xs) x k.0))

-- what holds of a machine holds after any call, and after any list of calls
reachable_range : (m : Machine) (a e : ℕ) (v : Bool) → Reachable m → e ≤ m.capacity → need_of (set_of m) a e v ≤ m.journal - used m
    → Reachable (next_of m (range a e v))
unfolding set_of used
reachable_range m a e v k h r =
    record {
      inside = k.inside;
      standing = stand_added m.capacity m.opened m.standing a e v h k.standing;
      room = rw (needs_added (set_of m) m.standing a e v) (omega (arith, k.room));
    }

reachable_decided : (m : Machine) (a e : ℕ) (v : Bool) → Reachable m → (p q : Bool) → leb e m.capacity ≡ p
    → leb (need_of (set_of m) a e v) (m.journal - used m) ≡ q
    → Reachable (decided (unless p 4 (unless q 6 admitted)) m (range a e v)).next
reachable_decided m a e v k false q x y = k
reachable_decided m a e v k true false x y = k
reachable_decided m a e v k true true x y = reachable_range m a e v k (leb-true e m.capacity x) (leb-true (need_of (set_of m) a e v) (m.journal - used m) y)

pub reachable_fresh : (capacity j : ℕ) → Reachable (fresh capacity j)
reachable_fresh capacity j = record { inside = λ i h. refl; standing = tt; room = omega arith }

pub reachable_opened : (capacity j : ℕ) (o : Positions) → ((i : ℕ) → capacity ≤ i → o i ≡ false) → Reachable (opened_with capacity j o)
reachable_opened capacity j o h = record { inside = h; standing = tt; room = omega arith }

reachable_back : (capacity j : ℕ) (o : Positions) (cs : List Standing)
    → Reachable (record { capacity = capacity; journal = j; opened = o; standing = cs })
    → Reachable (decided (stands_any cs) (record { capacity = capacity; journal = j; opened = o; standing = cs }) back).next
reachable_back capacity j o [] k = k
reachable_back capacity j o (c ∷ cs) k = record { inside = k.inside; standing = k.standing.1; room = omega (arith, k.room) }

pub reachable_step : (m : Machine) (c : Call) → Reachable m → Reachable (step m c).next
unfolding step range_verdict
reachable_step m (range a e v) k = reachable_decided m a e v k (leb e m.capacity) (leb (need_of (set_of m) a e v) (m.journal - used m)) refl refl
reachable_step m back k = reachable_back m.capacity m.journal m.opened m.standing k
reachable_step m wipe k = reachable_fresh m.capacity m.journal

pub reachable_after : (m : Machine) (cs : List Call) → Reachable m → Reachable (after m cs).last
unfolding after
reachable_after m [] k = k
reachable_after m (c ∷ cs) k = reachable_after (step m c).next cs (reachable_step m c k)

-- no call stands exactly when no journal number is in use
pub none_standing : (m : Machine) → Reachable m → used m ≡ 0 → m.standing ≡ []
unfolding used
none_standing m k h = go m.standing k.standing h
  where
    go : (cs : List Standing) → StandAll m.capacity m.opened cs → needs cs ≡ 0 → cs ≡ []
    go [] p q = refl
    go (c ∷ cs) p q = absurd (omega (arith, needed_runs m.capacity (held m.opened cs) c p.0))

-- no position at or above the capacity
pub set_inside : (m : Machine) → Reachable m → (i : ℕ) → m.capacity ≤ i → set_of m i ≡ false
unfolding set_of assigned
set_inside m k i h = go m.standing k.standing
  where
    go : (cs : List Standing) → StandAll m.capacity m.opened cs → held m.opened cs i ≡ false
    go [] p = k.inside i h
    go (c ∷ cs) p = rw (within_behind c.start c.end i (omega (arith, p.0.within))) (go cs p.1)

-- the capacity and the journal's length stay
pub step_capacity : (m : Machine) (c : Call) → (step m c).next.capacity ≡ m.capacity
unfolding step
step_capacity m c = go (verdict m c) c
  where
    go : (x : Verdict) (c : Call) → (decided x m c).next.capacity ≡ m.capacity
    go admitted (range a e v) = refl
    go admitted back = refl
    go admitted wipe = refl
    go (declined k) c = refl

-- the machine's step, case by case: what each return of an entry cites
abbrev pub stayed : Machine → ℕ → Step
stayed m k = record { next = m; answer = refusal k }

abbrev pub went : Machine → Call → Step
went m c = record { next = next_of m c; answer = number (amount m c) }

pub step_outside : (m : Machine) (a e : ℕ) (v : Bool) → m.capacity < e → step m (range a e v) ≡ stayed m 4
unfolding step range_verdict
step_outside m a e v h = rw (lt-leb e m.capacity h)

pub step_full : (m : Machine) (a e : ℕ) (v : Bool) → e ≤ m.capacity → m.journal - used m < need_of (set_of m) a e v
    → step m (range a e v) ≡ stayed m 6
unfolding step range_verdict
step_full m a e v h k = rw (le-leb e m.capacity h, lt-leb (need_of (set_of m) a e v) (m.journal - used m) k)

pub step_range : (m : Machine) (a e : ℕ) (v : Bool) → e ≤ m.capacity → need_of (set_of m) a e v ≤ m.journal - used m
    → step m (range a e v) ≡ went m (range a e v)
unfolding step range_verdict
step_range m a e v h k = rw (le-leb e m.capacity h, le-leb (need_of (set_of m) a e v) (m.journal - used m) k)

pub step_none : (m : Machine) → m.standing ≡ [] → step m back ≡ stayed m 5
unfolding step
step_none m h = rw h

pub step_back : (m : Machine) (c : Standing) (cs : List Standing) → m.standing ≡ c ∷ cs
    → step m back ≡ record { next = with_standing m cs; answer = number c.changed }
unfolding step
step_back m c cs h = rw h

-- ---- every machine that is `Reachable` is what a list of calls gives from its opened set: the standing calls, first made first

abbrev pub standing_calls : List Standing → List Call
standing_calls [] = []
standing_calls (c ∷ cs) = standing_calls cs ++ range c.start c.end c.value ∷ []

pub after_then : (m : Machine) (cs : List Call) (c : Call) → (after m (cs ++ c ∷ [])).last ≡ (step (after m cs).last c).next
unfolding after
after_then m [] c = refl
after_then m (d ∷ ds) c = after_then (step m d).next ds c

reached : (capacity j : ℕ) (o : Positions) (cs : List Standing) → StandAll capacity o cs → needs cs ≤ j
    → (after (opened_with capacity j o) (standing_calls cs)).last ≡ with_standing (opened_with capacity j o) cs
unfolding after set_of used standing_call
reached capacity j o [] k h = refl
reached capacity j o (x ∷ xs) k h =
    let m : Machine = with_standing (opened_with capacity j o) xs in
    let need : x.needed ≡ need_of (held o xs) x.start x.end x.value = ap (λ (y : Standing). y.needed) k.0.as_made in
    after_then (opened_with capacity j o) (standing_calls xs) (range x.start x.end x.value)
    ∙ ap (λ (n : Machine). (step n (range x.start x.end x.value)).next) (reached capacity j o xs k.1 (omega arith))
    ∙ ap (λ (s : Step). s.next) (step_range m x.start x.end x.value k.0.within (omega (arith, need)))
    ∙ ap (λ (y : Standing). with_standing m (added y xs)) (sym k.0.as_made)
    ∙ ap (λ (b : Bool). with_standing m (cond b (x ∷ xs) xs)) (lt-ltb 0 x.changed k.0.some)

pub reachable_reached : (m : Machine) → Reachable m
    → (after (opened_with m.capacity m.journal m.opened) (standing_calls m.standing)).last ≡ m
reachable_reached m k = reached m.capacity m.journal m.opened m.standing k.standing k.room
