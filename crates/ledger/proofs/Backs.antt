-- What stands, on memory: a call that changes no position leaves a sound ledger as it was, and an accepted take-back changes a
-- position. Assumes nothing.
use Rattle.ledger.proofs.Kit.{◌≡◌, refl, sym, ap, ◌∙◌, subst, inl, inr, Bool, List, [], ◌∷◌, ℕ, ◌≤◌, ◌<◌, arith, get_or, dec_lt}
use Rattle.positions.specs.Positions.{Positions, changed_count}
use Rattle.positions.specs.Replies.{Reply, number, Accepted}
use Rattle.positions.proofs.Assigned.{changed_differ}
use Rattle.positions.proofs.Counts.{count_same}
use Rattle.range_bitset.specs.Represents.{Represents, capacity_of}
use Rattle.range_bitset.proofs.AgreeingSets.{represented_one}
use Rattle.ledger.specs.Machine.{Machine, Standing, Call, range, back, held, set_of, standing_call, with_standing, StandAll, step, after}
use Rattle.ledger.specs.Memory.{Memory, Holds}
use Rattle.ledger.specs.Entries.{CallEnsures}
use Rattle.ledger.specs.History.{Begun, Chain}
use Rattle.ledger.specs.Back.{IdleLeavesAll, differing, TakesSome, BackTakesSome}
use Rattle.ledger.proofs.Machines.{need_none, step_range, step_none, step_back}
use Rattle.ledger.proofs.Histories.{begun, chain_holds}

-- ---- a call that changes no position

module _ (m : Machine) (a e : ℕ) (v : Bool) (l : e ≤ m.capacity) (none : changed_count (set_of m) a e v ≡ 0) where
  -- the machine accepts it, and stays
  step_idle : step m (range a e v) ≡ record { next = m; answer = number 0 }
  unfolding standing_call
  step_idle =
      step_range m a e v l (omega (arith, need_none (set_of m) a e v none))
      ∙ rw none

pub idle_leaves_all : IdleLeavesAll
idle_leaves_all before next m r a e v q k l none =
    record {
      answers = rw (step_idle m a e v l none) at (k.answers m q);
      holds = stays;
      in_use = same_use;
      journal = λ i. same i (dec_lt i before.head.used);
    }
  where
    stays : Holds next m
    stays = rw (step_idle m a e v l none) at (k.holds m q)

    same_use : next.head.used ≡ before.head.used
    same_use = stays.in_use ∙ sym q.in_use

    same : (i : ℕ) → Dec (i < before.head.used) → get_or next.journal i 0 ≡ get_or before.journal i 0
    same i (yes p) = k.journal_kept i (inl p)
    same i (no p) = k.journal_kept i (inr (omega (arith, same_use)))

-- ---- pressing back

-- the last standing call changed so many positions as differ once it is taken back
held_differ : (o : Positions) (c : Standing) (cs : List Standing) (x : ℕ) → StandAll x o (c ∷ cs)
    → differing (held o (c ∷ cs)) (held o cs) x ≡ c.changed
unfolding differing standing_call
held_differ o c cs x k =
    changed_differ (held o cs) c.start c.end c.value 0 x (omega arith) k.0.within ∙ sym (ap (λ (y : Standing). y.changed) k.0.as_made)

pub back_takes_some : BackTakesSome
unfolding set_of differing
back_takes_some before next m r q k ok = by m.standing refl
  where
    by : (l : List Standing) → m.standing ≡ l → TakesSome before r next
    by [] e = absurd (subst Accepted (k.answers m q ∙ ap (λ (s : _). s.answer) (step_none m e)) ok)
    by (c ∷ cs) e =
        record {
          changed = c.changed;
          some = stand.0.some;
          answers = k.answers m q ∙ ap (λ (s : _). s.answer) (step_back m c cs e);
          changes = λ s t x y.
              count_same _ _ 0 (capacity_of before.head.set) (λ i p l. rw (was s x i l, is t y i l))
              ∙ ap (λ (n : ℕ). differing (held m.opened (c ∷ cs)) (held m.opened cs) n) q.capacity ∙ held_differ m.opened c cs m.capacity stand;
        }
      where
        stand : StandAll m.capacity m.opened (c ∷ cs)
        stand = rw e at q.reachable.standing

        after : Holds next (with_standing m cs)
        after = rw (step_back m c cs e) at (k.holds m q)

        was : (s : Positions) → Represents before.head.set before.storage s → (i : ℕ) → i < capacity_of before.head.set → s i ≡ held m.opened (c ∷ cs) i
        was s x i l = represented_one before.head.set before.storage s (set_of m) x q.set i l ∙ ap (λ (d : List Standing). held m.opened d i) e

        is : (t : Positions) → Represents next.head.set next.storage t → (i : ℕ) → i < capacity_of before.head.set → t i ≡ held m.opened cs i
        is t y i l = represented_one next.head.set next.storage t (held m.opened cs) y after.set i (omega (arith, k.same_words))

-- so it is after every list of calls from what new or open has just given
pub back_takes_some_after : (start end next : Memory) (m : Machine) (cs : List Call) (rs : List Reply) (r : Reply)
    → Begun start m → Chain start cs rs end → CallEnsures back end r next → Accepted r → TakesSome end r next
back_takes_some_after start end next m cs rs r b ks k ok =
    back_takes_some end next (after m cs).last r (chain_holds start end m cs rs (begun start m b) ks) k ok
