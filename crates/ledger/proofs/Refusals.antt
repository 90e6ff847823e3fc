-- Laws of the refusals: what a declined call promises; and of 2 and 3, what each test of the code decides, what an accepted head and
-- lent slices say, and that the head a call gives is accepted again. Assumes nothing.
use Rattle.ledger.proofs.Kit.{◌≡◌, ◌≢◌, refl, ap, sym, inr, ◌∙◌, Bool, true, false, ◌&&◌, cond, List, ℕ, ◌-◌, ◌/◌, ◌≤◌, ◌<◌, arith, leb-true, le-leb, lt-leb, leb}
use Rattle.positions.proofs.Bools.{and_left, and_right}
use Rattle.positions.specs.Positions.{Positions}
use Rattle.range_bitset.specs.Layout.{needed}
use Rattle.range_bitset.specs.Represents.{Represents}
use Rattle.positions.specs.Replies.{refusal}
use Rattle.answers.specs.Refusals.{number_of}
use Rattle.answers.specs.declared.Refusal.{Refusal}
use Rattle.answers.proofs.Numbers.{number_some}
use Rattle.range_bitset.specs.Answers.{allowed_capacity, good_head, head_refusal, storage_refusal}
use Rattle.range_bitset.proofs.AcceptedHeads.{good_bounds, head_declined, storage_accepted, accepted_storage, storage_short, storage_three, represented_good, fresh_good}
use Rattle.ledger.specs.Machine.{Machine, Call, range, back, wipe, step}
use Rattle.ledger.specs.Memory.{Memory, call_refusal, Holds, good_ledger, lent_enough, refusal_for, lent_refusal, wipe_refusal}
use Rattle.ledger.specs.Entries.{CallEnsures, call_need, flag_after, most_need, new_head, ranges}
use Rattle.ledger.specs.declared.Ledger.{Ledger}
use Rattle.ledger.proofs.Machines.{stayed}

-- ---- a call that is refused, given that the machine refuses it too

-- by the table; or, where the table lets it pass, since it needs more numbers than are left
pub declined_call : (c : Call) (x : Memory) (k : ℕ) → (call_refusal c x ≢ 0 → k ≡ call_refusal c x)
    → (call_refusal c x ≡ 0 → (k ≡ 6) × (ranges c ≡ true)
    × ((s : Positions) → Represents x.head.set x.storage s → x.head.journal - x.head.used < call_need c s)
    × (most_need c ≤ x.head.journal - x.head.used → ⊥))
    → ((m : Machine) → Holds x m → step m c ≡ stayed m k) → CallEnsures c x (refusal k) x
declined_call c x k e p f =
    record {
      refuses = λ w. ap refusal (e w);
      only_6 = λ w. let q = p w in inr (ap refusal q.0, q.1);
      exactly_6 = λ w s y. let q = p w in q.0 ∙ sym (ap (λ (b : Bool). cond b 0 6) (lt-leb _ _ (q.2 s y)));
      short_6 = λ w o. absurd ((p w).3 o);
      unchanged = λ w. refl;
      same_words = refl;
      same_limit = refl;
      used_most = λ w. absurd w;
      storage_kept = refl;
      journal_kept = λ i w. refl;
      answers = λ m q. rw (f m q);
      holds = λ m q. rw (f m q) q;
      flag = λ m q. same m c;
    }
  where
    same : (m : Machine) (c : Call) → x.head.set.allocated ≡ flag_after x.head.set.allocated m c (refusal k)
    same m (range a e v) = refl
    same m back = refl
    same m wipe = refl

pub refused_call : (c : Call) (x : Memory) (k : ℕ) → k ≡ call_refusal c x → (k ≡ 0 → ⊥)
    → ((m : Machine) → Holds x m → step m c ≡ stayed m k) → CallEnsures c x (refusal k) x
refused_call c x k e z f = declined_call c x k (λ w. e) (λ w. absurd (z (e ∙ w))) f

-- ---- a good head

module _ (h : Ledger) where
  pub ledger_set : good_ledger h ≡ true → good_head h.set ≡ true
  unfolding good_ledger
  ledger_set e = and_left (good_head h.set) (leb h.journal 16384 && leb h.used h.journal) e

  pub ledger_words : good_ledger h ≡ true → h.set.words ≤ 4096
  ledger_words e = (good_bounds h.set (ledger_set e)).1

  ledger_bounds : good_ledger h ≡ true → (h.journal ≤ 16384) × (h.used ≤ h.journal)
  unfolding good_ledger
  ledger_bounds e =
      let q = and_right (good_head h.set) (leb h.journal 16384 && leb h.used h.journal) e in
      (leb-true _ _ (and_left (leb h.journal 16384) (leb h.used h.journal) q), leb-true _ _ (and_right (leb h.journal 16384) (leb h.used h.journal) q))

  good_again : good_head h.set ≡ true → h.journal ≤ 16384 → h.used ≤ h.journal → good_ledger h ≡ true
  unfolding good_ledger
  good_again g l u = rw (g, le-leb h.journal 16384 l, le-leb h.used h.journal u)

-- ---- the tests of `check` in turn: the set's head, J, U, and then what is lent

module _ (h : Ledger) (j n k : ℕ) where
  pub head_refused : (r : Refusal) → number_of r ≡ head_refusal h.set → number_of r ≡ refusal_for h j n k
  unfolding refusal_for good_ledger
  head_refused r e = let d = head_declined h.set r e in rw (d.0, d.1)

  module _ (g : good_head h.set ≡ true) where
    pub journal_above : 16384 < h.journal → 2 ≡ refusal_for h j n k
    unfolding refusal_for good_ledger
    journal_above l = rw (g, lt-leb h.journal 16384 l)

    module _ (l : h.journal ≤ 16384) where
      pub used_above : h.journal < h.used → 2 ≡ refusal_for h j n k
      unfolding refusal_for good_ledger
      used_above u = rw (g, le-leb h.journal 16384 l, lt-leb h.used h.journal u)

      module _ (u : h.used ≤ h.journal) where
        pub storage_less : (r : Refusal) → number_of r ≡ storage_refusal h.set n → number_of r ≡ refusal_for h j n k
        unfolding refusal_for lent_enough
        storage_less r e =
            rw (good_again h g l u, lt-leb (needed h.set.words) n (storage_short h.set n g (λ q. number_some r (e ∙ q)))) (e ∙ storage_three h.set n g (λ q. number_some r (e ∙ q)))

        pub journal_short : storage_refusal h.set n ≡ 0 → k < j → 3 ≡ refusal_for h j n k
        unfolding refusal_for lent_enough
        journal_short z q = rw (good_again h g l u, le-leb (needed h.set.words) n (storage_accepted h.set n z).1, lt-leb j k q)

        pub all_enough : storage_refusal h.set n ≡ 0 → j ≤ k → 0 ≡ refusal_for h j n k
        unfolding refusal_for lent_enough
        all_enough z q = rw (good_again h g l u, le-leb (needed h.set.words) n (storage_accepted h.set n z).1, le-leb j k q)

-- ---- what an accepted head and lent slices say

pub record LentEnough (h : Ledger) (j n k : ℕ) : Type 0 where
  pub good : good_ledger h ≡ true
  pub journal_most : h.journal ≤ 16384
  pub used_most : h.used ≤ h.journal
  pub long : needed h.set.words ≤ n
  pub journal_long : j ≤ k

lent_both : (W j n k : ℕ) → lent_enough W j n k ≡ true → (needed W ≤ n) × (j ≤ k)
unfolding lent_enough
lent_both W j n k e = (leb-true _ _ (and_left (leb (needed W) n) (leb j k) e), leb-true _ _ (and_right (leb (needed W) n) (leb j k) e))

pub lent_accepted : (h : Ledger) (j n k : ℕ) → refusal_for h j n k ≡ 0 → LentEnough h j n k
unfolding refusal_for
lent_accepted h j n k e = by (good_ledger h) refl (lent_enough h.set.words j n k) refl e
  where
    by : (g : Bool) → good_ledger h ≡ g → (l : Bool) → lent_enough h.set.words j n k ≡ l → ◌≡◌ {A = ℕ} (cond g (cond l 0 3) 2) 0
        → LentEnough h j n k
    by false p l q z = absurd (omega arith)
    by true p false q z = absurd (omega arith)
    by true p true q z =
        let b = ledger_bounds h p in
        let l = lent_both h.set.words j n k q in
        record { good = p; journal_most = b.0; used_most = b.1; long = l.0; journal_long = l.1 }

accepted_lent : (h : Ledger) (j n k : ℕ) → LentEnough h j n k → refusal_for h j n k ≡ 0
unfolding refusal_for lent_enough
accepted_lent h j n k a = rw (a.good, le-leb (needed h.set.words) n a.long, le-leb j k a.journal_long)

-- the set's own calls are then not refused 2 or 3
pub set_accepts : (h : Ledger) (j n k : ℕ) → LentEnough h j n k → storage_refusal h.set n ≡ 0
set_accepts h j n k a = accepted_storage h.set n (ledger_set h a.good) a.long

-- and wipe is not refused
pub lent_wipes : (h : Ledger) (j n k : ℕ) → LentEnough h j n k → wipe_refusal h n ≡ 0
lent_wipes h j n k a =
    accepted_lent h 0 n 0
    (record { good = a.good; journal_most = a.journal_most; used_most = a.used_most; long = a.long; journal_long = omega arith })

-- ---- a fresh ledger's head is good, so that its refusal tells whether what is lent is enough

pub fresh_refusal : (capacity j n k : ℕ) → allowed_capacity capacity ≡ true → j ≤ 16384
    → lent_refusal (new_head (capacity / 64) j false) n k ≡ cond (lent_enough (capacity / 64) j n k) 0 3
unfolding refusal_for
fresh_refusal capacity j n k a l = rw (good_again (new_head (capacity / 64) j false) (fresh_good capacity a) l (omega arith))

-- ---- the head that a call gives: the same words and journal length, a population that counts a set, U within J

pub lent_again : (h h' : Ledger) (n k n' k' : ℕ) (st : List ℕ) (s : Positions) → LentEnough h h.journal n k → h'.set.words ≡ h.set.words
    → Represents h'.set st s → h'.journal ≡ h.journal → h'.used ≤ h.journal → n' ≡ n → k' ≡ k → lent_refusal h' n' k' ≡ 0
lent_again h h' n k n' k' st s a w t j u en ek =
    accepted_lent h' h'.journal n' k'
    (record {
      good = good_again h' (represented_good h.set h'.set st s (ledger_set h a.good) w t) (omega (arith, a.journal_most)) (omega arith);
      journal_most = omega (arith, a.journal_most);
      used_most = omega arith;
      long = rw (w, en) a.long;
      journal_long = omega (arith, a.journal_long);
    })
