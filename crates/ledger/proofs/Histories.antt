-- Demand 3's proof: from what new or open gives, through each call's promise, to what can be asked afterwards. Assumes nothing.
use Rattle.ledger.proofs.Kit.{◌≡◌, refl, ap, subst, ◌∙◌, Bool, true, false, ◌&&◌, cond, List, ℕ, ◌%◌, ◌/◌, ◌≤◌, ◌<◌, arith, leb-true, eqb-true, eqb, leb, length}
use Rattle.positions.specs.Positions.{Positions, count}
use Rattle.positions.proofs.Bools.{and_left, and_right}
use Rattle.range_bitset.specs.Layout.{allowed}
use Rattle.positions.specs.Replies.{Reply, refused}
use Rattle.range_bitset.specs.Answers.{allowed_capacity, storage_refusal, range_refusal, point_refusal}
use Rattle.range_bitset.specs.Entries.{Answers}
use Rattle.range_bitset.proofs.AcceptedHeads.{range_accepts, point_accepts, fresh_represents}
use Rattle.ledger.specs.Machine.{Machine, fresh, Call, Outcome, step, after, set_of, population, used}
use Rattle.ledger.specs.Memory.{Memory, memory, lent_enough, Holds}
use Rattle.ledger.specs.Entries.{new_head, new_of, of_new}
use Rattle.ledger.specs.History.{Begun, by_new, by_open, Chain, none as no_call, call, Agrees, History}
use Rattle.ledger.specs.declared.Ledger.{Ledger}
use Rattle.std.proofs.Common.{Result, Ok, Err}
use Rattle.answers.specs.declared.Refusal.{Refusal}
use Rattle.answers.specs.declared.Refusal.TheVariants.{Size, Short}
use Rattle.ledger.proofs.Machines.{reachable_fresh, population_sum}
use Rattle.ledger.proofs.Refusals.{lent_accepted, set_accepts, fresh_refusal}

-- ---- what new gives

abbrev pub head_or : Ledger → Result Ledger Refusal → Ledger
head_or h (Ok x) = x
head_or h (Err k) = h

module _ (capacity j : ℕ) (st journal : List ℕ) where
  pub holds_fresh : (allowed_capacity capacity && leb j 16384) ≡ true → lent_enough (capacity / 64) j (length st) (length journal) ≡ true
      → Holds (memory (new_head (capacity / 64) j false) st journal) (fresh capacity j)
  unfolding allowed_capacity used set_of
  holds_fresh p q =
      let good : allowed_capacity capacity ≡ true = and_left (allowed_capacity capacity) (leb j 16384) p in
      record {
        reachable = reachable_fresh capacity j;
        lent =
            fresh_refusal capacity j (length st) (length journal) good (leb-true j 16384 (and_right (allowed_capacity capacity) (leb j 16384) p))
            ∙ ap (λ (b : Bool). cond b 0 3) q;
        capacity = omega (arith, eqb-true (capacity % 64) 0 (and_left (eqb (capacity % 64) 0) (allowed (capacity / 64)) good));
        journal_length = refl;
        in_use = refl;
        set = fresh_represents (capacity / 64) st;
        journal = refl;
      }

  holds_new : (h : Ledger) → new_of capacity j (length st) (length journal) ≡ Ok h → Holds (memory h st journal) (fresh capacity j)
  unfolding new_of
  holds_new h e =
      by (allowed_capacity capacity && leb j 16384) refl (lent_enough (capacity / 64) j (length st) (length journal)) refl e
    where
      by : (p : Bool) → (allowed_capacity capacity && leb j 16384) ≡ p
          → (q : Bool) → lent_enough (capacity / 64) j (length st) (length journal) ≡ q
          → cond p (cond q (Ok (new_head (capacity / 64) j false)) (Err Short)) (Err Size) ≡ Ok h
          → Holds (memory h st journal) (fresh capacity j)
      by false x q y z = absurd (omega (arith, ap (λ (o : Result Ledger Refusal). refused (of_new o)) z))
      by true x false y z = absurd (omega (arith, ap (λ (o : Result Ledger Refusal). refused (of_new o)) z))
      by true x true y z = subst (λ (k : Ledger). Holds (memory k st journal) (fresh capacity j)) (ap (head_or h) z) (holds_fresh x y)

pub begun : (x : Memory) (m : Machine) → Begun x m → Holds x m
begun x m (by_new {capacity = c} {j = j} {h = h} {st = st} {journal = journal} e) = holds_new c j st journal h e
begun x m (by_open k) = k.holds _ refl

-- ---- through the calls

-- the answers are the machine's
chain_answers : (x z : Memory) (m : Machine) (cs : List Call) (rs : List Reply) → Holds x m → Chain x cs rs z
    → rs ≡ (after m cs).answers
unfolding after
chain_answers x z m cs rs h no_call = refl
chain_answers x z m cs rs h (call {y = y} {c = c} {cs = ds} {rs = qs} s t) =
    rw (s.answers m h, chain_answers y z (step m c).next ds qs (s.holds m h) t)

-- and the memory holds the machine's state
pub chain_holds : (x z : Memory) (m : Machine) (cs : List Call) (rs : List Reply) → Holds x m → Chain x cs rs z → Holds z (after m cs).last
unfolding after
chain_holds x z m cs rs h no_call = h
chain_holds x z m cs rs h (call {y = y} {c = c} {cs = ds} {rs = qs} s t) = chain_holds y z (step m c).next ds qs (s.holds m h) t

-- ---- what can be asked afterwards

module _ (x : Memory) (m : Machine) (h : Holds x m) where
  pub accepted : storage_refusal x.head.set (length x.storage) ≡ 0
  accepted =
      set_accepts x.head x.head.journal (length x.storage) (length x.journal)
      (lent_accepted x.head x.head.journal (length x.storage) (length x.journal) h.lent)

  in_range : (e : ℕ) → e ≤ m.capacity → range_refusal x.head.set (length x.storage) e ≡ 0
  in_range e l = range_accepts x.head.set (length x.storage) e accepted (rw h.capacity l)

  in_point : (i : ℕ) → i < m.capacity → point_refusal x.head.set (length x.storage) i ≡ 0
  in_point i l = point_accepts x.head.set (length x.storage) i accepted (rw h.capacity l)

  -- a query that the set answers is answered for the machine's set
  asked : {k : ℕ} {f : Positions → Reply} {r : Reply} → k ≡ 0 → Answers k x.head.set x.storage f r → r ≡ f (set_of m)
  asked z q = q.answers z (set_of m) h.set

  size : x.head.set.len ≡ population m
  unfolding population
  size = h.set.counted ∙ ap (λ (c : ℕ). count (set_of m) 0 c) h.capacity

pub agrees : (o : Outcome) (rs : List Reply) (x : Memory) → rs ≡ o.answers → Holds x o.last → Agrees o rs x
agrees o rs x e h =
    let m : Machine = o.last in
    record {
      answers = e;
      gets = λ i l r q. asked x m h (in_point x m h i l) q;
      counts = λ a b l r q. asked x m h (in_range x m h b l) q;
      ones = λ a b l r q. asked x m h (in_range x m h b l) q.query;
      zeros = λ a b l r q. asked x m h (in_range x m h b l) q.query;
      population_agrees = size x m h;
      population_sum = rw (size x m h) (population_sum m h.reachable);
      use_agrees = h.in_use;
    }

pub chain_agrees : (start end : Memory) (m : Machine) (calls : List Call) (replies : List Reply) → Holds start m → Chain start calls replies end
    → Agrees (after m calls) replies end
chain_agrees start end m calls replies h t =
    agrees (after m calls) replies end (chain_answers start end m calls replies h t) (chain_holds start end m calls replies h t)

pub history : History
history start m b calls replies end t = chain_agrees start end m calls replies (begun start m b) t
