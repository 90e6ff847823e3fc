-- Take-back keeps the flag over every list of calls from new or open: with the flag clear no standing clearing has changed a
-- position, so there is none to set again. Assumes nothing.
use Rattle.ledger.proofs.Kit.{◌≡◌, refl, sym, ap, ◌∙◌, Bool, true, false, not, ◌&&◌, ◌||◌, true≢false, cond, List, [], ◌∷◌, ℕ, ◌+◌, arith, ltb-true, ltb-false, ltb}
use Rattle.positions.specs.Positions.{changed_count, differ, lacking}
use Rattle.positions.proofs.Counts.{count_none}
use Rattle.positions.specs.Replies.{Reply, numbers, refused_with}
use Rattle.ledger.specs.Machine.{Machine, Standing, Call, range, back, wipe, set_of, StandAll, Verdict, admitted, declined, range_verdict, stands_any, decided, step, after, changed_by}
use Rattle.ledger.specs.Memory.{Memory, Holds}
use Rattle.ledger.specs.Entries.{CallEnsures, restores, flag_after}
use Rattle.ledger.specs.History.{Begun, by_new, by_open, Chain, none, call}
use Rattle.ledger.proofs.Machines.{changed_added, set_inside}
use Rattle.ledger.proofs.Histories.{begun}

abbrev pub flag_of : Memory → Bool
flag_of x = x.head.set.allocated

-- with the flag clear no standing clearing has changed a position
abbrev pub Unmarked : Memory → Machine → Type 0
Unmarked x m = flag_of x ≡ false → changed_by false m.standing ≡ 0

-- so it is after new or open
pub unmarked_begun : (x : Memory) (m : Machine) → Begun x m → Unmarked x m
unmarked_begun x m (by_new e) f = refl
unmarked_begun x m (by_open e) f = refl

or_clear : (a b : Bool) → (a || b) ≡ false → a ≡ false
or_clear true b e = absurd (true≢false e)
or_clear false b e = refl

-- ---- and so it stays

module _ (x : Memory) (m : Machine) (q : Holds x m) (u : Unmarked x m) where
  -- with the flag clear the set has nothing, so a clearing changes nothing
  clears_none : (a e : ℕ) → flag_of x ≡ false → changed_count (set_of m) a e false ≡ 0
  unfolding changed_count
  clears_none a e f = count_none (lacking (set_of m) false) a e (λ i l w. ap (λ (b : Bool). differ b false) (empty i))
    where
      empty : (i : ℕ) → set_of m i ≡ false
      empty i = go (ltb i m.capacity) refl
        where
          go : (b : Bool) → ltb i m.capacity ≡ b → set_of m i ≡ false
          go true y = q.set.fresh f i (omega (arith, ltb-true i m.capacity y, q.capacity))
          go false y = set_inside m q.reachable i (ltb-false i m.capacity y)

  module _ (r : Reply) (y : Memory) where
    unmarked_range : (a e : ℕ) (v : Bool) (w : Verdict) → r ≡ (decided w m (range a e v)).answer → flag_of y ≡ flag_after (flag_of x) m (range a e v) r
        → Unmarked y (decided w m (range a e v)).next
    unmarked_range a e v (declined k) p g f = u (sym (g ∙ rw p) ∙ f)
    unmarked_range a e true admitted p g f =
        omega (arith, changed_added false (set_of m) m.standing a e true, u (or_clear (flag_of x) (true && ltb a e) (sym (g ∙ rw p) ∙ f)))
    unmarked_range a e false admitted p g f =
        let z = or_clear (flag_of x) (false && ltb a e) (sym (g ∙ rw p) ∙ f) in
        omega (arith, changed_added false (set_of m) m.standing a e false, u z, clears_none a e z)

    unmarked_back : (l : List Standing) → m.standing ≡ l → r ≡ (decided (stands_any l) m back).answer → flag_of y ≡ flag_after (flag_of x) m back r
        → Unmarked y (decided (stands_any l) m back).next
    unmarked_back [] k p g f = u (sym (g ∙ rw p) ∙ f)
    unmarked_back (c ∷ cs) k p g f =
        let z = u (or_clear (flag_of x) (restores m.standing) (sym (g ∙ rw p) ∙ f)) in
        rw k (omega (arith, ap (changed_by false) k))

  pub unmarked_step : (c : Call) (r : Reply) (y : Memory) → CallEnsures c x r y → Unmarked y (step m c).next
  unfolding step
  unmarked_step (range a e v) r y k = unmarked_range r y a e v (range_verdict m a e v) (k.answers m q) (k.flag m q)
  unmarked_step back r y k = unmarked_back r y m.standing refl (k.answers m q) (k.flag m q)
  unmarked_step wipe r y k = λ f. refl

  -- take-back keeps the flag
  pub flag_kept : (r : Reply) (y : Memory) → CallEnsures back x r y → flag_of y ≡ flag_of x
  flag_kept r y k = k.flag m q ∙ by r (flag_of x) refl
    where
      nothing : (l : List Standing) → StandAll m.capacity m.opened l → changed_by false l ≡ 0 → restores l ≡ false
      nothing [] s z = refl
      nothing (c ∷ cs) s z = one_call c.value z
        where
          one_call : (v : Bool) → cond (differ v false) 0 c.changed + changed_by false cs ≡ 0 → not v ≡ false
          one_call true z = refl
          one_call false z = absurd (omega (arith, s.0.some))

      by : (r : Reply) (b : Bool) → flag_of x ≡ b → flag_after (flag_of x) m back r ≡ flag_of x
      by (numbers ns) true f = rw f
      by (numbers ns) false f = rw f (nothing m.standing q.reachable.standing (u f))
      by (refused_with k vs) b f = refl

pub unmarked_chain : (x y : Memory) (m : Machine) (cs : List Call) (rs : List Reply) → Holds x m → Unmarked x m → Chain x cs rs y
    → Holds y (after m cs).last × Unmarked y (after m cs).last
unfolding after
unmarked_chain x y m cs rs q u none = (q, u)
unmarked_chain x y m cs rs q u (call {y = z} {c = c} {r = r} k ks) =
    unmarked_chain z y (step m c).next _ _ (k.holds m q) (unmarked_step x m q u c r z k) ks

-- so take-back keeps the flag after every list of calls from what new or open has just given
pub flag_kept_after : (start end next : Memory) (m : Machine) (cs : List Call) (rs : List Reply) (r : Reply)
    → Begun start m → Chain start cs rs end → CallEnsures back end r next → flag_of next ≡ flag_of end
flag_kept_after start end next m cs rs r b ks k =
    let z = unmarked_chain start end m cs rs (begun start m b) (unmarked_begun start m b) ks in
    flag_kept end (after m cs).last z.0 z.1 r next k
