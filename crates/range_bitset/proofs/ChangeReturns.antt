-- The returns of `assign`, `set` and `clear`: what each promises, from what the code has there. Assumes nothing.
use Rattle.range_bitset.proofs.Kit.{◌≡◌, refl, ap, ap₂, not-true, sym, ◌∙◌, subst, Bool, true, false, not, ◌&&◌, ◌||◌, cond, true≢false, false≢true, or-false, List, ℕ, suc, ◌+◌, ◌*◌, ◌-◌, ◌/◌, ◌%◌, ◌^◌, ◌≤◌, ◌<◌, arith, eqb, ltb, drop, length, eqb-true, eqb-false, eq-eqb, ne_eqb, lt-ltb, le-ltb}
use Rattle.positions.proofs.Replies.{accepted_refused}
use Rattle.positions.specs.Positions.{Positions, none, within, assigned, count, changed_count, differ, lacking, one}
use Rattle.positions.proofs.Ranges.{Place, inside, before, behind, place}
use Rattle.positions.proofs.Counts.{count_none, count_zero, count_le}
use Rattle.positions.proofs.Assigned.{assigned_count, assigned_empty, assigned_none, changed_empty, changed_le}
use Rattle.bits.proofs.Bits.{bit_pow}
use Rattle.range_bitset.specs.Layout.{needed}
use Rattle.range_bitset.specs.Represents.{Stored, Represents, capacity_of}
use Rattle.positions.specs.Replies.{Reply, number, Accepted}
use Rattle.range_bitset.specs.Answers.{range_refusal, point_refusal, storage_refusal}
use Rattle.range_bitset.specs.Entries.{Changes, AssignEnsures, SetEnsures, ClearEnsures}
use Rattle.range_bitset.specs.Inner.{Room, Spans, Begins, Assigns}
use Rattle.range_bitset.specs.declared.RangeBitset.{RangeBitset}
use Rattle.std.proofs.Common.{Ok}
use Rattle.range_bitset.proofs.AgreeingSets.{stored_agrees}
use Rattle.range_bitset.proofs.AcceptedHeads.{range_accepted, point_accepted}

abbrev head_of : ℕ → ℕ → Bool → RangeBitset
head_of W n x = record { words = W; len = n; allocated = x }

head_is : (h : RangeBitset) (n : ℕ) (x : Bool) → h.len ≡ n → h.allocated ≡ x → h ≡ head_of h.words n x
head_is h n x p q = λ i. record { words = h.words; len = p i; allocated = q i }

-- ---- the two ways out

module _ {f : Positions → Reply} {g : Positions → Positions} {begins clears : Bool} (k : ℕ) (h : RangeBitset) (st : List ℕ) where
  -- accepted, and the set is as it was
  pub same_set : (r : Reply) → k ≡ 0 → Accepted r → ((s : Positions) → Represents h st s → (r ≡ f s) × (g s ≡ s) × (h.allocated ≡ (h.allocated || begins)))
      → Changes k h st f g begins clears r h st
  same_set r e z q =
      record {
        refuses = accepted_refused r z ∙ sym e;
        accepts = λ w. z;
        unchanged = λ w. (refl, refl);
        storage_kept = refl;
        same_words = refl;
        idle = λ w o. (refl, refl);
        answers = λ w s t. (q s t).0;
        head = λ w s t.
            head_is h _ _ (t.counted ∙ ap (λ (x : Positions). count x 0 (capacity_of h)) (sym (q s t).1)) (q s t).2;
        represents = λ w s t. subst (λ (x : Positions). Represents h st x) (sym (q s t).1) t;
      }

  -- accepted, and the storage holds another set
  pub new_set : (r : Reply) (n : ℕ) (st' : List ℕ) → k ≡ 0 → Accepted r → (clears ≡ true → h.len ≡ 0 → ⊥) → drop (needed h.words) st' ≡ drop (needed h.words) st
      → ((s : Positions) → Represents h st s → (r ≡ f s) × (n ≡ count (g s) 0 (capacity_of h)) × (true ≡ (h.allocated || begins)) × Stored h.words st' (g s))
      → Changes k h st f g begins clears r (head_of h.words n true) st'
  new_set r n st' e z busy d q =
      record {
        refuses = accepted_refused r z ∙ sym e;
        accepts = λ w. z;
        unchanged = λ w. absurd (w e);
        storage_kept = d;
        same_words = refl;
        idle = λ w o. absurd (busy w o);
        answers = λ w s t. (q s t).0;
        head = λ w s t. head_is (head_of h.words n true) _ _ (q s t).1 (q s t).2;
        represents = λ w s t.
            record { fresh = λ v. absurd (true≢false v); begun = λ v. (q s t).3; counted = (q s t).1 };
      }

-- ---- clearing a set that has nothing, and any other change

idle_clear : (h : RangeBitset) (st : List ℕ) (a e : ℕ) (v : Bool) → e ≤ capacity_of h → v ≡ false → h.len ≡ 0 → (s : Positions) → Represents h st s
    → changed_count s a e v ≡ 0
unfolding changed_count
idle_clear h st a e v l f z s t =
    count_none (lacking s v) a e (λ j p q. ap₂ differ (count_zero s 0 (capacity_of h) (sym t.counted ∙ z) j (omega arith) (omega arith)) f)

-- a call that is not idle leaves the flag set
begun_after : (h : RangeBitset) (st : List ℕ) (v : Bool) → (v ≡ false → h.len ≡ 0 → ⊥) → (s : Positions) → Represents h st s → true ≡ (h.allocated || v)
begun_after h st v busy s t = go h.allocated refl v refl
  where
    go : (x : Bool) → h.allocated ≡ x → (y : Bool) → v ≡ y → true ≡ (x || y)
    go true e y f = refl
    go false e true f = refl
    go false e false f = absurd (busy f (t.counted ∙ count_none s 0 (capacity_of h) (λ j p q. t.fresh e j q)))

-- the population moved by what changed
len_after : (h : RangeBitset) (st : List ℕ) (a e : ℕ) (v : Bool) (n : ℕ) → Room h.words st → e ≤ capacity_of h → (s : Positions) → Represents h st s → n ≡ changed_count s a e v
    → cond v ((h.len + n) % 2 ^ 32) ((h.len + (2 ^ 32 - n)) % 2 ^ 32) ≡ count (assigned s a e v) 0 (capacity_of h)
len_after h st a e v n room l s t q = by v (assigned_count s a e v 0 (capacity_of h) (omega arith) l)
  where
    m : h.words ≤ 4096
    m = room.most

    bound : count (assigned s a e v) 0 (capacity_of h) ≤ 262144
    bound = omega (arith, count_le (assigned s a e v) 0 (capacity_of h))

    old : count s 0 (capacity_of h) ≤ 262144
    old = omega (arith, count_le s 0 (capacity_of h))

    by : (w : Bool) → count (assigned s a e v) 0 (capacity_of h) + cond (differ w false) 0 (changed_count s a e v)
        ≡ count s 0 (capacity_of h) + cond (differ w true) 0 (changed_count s a e v)
        → cond w ((h.len + n) % 2 ^ 32) ((h.len + (2 ^ 32 - n)) % 2 ^ 32) ≡ count (assigned s a e v) 0 (capacity_of h)
    by true z = omega (arith, t.counted, bound, q)
    by false z = omega (arith, t.counted, old, q)

-- a..e assigned, after the storage was begun
module _ (h : RangeBitset) (st st₁ st₂ : List ℕ) (a e : ℕ) (v : Bool) (n : ℕ) (room : Room h.words st) (l : e ≤ capacity_of h)
    (b : Begins h.words h.allocated st st₁) (w : Assigns h.words a e v st₁ st₂ n) where
  begun_holds : (s : Positions) → Represents h st s → Stored h.words st₁ s
  begun_holds s t = b.holds s t.begun t.fresh

  pub change_done : {f : Positions → Reply} {begins : Bool} (k m : ℕ) (r : Reply) → k ≡ 0 → Accepted r
      → m ≡ cond v ((h.len + n) % 2 ^ 32) ((h.len + (2 ^ 32 - n)) % 2 ^ 32)
      → (v ≡ false → h.len ≡ 0 → ⊥) → begins ≡ v
      → ((s : Positions) → n ≡ changed_count s a e v → r ≡ f s)
      → Changes k h st f (λ s. assigned s a e v) begins (not v) r (head_of h.words m true) st₂
  change_done k m r z q em busy eb ans =
      new_set k h st r m st₂ z q (λ x. busy (not-true v x)) (w.storage_kept ∙ b.storage_kept)
      (λ s t.
      let c = w.changed s (begun_holds s t) in
      (ans s c, em ∙ len_after h st a e v n room l s t c, begun_after h st v busy s t ∙ ap (λ (x : Bool). h.allocated || x) (sym eb), w.holds s (begun_holds s t)))

-- ---- `assign`

module _ (h : RangeBitset) (st : List ℕ) (a e : ℕ) (v : Bool) (z : range_refusal h (length st) e ≡ 0) where
  pub assign_empty : e ≤ a → AssignEnsures h st a e v (Ok (record { answer = 0; head = h })) st
  assign_empty l =
      same_set _ h st _ z tt
      (λ s t. (ap number (sym (changed_empty s a e v l)), assigned_empty s a e v l, sym (ap (λ (x : Bool). h.allocated || (v && x)) (le-ltb a e l) ∙ flag v h.allocated)))
    where
      flag : (v x : Bool) → (x || (v && false)) ≡ x
      flag true x = or-false x
      flag false x = or-false x

  pub assign_idle : v ≡ false → h.len ≡ 0 → AssignEnsures h st a e v (Ok (record { answer = 0; head = h })) st
  assign_idle f n =
      same_set _ h st _ z tt
      (λ s t.
      let q = idle_clear h st a e v (range_accepted h st e z).1 f n s t in
      (ap number (sym q), assigned_none s a e v q, sym (ap (λ (x : Bool). h.allocated || (x && ltb a e)) f ∙ or-false h.allocated)))

  pub assign_done : (st₁ st₂ : List ℕ) (n m : ℕ) → a < e → (v ≡ false → h.len ≡ 0 → ⊥)
      → Begins h.words h.allocated st st₁ → Assigns h.words a e v st₁ st₂ n
      → m ≡ cond v ((h.len + n) % 2 ^ 32) ((h.len + (2 ^ 32 - n)) % 2 ^ 32)
      → AssignEnsures h st a e v (Ok (record { answer = n; head = record { words = h.words; len = m; allocated = true } })) st₂
  assign_done st₁ st₂ n m l busy b w em =
      let q = range_accepted h st e z in
      change_done h st st₁ st₂ a e v n q.0 q.1 b w _ m _ z tt em busy
      (ap (λ (x : Bool). v && x) (lt-ltb a e l) ∙ and-true v) (λ s c. ap number c)
    where
      and-true : (x : Bool) → (x && true) ≡ x
      and-true true = refl
      and-true false = refl

-- ---- `set`

-- one bit spans a range of length 1
pub single_spans : (j : ℕ) → Spans (2 ^ j) j (j + 1)
single_spans j i = bit_pow j i ∙ go (place j (j + 1) i)
  where
    go : Place j (j + 1) i → eqb i j ≡ within j (j + 1) i
    go (inside p q e) = eq-eqb i j (omega arith) ∙ sym e
    go (before p e) = ne_eqb i j (λ z. omega arith) ∙ sym e
    go (behind p e) = ne_eqb i j (λ z. omega arith) ∙ sym e

module _ (h : RangeBitset) (st : List ℕ) (i : ℕ) (v : Bool) (z : point_refusal h (length st) i ≡ 0) where
  pub set_idle : v ≡ false → h.len ≡ 0 → SetEnsures h st i v (Ok (record { answer = false; head = h })) st
  set_idle f n =
      let u = (point_accepted h st i z).1 in
      same_set _ h st _ z tt
      (λ s t.
      let q = idle_clear h st i (suc i) v u f n s t in
      (ap number (sym q), assigned_none s i (suc i) v q, sym (ap (λ (x : Bool). h.allocated || x) f ∙ or-false h.allocated)))

  -- whether a position changed is how many did
  whether : (n : ℕ) → n ≤ 1 → one (not (eqb n 0)) ≡ n
  whether n l = by (eqb n 0) refl
    where
      by : (x : Bool) → eqb n 0 ≡ x → one (not x) ≡ n
      by true e = sym (eqb-true n 0 e)
      by false e = let q : n ≡ 0 → ⊥ = eqb-false n 0 e in omega arith

  pub set_done : (st₁ st₂ : List ℕ) (n m w : ℕ) → (v ≡ false → h.len ≡ 0 → ⊥)
      → Begins h.words h.allocated st st₁ → w ≡ 2 ^ (i % 64)
      → ((a b : ℕ) → Spans w a b → a ≤ b → b ≤ 64 → Assigns h.words (64 * (i / 64) + a) (64 * (i / 64) + b) v st₁ st₂ n)
      → m ≡ cond v ((h.len + n) % 2 ^ 32) ((h.len + (2 ^ 32 - n)) % 2 ^ 32)
      → SetEnsures h st i v (Ok (record { answer = not (eqb n 0); head = record { words = h.words; len = m; allocated = true } })) st₂
  set_done st₁ st₂ n m w busy b ew as' em =
      let q = point_accepted h st i z in
      let j : 64 * (i / 64) + i % 64 ≡ i = omega arith in
      let j' : 64 * (i / 64) + (i % 64 + 1) ≡ suc i = omega arith in
      let one_bit : Spans w (i % 64) (i % 64 + 1) = subst (λ (x : ℕ). Spans x (i % 64) (i % 64 + 1)) (sym ew) (single_spans (i % 64)) in
      let a : Assigns h.words i (suc i) v st₁ st₂ n =
      subst (λ (x : ℕ). Assigns h.words x (suc i) v st₁ st₂ n) j
      (subst (λ (x : ℕ). Assigns h.words (64 * (i / 64) + i % 64) x v st₁ st₂ n) j'
      (as' (i % 64) (i % 64 + 1) one_bit (omega arith) (omega arith))) in
      change_done h st st₁ st₂ i (suc i) v n q.0 q.1 b a _ m _ z tt em busy refl
      (λ s c. ap number (whether n (omega (arith, c, changed_le s i (suc i) v)) ∙ c))

-- ---- `clear`

module _ (h : RangeBitset) (st : List ℕ) (z : storage_refusal h (length st) ≡ 0) where
  empty : 0 ≡ count none 0 (capacity_of h)
  empty = sym (count_none none 0 (capacity_of h) (λ i p q. refl))

  pub clear_idle : h.len ≡ 0 → ClearEnsures h st (Ok (record { answer = 0; head = h })) st
  clear_idle nothing =
      record {
        refuses = sym z;
        accepts = λ w. tt;
        unchanged = λ w. (refl, refl);
        storage_kept = refl;
        same_words = refl;
        idle = λ w o. (refl, refl);
        answers = λ w s t. ap number (sym nothing ∙ t.counted);
        head = λ w s t. head_is h _ _ (nothing ∙ empty) (sym (or-false h.allocated));
        represents = λ w s t.
            record {
              fresh = λ v i l. refl;
              begun = λ v. stored_agrees h.words s none (λ i l. count_zero s 0 (capacity_of h) (sym t.counted ∙ nothing) i (omega arith) l) st (t.begun v);
              counted = nothing ∙ empty;
            };
      }

  pub clear_done : (st' : List ℕ) → (h.len ≡ 0 → ⊥) → Begins h.words false st st'
      → ClearEnsures h st (Ok (record { answer = h.len; head = record { words = h.words; len = 0; allocated = h.allocated } })) st'
  clear_done st' some b =
      record {
        refuses = sym z;
        accepts = λ w. tt;
        unchanged = λ w. absurd (w z);
        storage_kept = b.storage_kept;
        same_words = refl;
        idle = λ w o. absurd (some o);
        answers = λ w s t. ap number t.counted;
        head = λ w s t. head_is (head_of h.words 0 h.allocated) _ _ empty (sym (or-false h.allocated));
        represents = λ w s t.
            record {
              fresh = λ v i l. refl;
              begun = λ v. b.holds none (λ y. absurd (false≢true y)) (λ y i l. refl);
              counted = empty;
            };
      }
