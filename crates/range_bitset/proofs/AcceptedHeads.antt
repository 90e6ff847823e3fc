-- What an accepted head, storage, range and point say, what is enough for each to be accepted, and a fresh set's head. Assumes nothing.
use Rattle.range_bitset.proofs.Kit.{◌≡◌, refl, sym, ap, ◌∙◌, Bool, true, false, cond, false≢true, List, ℕ, zero, suc, ◌*◌, ◌/◌, ◌%◌, ◌≤◌, ◌<◌, arith, eqb, leb, ltb, ones, length, leb-true, le-leb, ltb-true, ltb-false, lt-ltb, le-ltb, eqb-true}
use Rattle.positions.specs.Positions.{Positions, none}
use Rattle.positions.proofs.Bools.{and_left, and_right}
use Rattle.positions.proofs.Counts.{count_le, count_none}
use Rattle.range_bitset.specs.Layout.{allowed, needed}
use Rattle.range_bitset.specs.Represents.{Represents, capacity_of}
use Rattle.positions.specs.Replies.{refusal}
use Rattle.answers.specs.Refusals.{number_of}
use Rattle.answers.specs.declared.Refusal.{Refusal}
use Rattle.answers.proofs.Numbers.{number_some}
use Rattle.range_bitset.specs.Answers.{allowed_capacity, good_head, head_refusal, storage_refusal, range_refusal, point_refusal, first_of}
use Rattle.range_bitset.specs.Entries.{of_head}
use Rattle.range_bitset.specs.Inner.{Room}
use Rattle.range_bitset.specs.declared.RangeBitset.{RangeBitset}
use Rattle.range_bitset.proofs.RefusalChains.{stop, clear}

one_pos : (W : ℕ) → ones W ≡ 1 → 0 < W
unfolding ones
one_pos zero e = omega arith
one_pos (suc W) e = omega arith

-- of W the inner functions use no more than this
pub allowed_bounds : (W : ℕ) → allowed W ≡ true → (0 < W) × (W ≤ 4096)
unfolding allowed
allowed_bounds W e =
    (one_pos W (eqb-true (ones W) 1 (and_left (eqb (ones W) 1) (leb W 4096) e)), leb-true W 4096 (and_right (eqb (ones W) 1) (leb W 4096) e))

pub good_bounds : (h : RangeBitset) → good_head h ≡ true → (0 < h.words) × (h.words ≤ 4096) × (h.len ≤ capacity_of h)
unfolding good_head
good_bounds h e =
    let q = allowed_bounds h.words (and_left (allowed h.words) (leb h.len (capacity_of h)) e) in
    (q.0, q.1, leb-true _ _ (and_right (allowed h.words) (leb h.len (capacity_of h)) e))

-- ---- the head alone

pub head_accepted : (h : RangeBitset) → head_refusal h ≡ 0 → good_head h ≡ true
unfolding head_refusal
head_accepted h e = by (good_head h) refl e
  where
    by : (g : Bool) → good_head h ≡ g → ◌≡◌ {A = ℕ} (cond g 0 2) 0 → good_head h ≡ true
    by true p z = p
    by false p z = absurd (omega arith)

-- a head that is refused by itself
pub head_declined : (h : RangeBitset) (k : Refusal) → number_of k ≡ head_refusal h → (good_head h ≡ false) × (number_of k ≡ 2)
unfolding head_refusal
head_declined h k e = by (good_head h) refl e
  where
    by : (g : Bool) → good_head h ≡ g → number_of k ≡ cond g 0 2 → (good_head h ≡ false) × (number_of k ≡ 2)
    by true p z = absurd (number_some k z)
    by false p z = (p, z)

pub head_refused : (h : RangeBitset) (n : ℕ) (k : Refusal) → number_of k ≡ head_refusal h → refusal (number_of k) ≡ of_head h n
unfolding of_head
head_refused h n k e = let d = head_declined h k e in rw (d.0, d.1)

-- ---- head and storage

pub head_first : (h : RangeBitset) (n : ℕ) (k : Refusal) → number_of k ≡ head_refusal h → number_of k ≡ storage_refusal h n
unfolding storage_refusal
head_first h n k e = let d = head_declined h k e in rw (d.0, d.1)

pub storage_accepted : (h : RangeBitset) (n : ℕ) → storage_refusal h n ≡ 0 → (good_head h ≡ true) × (needed h.words ≤ n)
unfolding storage_refusal
storage_accepted h n e = by (good_head h) refl (ltb n (needed h.words)) refl e
  where
    by : (g : Bool) → good_head h ≡ g → (l : Bool) → ltb n (needed h.words) ≡ l → ◌≡◌ {A = ℕ} (cond g (cond l 3 0) 2) 0
        → (good_head h ≡ true) × (needed h.words ≤ n)
    by true p true q z = absurd (omega arith)
    by false p l q z = absurd (omega arith)
    by true p false q z = (p, ltb-false _ _ q)

pub accepted_storage : (h : RangeBitset) (n : ℕ) → good_head h ≡ true → needed h.words ≤ n → storage_refusal h n ≡ 0
unfolding storage_refusal
accepted_storage h n g l = rw (g, le-ltb n (needed h.words) l)

-- behind a good head anything but 0 tells that the storage is short
pub storage_short : (h : RangeBitset) (n : ℕ) → good_head h ≡ true → (storage_refusal h n ≡ 0 → ⊥) → n < needed h.words
storage_short h n g f = by (ltb n (needed h.words)) refl
  where
    by : (l : Bool) → ltb n (needed h.words) ≡ l → n < needed h.words
    by true p = ltb-true n (needed h.words) p
    by false p = absurd (f (accepted_storage h n g (ltb-false n (needed h.words) p)))

pub storage_three : (h : RangeBitset) (n : ℕ) → good_head h ≡ true → (storage_refusal h n ≡ 0 → ⊥) → storage_refusal h n ≡ 3
unfolding storage_refusal
storage_three h n g f = rw (g, lt-ltb n (needed h.words) (storage_short h n g f))

-- where the first checks pass there is room
pub accepted : (h : RangeBitset) (st : List ℕ) → storage_refusal h (length st) ≡ 0 → Room h.words st
accepted h st e =
    let a = storage_accepted h (length st) e in
    let b = good_bounds h a.0 in
    record { some = b.0; most = b.1; long = a.1 }

-- the head that a call gives has the same words, and a population that counts a set
good_same : (h h' : RangeBitset) → good_head h ≡ true → h'.words ≡ h.words → h'.len ≤ capacity_of h' → good_head h' ≡ true
unfolding good_head
good_same h h' g w l =
    let q : allowed h'.words ≡ true = ap allowed w ∙ and_left (allowed h.words) (leb h.len (capacity_of h)) g in
    rw (q, le-leb h'.len (capacity_of h') l)

pub represented_good : (h h' : RangeBitset) (st : List ℕ) (s : Positions) → good_head h ≡ true → h'.words ≡ h.words → Represents h' st s → good_head h' ≡ true
represented_good h h' st s g w t = good_same h h' g w (omega (arith, t.counted, count_le s 0 (capacity_of h')))

pub storage_again : (h h' : RangeBitset) (n n' : ℕ) (st : List ℕ) (s : Positions) → storage_refusal h n ≡ 0 → h'.words ≡ h.words
    → Represents h' st s → n' ≡ n → storage_refusal h' n' ≡ 0
storage_again h h' n n' st s z w t e =
    let a = storage_accepted h n z in
    accepted_storage h' n' (represented_good h h' st s a.0 w t) (rw (w, e) a.1)

-- ---- a fresh set

abbrev pub fresh_head : ℕ → RangeBitset
fresh_head W = record { words = W; len = 0; allocated = false }

pub fresh_good : (capacity : ℕ) → allowed_capacity capacity ≡ true → good_head (fresh_head (capacity / 64)) ≡ true
unfolding allowed_capacity good_head
fresh_good capacity a =
    rw (and_right (eqb (capacity % 64) 0) (allowed (capacity / 64)) a, le-leb 0 (64 * (capacity / 64)) (omega arith))

pub fresh_represents : (W : ℕ) (st : List ℕ) → Represents (fresh_head W) st none
fresh_represents W st =
    record {
      fresh = λ e i l. refl;
      begun = λ e. absurd (false≢true e);
      counted = sym (count_none none 0 (64 * W) (λ i p q. refl));
    }

-- ---- a range, and a point

-- an accepted call's own test held
held : (k : ℕ) (t : Bool) → first_of k (cond t 0 4) ≡ 0 → (k ≡ 0) × (t ≡ true)
held k t e = let c = clear k (cond t 0 4) e in (c.0, by t c.1)
  where
    by : (t : Bool) → ◌≡◌ {A = ℕ} (cond t 0 4) 0 → t ≡ true
    by true z = refl
    by false z = absurd (omega arith)

-- what refuses head and storage refuses a call with a range or a point too
pub range_first : (h : RangeBitset) (n e : ℕ) (k : Refusal) → number_of k ≡ storage_refusal h n → number_of k ≡ range_refusal h n e
unfolding range_refusal
range_first h n e k z = stop k _ _ z

pub point_first : (h : RangeBitset) (n i : ℕ) (k : Refusal) → number_of k ≡ storage_refusal h n → number_of k ≡ point_refusal h n i
unfolding point_refusal
point_first h n i k z = stop k _ _ z

pub range_accepted : (h : RangeBitset) (st : List ℕ) (e : ℕ) → range_refusal h (length st) e ≡ 0 → Room h.words st × (e ≤ capacity_of h)
unfolding range_refusal
range_accepted h st e z =
    let p = held (storage_refusal h (length st)) (leb e (capacity_of h)) z in
    (accepted h st p.0, leb-true e (capacity_of h) p.1)

pub point_accepted : (h : RangeBitset) (st : List ℕ) (i : ℕ) → point_refusal h (length st) i ≡ 0 → Room h.words st × (i < capacity_of h)
unfolding point_refusal
point_accepted h st i z =
    let p = held (storage_refusal h (length st)) (ltb i (capacity_of h)) z in
    (accepted h st p.0, ltb-true i (capacity_of h) p.1)

-- an accepted storage is accepted with an end up to the capacity, and with a point below it
pub range_accepts : (h : RangeBitset) (n e : ℕ) → storage_refusal h n ≡ 0 → e ≤ capacity_of h → range_refusal h n e ≡ 0
unfolding range_refusal
range_accepts h n e z l = rw (z, le-leb e (capacity_of h) l)

pub point_accepts : (h : RangeBitset) (n i : ℕ) → storage_refusal h n ≡ 0 → i < capacity_of h → point_refusal h n i ≡ 0
unfolding point_refusal
point_accepts h n i z l = rw (z, lt-ltb i (capacity_of h) l)
