-- Laws of the walk in `price`, and of what it returns: how far the order is priced, and each answer. Assumes nothing.
use Rattle.estimate.proofs.Kit.{◌≡◌, refl, sym, ap, ap₂, ◌∙◌, ◌⊎◌, inl, inr, Bool, true, false, false≢true, List, [], ◌∷◌, cond, subst, ℕ, ◌+◌, ◌*◌, ◌-◌, ◌≤◌, ◌<◌, length, ltb, ltb-false, arith, dec_lt, dec_le}
use Rattle.std.specs.Prelude.{slice_index}
use Rattle.std.proofs.Common.{Option, Some, None, Ok, Err}
use Rattle.std.specs.declared.ops.Range.{Range}
use Rattle.positions.specs.Positions.{Positions, lacking, differ}
use Rattle.positions.specs.Runs.{changed_runs}
use Rattle.positions.specs.Replies.{numbers, refused_with, refusal}
use Rattle.positions.proofs.Ranges.{within_in, within_before}
use Rattle.positions.proofs.Runs.{FirstRun, first_run, no_runs}
use Rattle.positions.proofs.Sums.{over_stretch, over_add, over_none}
use Rattle.positions.proofs.Searches.{IsFirst, first_at, first_none}
use Rattle.range_bitset.specs.Represents.{Represents}
use Rattle.range_bitset.specs.Answers.{range_refusal}
use Rattle.range_bitset.specs.declared.RangeBitset.{RangeBitset}
use Rattle.range_bitset.proofs.RefusalChains.{clear}
use Rattle.answers.specs.Refusals.{number_of}
use Rattle.answers.specs.declared.Refusal.{Refusal}
use Rattle.answers.proofs.Numbers.{number_some}
use Rattle.set_runs.specs.declared.Runs.{Runs}
use Rattle.set_runs.specs.Runs.{GivesRun}
use Rattle.set_runs.specs.Walks.{Finds}
use Rattle.set_runs.proofs.RunWalks.{Along, along_next, along_finds, none_left, run_found}
use Rattle.estimate.specs.declared.Estimate.{Estimate}
use Rattle.estimate.specs.declared.NotPriced.{NotPriced}
use Rattle.estimate.specs.declared.NotPriced.TheVariants as why
use Rattle.estimate.specs.declared.class.Class.{Class}
use Rattle.estimate.specs.declared.class.Class.TheVariants.{A3, A2, A1, A0, Oversize}
use Rattle.estimate.specs.Prices.{place_of, by_class, price_at, sheet_at, class_at, over_clear, unmeasured}
use Rattle.estimate.specs.Entry.{AddsUp, sheets_of, of_estimated, estimate_refusal, estimate_reply, priced_from, EstimateEnsures}
use Rattle.estimate.specs.Inner.{Adds, FirstUnmeasured, AddsRun}
use Rattle.estimate.proofs.AddedSheets.{place_five}
use Rattle.estimate.proofs.Laws.{price_classes, sheet_classes, nothing_left, is_unmeasured, unmeasured_at}

-- ---- the clear positions of a..b are priced, and each is measured

pub record PricedTo (s : Positions) (edges : List ℕ) (a b : ℕ) (x : Estimate) : Type 0 where
  pub classes_are : (c : Class) → sheets_of x c ≡ over_clear s (class_at edges c) a b
  pub measured : (i : ℕ) → a ≤ i → i < b → s i ≡ false → slice_index edges i ≡ 0 → ⊥

-- a clear position lacks the value true
clear_lacks : (b : Bool) → b ≡ false → differ b true ≡ true
clear_lacks b h = rw h refl

lacks_clear : (b : Bool) → differ b true ≡ true → b ≡ false
lacks_clear true h = absurd (false≢true h)
lacks_clear false h = refl

module _ (s : Positions) (edges : List ℕ) (a : ℕ) where
  -- one run more
  pub priced_next : (b e p q : ℕ) (x y : Estimate) → a ≤ b → FirstRun (lacking s true) b e p q → Adds edges p q x y
      → PricedTo s edges a b x → PricedTo s edges a q y
  priced_next b e p q x y l m u k =
      record {
        classes_are = λ c. omega (
          arith,
          u.classes_are c,
          k.classes_are c,
          over_stretch (lacking s true) (class_at edges c) a b p q l m.low (omega (arith, m.some)) m.own,
        );
        measured = rest;
      }
    where
      rest : (i : ℕ) → a ≤ i → i < q → s i ≡ false → slice_index edges i ≡ 0 → ⊥
      rest i v w c z = by (dec_lt i b) (dec_lt i p)
        where
          by : Dec (i < b) → Dec (i < p) → ⊥
          by (yes h) d = k.measured i v h c z
          by (no h) (yes d) = false≢true (sym (m.own i (omega arith) w ∙ within_before p q i d) ∙ clear_lacks (s i) c)
          by (no h) (no d) = u.measured i (omega arith) w z

  -- no run left up to e
  pub priced_all : (b e : ℕ) (x : Estimate) → a ≤ b → (b ≤ e) ⊎ (b ≡ a) → changed_runs s b e true ≡ [] → PricedTo s edges a b x → PricedTo s edges a e x
  unfolding changed_runs
  priced_all b e x l o n k =
      record { classes_are = λ c. k.classes_are c ∙ sym (same_sum (class_at edges c)); measured = rest }
    where
      clear_none : (i : ℕ) → b ≤ i → i < e → lacking s true i ≡ false
      clear_none = no_runs (lacking s true) b e n

      split : (f : ℕ → ℕ) → b ≤ e → over_clear s f a e ≡ over_clear s f a b
      split f h =
          let parts : e - a ≡ (b - a) + (e - b) = omega arith in
          let here : a + (b - a) ≡ b = omega arith in
          rw (parts, over_add (lacking s true) f a (b - a) (e - b), here)
          (omega (arith, over_none (lacking s true) f b (e - b) (λ i u v. clear_none i u (omega arith))))

      same_sum : (f : ℕ → ℕ) → over_clear s f a e ≡ over_clear s f a b
      same_sum f = by (dec_le b e) o
        where
          by : Dec (b ≤ e) → (b ≤ e) ⊎ (b ≡ a) → over_clear s f a e ≡ over_clear s f a b
          by (yes h) o = split f h
          by (no h) (inl m) = absurd (omega arith)
          by (no h) (inr m) = nothing_left s f a e (omega arith) ∙ sym (nothing_left s f a b (omega arith))

      rest : (i : ℕ) → a ≤ i → i < e → s i ≡ false → slice_index edges i ≡ 0 → ⊥
      rest i v w c z = by (dec_lt i b)
        where
          by : Dec (i < b) → ⊥
          by (yes h) = k.measured i v h c z
          by (no h) = false≢true (sym (clear_none i (omega arith) w) ∙ clear_lacks (s i) c)

  -- the answer: all is priced
  pub priced_reply : (e : ℕ) (x : Estimate) → AddsUp x → PricedTo s edges a e x → of_estimated (Ok x) ≡ estimate_reply s edges a e
  unfolding estimate_reply
  priced_reply e x u k =
      rw (first_none (unmeasured s edges) true a e none) (ap numbers (ap₂ ◌∷◌ pence (ap₂ ◌∷◌ sheets (classes x.classes u.five k.classes_are))))
    where
      none : (i : ℕ) → a ≤ i → i < e → unmeasured s edges i ≡ false
      none i v w = by (unmeasured s edges i) refl
        where
          by : (b : Bool) → unmeasured s edges i ≡ b → b ≡ false
          by false h = refl
          by true h = let m = is_unmeasured s edges i h in absurd (k.measured i v w m.0 m.1)

      pence : x.pence ≡ over_clear s (price_at edges) a e
      pence =
          omega (arith, u.pence_are, price_classes (lacking s true) edges a (e - a), k.classes_are A3, k.classes_are A2, k.classes_are A1, k.classes_are A0, k.classes_are Oversize)

      sheets : x.sheets ≡ over_clear s sheet_at a e
      sheets =
          omega (
            arith,
            u.sheets_are,
            sheet_classes (lacking s true) edges a (e - a) (λ i v w c z. k.measured i v (omega arith) (lacks_clear (s i) c) z),
            k.classes_are A3,
            k.classes_are A2,
            k.classes_are A1,
            k.classes_are A0,
            k.classes_are Oversize,
          )

      classes : (l : List ℕ) → length l ≡ 5 → ((c : Class) → slice_index l (place_of c) ≡ over_clear s (class_at edges c) a e)
          → l ≡ by_class (λ c. over_clear s (class_at edges c) a e)
      classes (n ∷ m ∷ o ∷ p ∷ q ∷ []) h f = ap₂ ◌∷◌ (f A3) (ap₂ ◌∷◌ (f A2) (ap₂ ◌∷◌ (f A1) (ap₂ ◌∷◌ (f A0) (ap₂ ◌∷◌ (f Oversize) refl))))
      classes l h f = absurd (omega arith)

  -- the answer: the first that is not measured lies in the run that comes next
  pub unmeasured_reply : (b e p q i : ℕ) (x : Estimate) → a ≤ b → FirstRun (lacking s true) b e p q → FirstUnmeasured edges p q i
      → PricedTo s edges a b x → refused_with 13 (i ∷ []) ≡ estimate_reply s edges a e
  unfolding estimate_reply
  unmeasured_reply b e p q i x l m u k = ap (priced_from s edges a e) (sym (first_at (unmeasured s edges) true a e i is))
    where
      is : IsFirst (unmeasured s edges) true a e i
      is =
          record {
            low = omega (arith, m.low, u.low);
            high = omega (arith, m.high, u.high);
            value = unmeasured_at s edges i (lacks_clear (s i) (m.own i (omega (arith, m.low, u.low)) u.high ∙ within_in p q i u.low u.high)) u.no_edge;
            none_before = before;
          }
        where
          before : (j : ℕ) → a ≤ j → j < i → unmeasured s edges j ≡ false
          before j v w = by (unmeasured s edges j) refl
            where
              meets : (s j ≡ false) × (slice_index edges j ≡ 0) → Dec (j < b) → Dec (j < p) → ⊥
              meets c (yes h) d = k.measured j v h c.0 c.1
              meets c (no h) (yes d) = false≢true (sym (m.own j (omega arith) (omega (arith, u.high)) ∙ within_before p q j d) ∙ clear_lacks (s j) c.0)
              meets c (no h) (no d) = u.before j (omega arith) w c.1

              by : (b : Bool) → unmeasured s edges j ≡ b → b ≡ false
              by false h = refl
              by true h = absurd (meets (is_unmeasured s edges j h) (dec_lt j b) (dec_lt j p))

-- ---- the walk from a: x are the runs that are left, y the order so far

pub record Walking (h : RangeBitset) (st edges : List ℕ) (a e : ℕ) (x : Runs) (y : Estimate) : Type 0 where
  pub along : Along h st e true x
  pub low : a ≤ x.from
  pub high : (x.from ≤ e) ⊎ (x.from ≡ a)
  pub adds_up : AddsUp y
  pub few : y.sheets + a ≤ x.from
  pub priced : (s : Positions) → Represents h st s → PricedTo s edges a x.from y

-- ---- refused, and answered

-- what an accepted call's numbers say
pub numbers_fit : (h : RangeBitset) (n m e : ℕ) → estimate_refusal h n m e ≡ 0 → (range_refusal h n e ≡ 0) × (64 * h.words ≤ m)
unfolding estimate_refusal
numbers_fit h n m e z = let c = clear (range_refusal h n e) (cond (ltb m (64 * h.words)) 12 0) z in (c.0, by (ltb m (64 * h.words)) refl c.1)
  where
    by : (b : Bool) → ltb m (64 * h.words) ≡ b → ◌≡◌ {A = ℕ} (cond b 12 0) 0 → 64 * h.words ≤ m
    by true p z = absurd (omega arith)
    by false p z = ltb-false m (64 * h.words) p

module _ (h : RangeBitset) (st edges : List ℕ) (a e : ℕ) where
  pub declined : (k : Refusal) → number_of k ≡ estimate_refusal h (length st) (length edges) e → EstimateEnsures h st edges a e (Err (why.Refused k))
  declined k q =
      record {
        refuses = λ f. ap refusal q;
        only_13 = λ z. absurd (number_some k (q ∙ z));
        adds_up = λ x u. absurd (let z : ◌≡◌ {A = ℕ} 0 1 = cc in omega arith);
        answers = λ z s r. absurd (number_some k (q ∙ z));
      }

  module _ (z : estimate_refusal h (length st) (length edges) e ≡ 0) (x : Runs) (y : Estimate) (w : Walking h st edges a e x y) where
    -- what the iterator finds next, in the call's own numbers
    finds : (r : Option (Range ℕ)) (x' : Runs) → GivesRun x r x' → Finds h st x.from e true r
    finds r x' g = along_finds h st e true x w.along r x' g

    accepted : range_refusal h (length st) e ≡ 0
    accepted = (numbers_fit h (length st) (length edges) e z).0

    next_is : (q : Range ℕ) (x' : Runs) → GivesRun x (Some q) x' → (s : Positions) → Represents h st s → FirstRun (lacking s true) x.from e q.start q.end
    unfolding changed_runs
    next_is q x' g s r = first_run (lacking s true) x.from e q.start q.end _ (run_found h st x.from e true accepted s r q (finds (Some q) x' g))

    pub walk_next : (q : Range ℕ) (x' : Runs) (y' : Estimate) → GivesRun x (Some q) x' → Adds edges q.start q.end y y' → Walking h st edges a e x' y'
    walk_next q x' y' g u =
        let m = (finds (Some q) x' g).ahead q refl in
        let b = g.behind q refl in
        record {
          along = along_next h st e true x w.along (Some q) x' g;
          low = omega (arith, w.low, m.0, m.1, b);
          high = inl (omega (arith, m.2, b));
          adds_up = u.adds_up;
          few = omega (arith, u.sheets_are, w.few, m.0, m.1, b);
          priced = λ s r. rw b (priced_next s edges a x.from e q.start q.end y y' w.low (next_is q x' g s r) u (w.priced s r));
        }

    pub walk_unmeasured : (q : Range ℕ) (x' : Runs) (n : NotPriced) → GivesRun x (Some q) x' → AddsRun edges q.start q.end y (Err n)
        → EstimateEnsures h st edges a e (Err n)
    walk_unmeasured q x' (why.Refused k) g u = absurd u
    walk_unmeasured q x' (why.Unmeasured i) g u =
        let m = (finds (Some q) x' g).ahead q refl in
        record {
          refuses = λ f. absurd (f z);
          only_13 = λ z. inr (record {
            position = i;
            refused_13 = refl;
            inside = within_in a e i (omega (arith, w.low, m.0, u.low)) (omega (arith, u.high, m.2));
            no_edge = u.no_edge;
          });
          adds_up = λ x u. absurd (let z : ◌≡◌ {A = ℕ} 0 1 = cc in omega arith);
          answers = λ z s r. unmeasured_reply s edges a x.from e q.start q.end i y w.low (next_is q x' g s r) u (w.priced s r);
        }

    pub walk_done : (x' : Runs) → GivesRun x None x' → EstimateEnsures h st edges a e (Ok y)
    walk_done x' g =
        record {
          refuses = λ f. absurd (f z);
          only_13 = λ z. inl tt;
          adds_up = λ v u. let same : y ≡ v = cc in subst (λ (v : Estimate). AddsUp v × (v.sheets ≤ e - a)) same (w.adds_up, few w.high);
          answers = λ z s r. priced_reply s edges a e y w.adds_up (priced_all s edges a x.from e y w.low w.high (left s r) (w.priced s r));
        }
      where
        few : (x.from ≤ e) ⊎ (x.from ≡ a) → y.sheets ≤ e - a
        few (inl l) = omega (arith, w.few)
        few (inr l) = omega (arith, w.few)

        left : (s : Positions) → Represents h st s → changed_runs s x.from e true ≡ []
        left s r = none_left h st x.from e true accepted s r (finds None x' g)

  -- an order of nothing, before the first run
  pub walk_start : (x : Runs) (y : Estimate) → Along h st e true x → x.from ≡ a → y.pence ≡ 0 → y.sheets ≡ 0 → length y.classes ≡ 5
      → ((i : ℕ) → i < 5 → slice_index y.classes i ≡ 0) → Walking h st edges a e x y
  walk_start x y l f p n c each =
      record {
        along = l;
        low = omega (arith, f);
        high = inr f;
        adds_up =
            record {
              five = c;
              sheets_are = omega (arith, n, each 0 (omega arith), each 1 (omega arith), each 2 (omega arith), each 3 (omega arith), each 4 (omega arith));
              pence_are = omega (arith, p, each 0 (omega arith), each 1 (omega arith), each 2 (omega arith), each 3 (omega arith), each 4 (omega arith));
            };
        few = omega (arith, n, f);
        priced = λ s r. rw f (record {
          classes_are = λ c. each (place_of c) (place_five c) ∙ sym (nothing_left s (class_at edges c) a a (omega arith));
          measured = λ i u v. absurd (omega arith);
        });
      }
