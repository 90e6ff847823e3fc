-- The promise of the estimate: the head h with its storage st, the edges of the positions, and the range a..e. Assumes nothing.
use Rattle.std.specs.Prelude.{◌≡◌, ◌≢◌, ◌⊎◌, cond, true, nat_lt, List, [], ◌∷◌, slice_index, length, ℕ, ◌*◌, ◌-◌, ◌≤◌, Result, Ok, Err}
use Rattle.positions.specs.Positions.{Positions, within, Place, found_at, not_found, first}
use Rattle.positions.specs.Replies.{Reply, numbers, refused_with, refusal, Accepted}
use Rattle.answers.specs.Refusals.{number_of}
use Rattle.range_bitset.specs.Represents.{Represents, capacity_of}
use Rattle.range_bitset.specs.Answers.{range_refusal, first_of}
use Rattle.range_bitset.specs.declared.RangeBitset.{RangeBitset}
use Rattle.estimate.specs.declared.Estimate.{Estimate}
use Rattle.estimate.specs.declared.NotPriced.{NotPriced}
use Rattle.estimate.specs.declared.NotPriced.TheVariants as why
use Rattle.estimate.specs.declared.class.Class.{Class}
use Rattle.estimate.specs.Prices.{price_of, place_of, over_classes, by_class, price_at, sheet_at, class_at, over_clear, unmeasured}

-- the sheets of a class
abbrev pub sheets_of : Estimate → Class → ℕ
sheets_of x c = slice_index x.classes (place_of c)

abbrev pub Estimated : Type 0
Estimated = Result Estimate NotPriced

-- seven numbers: the sum, the sheets, and the sheets of each class; or a refusal, 13 with its position
abbrev pub of_estimated : Estimated → Reply
of_estimated (Ok x) = numbers (x.pence ∷ x.sheets ∷ x.classes)
of_estimated (Err (why.Refused k)) = refusal (number_of k)
of_estimated (Err (why.Unmeasured i)) = refused_with 13 (i ∷ [])

-- 13 with a position of a..e whose edge is 0
pub record NotMeasured (edges : List ℕ) (a e : ℕ) (r : Estimated) : Type 0 where
  pub position : ℕ
  pub refused_13 : of_estimated r ≡ refused_with 13 (position ∷ [])
  pub inside : within a e position ≡ true
  pub no_edge : slice_index edges position ≡ 0

-- five classes, whose sheets are together all the sheets, and at the class's price together the sum
pub record AddsUp (x : Estimate) : Type 0 where
  pub five : length x.classes ≡ 5
  pub sheets_are : x.sheets ≡ over_classes (sheets_of x)
  pub pence_are : x.pence ≡ over_classes (λ c. price_of c * sheets_of x c)

-- 2, 3, 4, then 12 where a list of m edges is shorter than the capacity
unfoldable pub estimate_refusal : RangeBitset → ℕ → ℕ → ℕ → ℕ
estimate_refusal h n m e = first_of (range_refusal h n e) (cond (nat_lt m (capacity_of h)) 12 0)

-- 13 with the first clear position of a..e that is not measured; or, where there is none, the sums over the clear positions
abbrev pub priced_from : Positions → List ℕ → ℕ → ℕ → Place → Reply
priced_from s edges a e (found_at i) = refused_with 13 (i ∷ [])
priced_from s edges a e not_found =
    numbers (over_clear s (price_at edges) a e ∷ over_clear s sheet_at a e ∷ by_class (λ c. over_clear s (class_at edges c) a e))

unfoldable pub estimate_reply : Positions → List ℕ → ℕ → ℕ → Reply
estimate_reply s edges a e = priced_from s edges a e (first (unmeasured s edges) true a e)

pub record EstimateEnsures (h : RangeBitset) (st edges : List ℕ) (a e : ℕ) (r : Estimated) : Type 0 where
  -- on any memory: 2, 3, 4 and 12 exactly as the table has them; else an estimate whose numbers agree with each other, of no more sheets than the
  -- range has positions, or 13 with a position of the range that is not measured
  pub refuses : estimate_refusal h (length st) (length edges) e ≢ 0 → of_estimated r ≡ refusal (estimate_refusal h (length st) (length edges) e)
  pub only_13 : estimate_refusal h (length st) (length edges) e ≡ 0 → Accepted (of_estimated r) ⊎ NotMeasured edges a e r
  pub adds_up : (x : Estimate) → r ≡ Ok x → AddsUp x × (x.sheets ≤ e - a)
  -- for every set that the memory represents: the one answer
  pub answers : estimate_refusal h (length st) (length edges) e ≡ 0 → (s : Positions) → Represents h st s → of_estimated r ≡ estimate_reply s edges a e
