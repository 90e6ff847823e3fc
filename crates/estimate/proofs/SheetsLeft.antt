-- On memory that is a set's, what an estimate and a count of one range answer: the sheets are the range's length less its count. From the two
-- promises alone. Assumes nothing.
use Rattle.estimate.proofs.Kit.{◌≡◌, refl, Bool, true, false, List, ℕ, ◌+◌, ◌-◌, length, eqb, eqb-true, eqb-false, arith}
use Rattle.std.proofs.Common.{Ok}
use Rattle.positions.specs.Positions.{Positions, count, Place, found_at, not_found, first}
use Rattle.positions.proofs.Counts.{count_le}
use Rattle.positions.proofs.Replies.{numbers_refusal, number_is}
use Rattle.range_bitset.specs.Represents.{Represents}
use Rattle.range_bitset.specs.Entries.{CountEnsures}
use Rattle.range_bitset.specs.declared.RangeBitset.{RangeBitset}
use Rattle.estimate.specs.declared.Estimate.{Estimate}
use Rattle.estimate.specs.Prices.{sheet_at, over_clear, unmeasured}
use Rattle.estimate.specs.Entry.{of_estimated, estimate_refusal, estimate_reply, priced_from, EstimateEnsures}
use Rattle.estimate.proofs.Laws.{sheets_left}
use Rattle.estimate.proofs.EstimateReturns.{numbers_fit}

module _ (h : RangeBitset) (st edges : List ℕ) (a e : ℕ) (x : Estimate) (n : ℕ) (p : EstimateEnsures h st edges a e (Ok x)) (q : CountEnsures h st a e (Ok n)) where
  -- a call that gave an estimate was not refused
  accepted : estimate_refusal h (length st) (length edges) e ≡ 0
  accepted = by (eqb (estimate_refusal h (length st) (length edges) e) 0) refl
    where
      by : (b : Bool) → eqb (estimate_refusal h (length st) (length edges) e) 0 ≡ b → estimate_refusal h (length st) (length edges) e ≡ 0
      by true z = eqb-true _ 0 z
      by false z = absurd (numbers_refusal _ _ _ (p.refuses (eqb-false _ 0 z)))

  pub sheets_and_count : (s : Positions) → Represents h st s → x.sheets + n ≡ e - a
  unfolding estimate_reply
  sheets_and_count s r =
      let counted : n ≡ count s a e = number_is n (count s a e) (q.answers (numbers_fit h (length st) (length edges) e accepted).0 s r) in
      omega (arith, counted, count_le s a e, sheets_left s a e, by (first (unmeasured s edges) true a e) (p.answers accepted s r))
    where
      by : (f : Place) → of_estimated (Ok x) ≡ priced_from s edges a e f → x.sheets ≡ over_clear s sheet_at a e
      by (found_at i) k = absurd (numbers_refusal _ _ _ k)
      by not_found k = cc
