-- What include/kladomyne.h says of klado_estimate_price on any memory, from the export's promise. Assumes nothing.
use Rattle.capi_ledger.proofs.Kit.{Ok, Err, ◌≡◌, refl, ap, subst, sym, ◌≢◌, ◌⊎◌, inl, inr, true, List, [], ◌∷◌, ℕ, ◌-◌, ◌≤◌, arith, length}
use Rattle.std.specs.Prelude.{slice_index}
use Rattle.positions.specs.Positions.{within}
use Rattle.positions.specs.Replies.{refused, refused_with}
use Rattle.answers.proofs.Numbers.{number_some}
use Rattle.estimate.specs.declared.Estimate.{Estimate}
use Rattle.estimate.specs.declared.NotPriced.TheVariants as unpriced
use Rattle.estimate.specs.Entry.{Estimated, estimate_refusal, NotMeasured, AddsUp, EstimateEnsures}
use Rattle.capi_told.specs.declared.KladoSet.{KladoSet}
use Rattle.capi_told.specs.Told.{set_of}
use Rattle.capi_ledger.specs.declared.KladoEstimate.{KladoEstimate}
use Rattle.capi_ledger.specs.declared.KladoEstimated.{KladoEstimated}
use Rattle.capi_ledger.specs.LedgerTold.{no_estimate, told_estimated, EstimateTold}

-- an order in C's numbers as the library's own
abbrev pub order_of : KladoEstimate → Estimate
order_of x = record { pence = x.pence; sheets = x.sheets; classes = x.classes }

pub record OrderPriced (h : KladoSet) (st edges : List ℕ) (a e : ℕ) (c : KladoEstimated) : Type 0 where
  -- 2, 3, 4 and 12 are exact; else there is an order, or 13 with a position of the range whose edge is 0
  pub refusal : estimate_refusal (set_of h) (length st) (length edges) e ≢ 0 → c.refused ≡ estimate_refusal (set_of h) (length st) (length edges) e
  pub only_13 : estimate_refusal (set_of h) (length st) (length edges) e ≡ 0
      → (c.refused ≡ 0) ⊎ ((c.refused ≡ 13) × (within a e c.position ≡ true) × (slice_index edges c.position ≡ 0))
  -- a position stands beside 13 alone, and seven zeros beside any refusal
  pub position : c.refused ≢ 13 → c.position ≡ 0
  pub zeros : c.refused ≢ 0 → c.estimate ≡ (no_estimate 0 0).estimate
  -- an order's numbers agree with each other, and it has no more sheets than the range has positions
  pub adds_up : c.refused ≡ 0 → AddsUp (order_of c.estimate) × (c.estimate.sheets ≤ e - a)

of_answer : (h : KladoSet) (st edges : List ℕ) (a e : ℕ) (r : Estimated) → EstimateEnsures (set_of h) st edges a e r → OrderPriced h st edges a e (told_estimated r)
of_answer h st edges a e (Ok x) p =
    record {
      refusal = λ z. ap refused (p.refuses z);
      only_13 = λ z. inl refl;
      position = λ z. refl;
      zeros = λ z. absurd (z refl);
      adds_up = λ z. p.adds_up x refl;
    }
of_answer h st edges a e (Err (unpriced.Refused k)) p =
    record {
      refusal = λ z. ap refused (p.refuses z);
      only_13 = λ z. absurd (none (p.only_13 z));
      position = λ z. refl;
      zeros = λ z. refl;
      adds_up = λ z. absurd (number_some k z);
    }
  where
    none : ⊥ ⊎ NotMeasured edges a e (Err (unpriced.Refused k)) → ⊥
    none (inl u) = u
    none (inr m) = let one : [] ≡ m.position ∷ [] = cc in omega (arith, ap length one)
of_answer h st edges a e (Err (unpriced.Unmeasured i)) p =
    record {
      refusal = λ z. ap refused (p.refuses z);
      only_13 = λ z. inr (here (p.only_13 z));
      position = λ z. absurd (z refl);
      zeros = λ z. refl;
      adds_up = λ z. absurd (omega arith);
    }
  where
    here : ⊥ ⊎ NotMeasured edges a e (Err (unpriced.Unmeasured i)) → (◌≡◌ {A = ℕ} 13 13) × (within a e i ≡ true) × (slice_index edges i ≡ 0)
    here (inl u) = absurd u
    here (inr m) =
        let same : m.position ≡ i = sym (told m.refused_13) in
        (refl, subst (λ (n : ℕ). within a e n ≡ true) same m.inside, subst (λ (n : ℕ). slice_index edges n ≡ 0) same m.no_edge)
      where
        told : {n : ℕ} → refused_with 13 (i ∷ []) ≡ refused_with 13 (n ∷ []) → i ≡ n
        told e = cc

pub order_priced : (h : KladoSet) (st edges : List ℕ) (a e : ℕ) (c : KladoEstimated) → EstimateTold h st edges a e c → OrderPriced h st edges a e c
order_priced h st edges a e c t =
    subst (OrderPriced h st edges a e) (sym t.told) (of_answer h st edges a e t.answer t.promised)
