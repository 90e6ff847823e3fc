-- C's numbers for the ledger's heads and answers and for an estimate, and the promise of each export: its answer is those numbers for an answer
-- that the entry of ledger, of list_writer or of estimate promises. Assumes nothing.
use Rattle.std.specs.Prelude.{false, List, [], ◌∷◌, ℕ, Result, Ok, Err}
use Rattle.ledger.specs.Machine.{Call, wipe}
use Rattle.answers.specs.Refusals.{number_of, answer_in, head_after}
use Rattle.answers.specs.declared.Refusal.{Refusal}
use Rattle.ledger.specs.Entries.{Called, CalledEnsures, Opened, OpenEnsures}
use Rattle.range_bitset.specs.Answers.{Counted}
use Rattle.list_writer.specs.Entry.{WriteEnsures}
use Rattle.estimate.specs.Entry.{Estimated, EstimateEnsures}
use Rattle.ledger.specs.declared.Ledger.{Ledger}
use Rattle.ledger.specs.declared.NotOpened.TheVariants as why
use Rattle.estimate.specs.declared.Estimate.{Estimate}
use Rattle.estimate.specs.declared.NotPriced.TheVariants as unpriced
use Rattle.capi_ledger.specs.declared.KladoLedger.{KladoLedger}
use Rattle.capi_ledger.specs.declared.KladoLedgerAnswer.{KladoLedgerAnswer}
use Rattle.capi_told.specs.declared.KladoSet.{KladoSet}
use Rattle.capi_told.specs.declared.KladoAnswer.{KladoAnswer}
use Rattle.capi_ledger.specs.declared.KladoOpened.{KladoOpened}
use Rattle.capi_ledger.specs.declared.KladoEstimate.{KladoEstimate}
use Rattle.capi_ledger.specs.declared.KladoEstimated.{KladoEstimated}
use Rattle.capi_told.specs.Told.{Told, set_of, head_of, told_counted}

-- ---- heads: the same fields

abbrev pub ledger_of : KladoLedger → Ledger
ledger_of h = record { set = set_of h.set; journal = h.journal; used = h.used }

abbrev pub ledger_head : Ledger → KladoLedger
ledger_head h = record { set = head_of h.set; journal = h.journal; used = h.used }

-- ---- answers: a refusal has its number, and 0 elsewhere but for the bad run's index

abbrev pub unopened : ℕ → ℕ → KladoOpened
unopened k i =
    record {
      refused = k;
      run = i;
      head = record { set = record { words = 0; len = 0; allocated = false }; journal = 0; used = 0 };
    }

abbrev pub told_opened : Opened → KladoOpened
told_opened (Ok h) = record { refused = 0; run = 0; head = ledger_head h }
told_opened (Err (why.Refused k)) = unopened (number_of k) 0
told_opened (Err (why.BadRun i)) = unopened 8 i

abbrev pub told_new : Result Ledger Refusal → KladoOpened
told_new (Ok h) = told_opened (Ok h)
told_new (Err k) = told_opened (Err (why.Refused k))

-- an answer with the head after it
abbrev pub with_ledger : KladoAnswer → KladoLedger → KladoLedgerAnswer
with_ledger a h = record { refused = a.refused; value = a.value; head = h }

abbrev pub told_called : KladoLedger → Called → KladoLedgerAnswer
told_called h a = with_ledger (told_counted (answer_in a)) (ledger_head (head_after (ledger_of h) a))

-- seven numbers, or seven zeros; the position stands beside 13
abbrev pub estimate_of : Estimate → KladoEstimate
estimate_of x = record { pence = x.pence; sheets = x.sheets; classes = x.classes }

abbrev pub no_estimate : ℕ → ℕ → KladoEstimated
no_estimate k i = record { refused = k; position = i; estimate = record { pence = 0; sheets = 0; classes = 0 ∷ 0 ∷ 0 ∷ 0 ∷ 0 ∷ [] } }

abbrev pub told_estimated : Estimated → KladoEstimated
told_estimated (Ok x) = record { refused = 0; position = 0; estimate = estimate_of x }
told_estimated (Err (unpriced.Refused k)) = no_estimate (number_of k) 0
told_estimated (Err (unpriced.Unmeasured i)) = no_estimate 13 i

-- ---- the exports: new's answer is `told_new` of the ledger's `new_of`

abbrev pub OpenTold : List ℕ → ℕ → List ℕ → List ℕ → KladoOpened → List ℕ → Type 0
OpenTold file j st journal c st' = Told Opened KladoOpened (λ r. OpenEnsures file j st journal r st') told_opened c

-- marking, clearing and take-back
abbrev pub CallTold : Call → KladoLedger → List ℕ → List ℕ → KladoLedgerAnswer → List ℕ → List ℕ → Type 0
CallTold k h st j c st' j' = Told Called KladoLedgerAnswer (CalledEnsures k (ledger_of h) st j st' j') (told_called h) c

-- wipe is lent no journal: its promise is for any
abbrev pub WipeTold : KladoLedger → List ℕ → KladoLedgerAnswer → List ℕ → Type 0
WipeTold h st c st' = Told Called KladoLedgerAnswer (λ r. (j : List ℕ) → CalledEnsures wipe (ledger_of h) st j st' j r) (told_called h) c

-- writing a saved list
abbrev pub WriteTold : KladoSet → List ℕ → List ℕ → KladoAnswer → List ℕ → Type 0
WriteTold h st file c file' = Told Counted KladoAnswer (λ r. WriteEnsures (set_of h) st file r file') told_counted c

-- pricing an order
abbrev pub EstimateTold : KladoSet → List ℕ → List ℕ → ℕ → ℕ → KladoEstimated → Type 0
EstimateTold h st edges a e c = Told Estimated KladoEstimated (EstimateEnsures (set_of h) st edges a e) told_estimated c
