-- The returns of the entries for the audit: what each shows, from what the code has there. Assumes nothing.
use Rattle.range_bitset.proofs.Kit.{◌≡◌, refl, ap, sym, ◌∙◌, List, ℕ, ◌-◌, ◌^◌, ◌<◌, length, get_or}
use Rattle.range_bitset.specs.Layout.{blocks, address, nonzero, full, population, top_nonzero, top_full}
use Rattle.range_bitset.specs.Represents.{valid}
use Rattle.range_bitset.specs.Answers.{storage_refusal}
use Rattle.range_bitset.specs.Inner.{Spans}
use Rattle.range_bitset.specs.Shown.{Shows, TopsEnsures, mixed_of}
use Rattle.range_bitset.specs.declared.RangeBitset.{RangeBitset}
use Rattle.range_bitset.specs.declared.MixedBlock.{MixedBlock}
use Rattle.std.proofs.Common.{Ok}
use Rattle.range_bitset.proofs.SpanMasks.{spans_low}

-- ---- shown

pub shown : {A : Type 0} (k : ℕ) (x r : A) → k ≡ 0 → r ≡ x → Shows k x (Ok r)
shown k x r e p = record { refuses = sym e; shows = λ q. ap (λ (y : _). Ok y) p }

-- ---- the top masks

pub tops_shown : (h : RangeBitset) (st : List ℕ) (i k b m : ℕ) → storage_refusal h (length st) ≡ 0 → i ≡ address h.words top_nonzero → k ≡ address h.words top_full
    → b ≡ blocks h.words → m < 2 ^ 64 → Spans m 0 b → TopsEnsures h st (Ok (record { nonzero = get_or st i 0; full = get_or st k 0; valid = m }))
tops_shown h st i k b m e p q r f s =
    let v : m ≡ 2 ^ blocks h.words - 1 = spans_low b m f s ∙ ap (λ (n : ℕ). 2 ^ n - 1) r in
    shown _ _ _ e (rw (p, q, v) refl)

-- ---- a block

pub mixed_shown : (W : ℕ) (st : List ℕ) (b i k m p : ℕ) → i ≡ address W (nonzero b) → k ≡ address W (full b) → m ≡ valid W b → p ≡ address W (population b)
    → ◌≡◌ {A = MixedBlock} (record { nonzero = get_or st i 0; full = get_or st k 0; valid = m; population = get_or st p 0 }) (mixed_of W st b)
mixed_shown W st b i k m p ei ek em ep = rw (ei, ek, em, ep) refl
