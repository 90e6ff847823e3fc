-- Laws of a chain of refusals: the first that applies is told, and none where none applies. Assumes nothing.
use Rattle.range_bitset.proofs.Kit.{◌≡◌, refl, ap, sym, ◌∙◌, Bool, true, false, true≢false, cond, ℕ, eqb, eqb-true, eq-eqb, ne_eqb}
use Rattle.answers.specs.Refusals.{number_of}
use Rattle.answers.specs.declared.Refusal.{Refusal}
use Rattle.answers.proofs.Numbers.{number_some}
use Rattle.range_bitset.specs.Answers.{first_of}

pub stop : (r : Refusal) (k next : ℕ) → number_of r ≡ k → number_of r ≡ first_of k next
stop r k next e = e ∙ sym (ap (λ (b : Bool). cond b next k) (ne_eqb k 0 (λ z. number_some r (e ∙ z))))

pub pass : (k next : ℕ) → 0 ≡ k → next ≡ first_of k next
pass k next e = sym (ap (λ (b : Bool). cond b next k) (eq-eqb k 0 (sym e)))

-- where none is left, neither was
pub clear : (k next : ℕ) → first_of k next ≡ 0 → (k ≡ 0) × (next ≡ 0)
clear k next e = by (eqb k 0) refl e
  where
    by : (b : Bool) → eqb k 0 ≡ b → cond b next k ≡ 0 → (k ≡ 0) × (next ≡ 0)
    by true p z = (eqb-true k 0 p, z)
    by false p z = absurd (true≢false (sym (eq-eqb k 0 z) ∙ p))
