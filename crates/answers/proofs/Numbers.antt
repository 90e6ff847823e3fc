-- No refusal has the number 0, and one alone has 3; and what the exit of a `?` returns. Assumes nothing.
use Rattle.std.proofs.Common.{◌≡◌, arith, Result, Err, ap, refl, ◌∙◌, IsErrAnd}
use Rattle.std.proofs.lemmas.Result.{err_from_is_err_and}
use Rattle.answers.specs.Refusals.{number_of}
use Rattle.answers.specs.declared.Refusal.{Refusal}
use Rattle.answers.specs.declared.Refusal.TheVariants.{Size, Head, Short, Outside, NoCall, JournalFull, BadFile, NoRoom, OtherCapacity, ShortScratch, FewEdges}

pub number_some : (k : Refusal) → number_of k ≡ 0 → ⊥
number_some Size e = omega arith
number_some Head e = omega arith
number_some Short e = omega arith
number_some Outside e = omega arith
number_some NoCall e = omega arith
number_some JournalFull e = omega arith
number_some BadFile e = omega arith
number_some NoRoom e = omega arith
number_some OtherCapacity e = omega arith
number_some ShortScratch e = omega arith
number_some FewEdges e = omega arith

-- 3 is the number of one refusal alone
pub number_short : (k : Refusal) → number_of k ≡ 3 → k ≡ Short
number_short Short e = refl
number_short Size e = absurd (omega arith)
number_short Head e = absurd (omega arith)
number_short Outside e = absurd (omega arith)
number_short NoCall e = absurd (omega arith)
number_short JournalFull e = absurd (omega arith)
number_short BadFile e = absurd (omega arith)
number_short NoRoom e = absurd (omega arith)
number_short OtherCapacity e = absurd (omega arith)
number_short ShortScratch e = absurd (omega arith)
number_short FewEdges e = absurd (omega arith)

-- an error is passed on as what `From` makes of it
pub passed_on : {A E : Type 0} {e : E} (r : Result A E) → IsErrAnd r (λ x. x ≡ e) → r ≡ Err e
passed_on {E = E} r q = let p = err_from_is_err_and r q in p.1 ∙ ap (λ (x : E). Err x) p.2
