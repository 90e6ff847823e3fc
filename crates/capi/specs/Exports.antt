-- The promise of each of the set's exports: its answer is C's numbers for an answer that the entry of range_bitset, of audit or of combine
-- promises. Assumes nothing.
use Rattle.std.specs.Prelude.{Bool, List, ℕ}
use Rattle.range_bitset.specs.Entries.{CapacityEnsures, LenEnsures, GetEnsures, CountEnsures, NextEnsures, SelectEnsures, AssignEnsures, SetEnsures, ClearEnsures}
use Rattle.audit.specs.Entry.{AuditEnsures}
use Rattle.combine.specs.Rules.{Rule}
use Rattle.combine.specs.Entry.{CombineEnsures}
use Rattle.range_bitset.specs.Answers.{Made, Counted, Tested, Found, Placed, Assigned, Updated}
use Rattle.capi_told.specs.declared.KladoSet.{KladoSet}
use Rattle.capi_told.specs.declared.KladoSetAnswer.{KladoSetAnswer}
use Rattle.capi_told.specs.declared.KladoAnswer.{KladoAnswer}
use Rattle.capi_told.specs.declared.KladoFound.{KladoFound}
use Rattle.capi_told.specs.declared.KladoPlace.{KladoPlace}
use Rattle.capi_told.specs.Told.{Told, set_of, told_made, told_counted, told_tested, told_found, told_placed, told_assigned, told_updated}

abbrev pub CapacityTold : KladoSet → KladoAnswer → Type 0
CapacityTold h c = Told Counted KladoAnswer (CapacityEnsures (set_of h)) told_counted c

abbrev pub LenTold : KladoSet → KladoAnswer → Type 0
LenTold h c = Told Counted KladoAnswer (LenEnsures (set_of h)) told_counted c

abbrev pub GetTold : KladoSet → List ℕ → ℕ → KladoAnswer → Type 0
GetTold h st i c = Told Tested KladoAnswer (GetEnsures (set_of h) st i) told_tested c

abbrev pub CountTold : KladoSet → List ℕ → ℕ → ℕ → KladoAnswer → Type 0
CountTold h st a e c = Told Counted KladoAnswer (CountEnsures (set_of h) st a e) told_counted c

abbrev pub NextTold : Bool → KladoSet → List ℕ → ℕ → ℕ → KladoFound → Type 0
NextTold v h st a e c = Told Found KladoFound (NextEnsures v (set_of h) st a e) told_found c

abbrev pub SelectTold : KladoSet → List ℕ → ℕ → KladoPlace → Type 0
SelectTold h st n c = Told Placed KladoPlace (SelectEnsures (set_of h) st n) told_placed c

abbrev pub AssignTold : KladoSet → List ℕ → ℕ → ℕ → Bool → KladoSetAnswer → List ℕ → Type 0
AssignTold h st a e v c st' = Told Assigned KladoSetAnswer (λ r. AssignEnsures (set_of h) st a e v r st') (told_assigned h) c

abbrev pub SetTold : KladoSet → List ℕ → ℕ → Bool → KladoSetAnswer → List ℕ → Type 0
SetTold h st i v c st' = Told Updated KladoSetAnswer (λ r. SetEnsures (set_of h) st i v r st') (told_updated h) c

abbrev pub ClearTold : KladoSet → List ℕ → KladoSetAnswer → List ℕ → Type 0
ClearTold h st c st' = Told Assigned KladoSetAnswer (λ r. ClearEnsures (set_of h) st r st') (told_assigned h) c

abbrev pub AuditTold : KladoSet → List ℕ → KladoAnswer → Type 0
AuditTold h st c = Told Tested KladoAnswer (AuditEnsures (set_of h) st) told_tested c

abbrev pub CombineTold : Rule → KladoSet → List ℕ → KladoSet → List ℕ → List ℕ → List ℕ → KladoSetAnswer → List ℕ → List ℕ → Type 0
CombineTold f h st k su third scratch c third' scratch' =
    Told Made KladoSetAnswer (λ r. CombineEnsures f (set_of h) st (set_of k) su third scratch r third' scratch') told_made c
