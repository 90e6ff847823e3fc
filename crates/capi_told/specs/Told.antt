-- C's numbers for the set's heads and answers, and what an export promises with them: its answer is those numbers for an answer
-- that an entry of the library promises. Assumes nothing.
use Rattle.std.specs.Prelude.{◌≡◌, false, Some, None, Ok, Err}
use Rattle.positions.specs.Positions.{one}
use Rattle.range_bitset.specs.declared.RangeBitset.{RangeBitset}
use Rattle.answers.specs.Refusals.{number_of, answer_in, head_after}
use Rattle.range_bitset.specs.Answers.{Made, Counted, Tested, Found, Placed, Assigned, Updated}
use Rattle.capi_told.specs.declared.KladoSet.{KladoSet}
use Rattle.capi_told.specs.declared.KladoSetAnswer.{KladoSetAnswer}
use Rattle.capi_told.specs.declared.KladoAnswer.{KladoAnswer}
use Rattle.capi_told.specs.declared.KladoFound.{KladoFound}
use Rattle.capi_told.specs.declared.KladoPlace.{KladoPlace}

-- ---- heads: the same three fields

abbrev pub set_of : KladoSet → RangeBitset
set_of h = record { words = h.words; len = h.len; allocated = h.allocated }

abbrev pub head_of : RangeBitset → KladoSet
head_of h = record { words = h.words; len = h.len; allocated = h.allocated }

-- ---- answers: a refusal has its number, and 0 elsewhere

abbrev pub told_made : Made → KladoSetAnswer
told_made (Ok h) = record { refused = 0; value = 0; head = head_of h }
told_made (Err k) = record { refused = number_of k; value = 0; head = record { words = 0; len = 0; allocated = false } }

abbrev pub told_counted : Counted → KladoAnswer
told_counted (Ok n) = record { refused = 0; value = n }
told_counted (Err k) = record { refused = number_of k; value = 0 }

abbrev pub told_tested : Tested → KladoAnswer
told_tested (Ok b) = record { refused = 0; value = one b }
told_tested (Err k) = record { refused = number_of k; value = 0 }

abbrev pub told_found : Found → KladoFound
told_found (Ok (Some r)) = record { refused = 0; found = 1; at = r.start; end = r.end }
told_found (Ok None) = record { refused = 0; found = 0; at = 0; end = 0 }
told_found (Err k) = record { refused = number_of k; found = 0; at = 0; end = 0 }

abbrev pub told_placed : Placed → KladoPlace
told_placed (Ok (Some i)) = record { refused = 0; found = 1; at = i }
told_placed (Ok None) = record { refused = 0; found = 0; at = 0 }
told_placed (Err k) = record { refused = number_of k; found = 0; at = 0 }

-- an answer with the head after it
abbrev pub with_head : KladoAnswer → RangeBitset → KladoSetAnswer
with_head a h = record { refused = a.refused; value = a.value; head = head_of h }

abbrev pub told_assigned : KladoSet → Assigned → KladoSetAnswer
told_assigned h a = with_head (told_counted (answer_in a)) (head_after (set_of h) a)

abbrev pub told_updated : KladoSet → Updated → KladoSetAnswer
told_updated h a = with_head (told_tested (answer_in a)) (head_after (set_of h) a)

-- ---- the exports

-- `c` is what `to` makes of an answer that `P` promises
pub record Told (A C : Type 0) (P : A → Type 0) (to : A → C) (c : C) : Type 0 where
  pub answer : A
  pub promised : P answer
  pub told : c ≡ to answer
