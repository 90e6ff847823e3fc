-- The definitions, computed: four sheets, of which the second is scanned. Assumes nothing.
use Rattle.estimate.proofs.Kit.{◌≡◌, refl, [], ◌∷◌, eqb}
use Rattle.positions.specs.Positions.{Positions, sum_over, first, first_from, total}
use Rattle.positions.specs.Replies.{numbers, refused_with}
use Rattle.estimate.specs.Prices.{class_of}
use Rattle.estimate.specs.Entry.{estimate_reply}

abbrev pub scanned : Positions
scanned i = eqb i 1

-- an A3 and an oversize to the millimetre, and the scanned one's edge is not asked
pub priced : estimate_reply scanned (420 ∷ 0 ∷ 594 ∷ 1190 ∷ []) 0 4 ≡ numbers (5950 ∷ 3 ∷ 1 ∷ 1 ∷ 0 ∷ 0 ∷ 1 ∷ [])
unfolding estimate_reply first first_from sum_over total class_of
priced = refl

-- the first sheet without an edge that is to be scanned
pub unmeasured : estimate_reply scanned (420 ∷ 0 ∷ 0 ∷ 0 ∷ []) 0 4 ≡ refused_with 13 (2 ∷ [])
unfolding estimate_reply first first_from sum_over total class_of
unmeasured = refl

-- it lies past the range's end; a scanned sheet alone; a range of none
pub others : (estimate_reply scanned (420 ∷ 0 ∷ 0 ∷ 0 ∷ []) 0 2 ≡ numbers (650 ∷ 1 ∷ 1 ∷ 0 ∷ 0 ∷ 0 ∷ 0 ∷ []))
    × (estimate_reply scanned (420 ∷ 0 ∷ 0 ∷ 0 ∷ []) 1 2 ≡ numbers (0 ∷ 0 ∷ 0 ∷ 0 ∷ 0 ∷ 0 ∷ 0 ∷ []))
    × (estimate_reply scanned (420 ∷ 0 ∷ 0 ∷ 0 ∷ []) 4 2 ≡ numbers (0 ∷ 0 ∷ 0 ∷ 0 ∷ 0 ∷ 0 ∷ 0 ∷ []))
unfolding estimate_reply first first_from sum_over total class_of
others = (refl, refl, refl)
