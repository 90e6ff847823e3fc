-- The numbers of one answer: the refusal's, and what a refused answer has beside it. Assumes nothing.
use Rattle.std.proofs.Common.{◌≡◌, refl, ◌≢◌, Bool, true, false, ℕ, ◌≤◌, ◌<◌, arith, Some, None, Ok, Err}
use Rattle.positions.specs.Positions.{one}
use Rattle.positions.specs.Replies.{refused}
use Rattle.answers.specs.Refusals.{refused_by}
use Rattle.range_bitset.specs.Entries.{Lies}
use Rattle.range_bitset.specs.Answers.{Made, Counted, Tested, Found, Placed, of_counted, of_tested, of_found, of_placed}
use Rattle.capi_told.specs.Told.{told_made, told_counted, told_tested, told_found, told_placed}

pub counted_refused : (a : Counted) → (told_counted a).refused ≡ refused (of_counted a)
counted_refused (Ok n) = refl
counted_refused (Err k) = refl

pub tested_refused : (a : Tested) → (told_tested a).refused ≡ refused (of_tested a)
tested_refused (Ok b) = refl
tested_refused (Err k) = refl

pub found_refused : (a : Found) → (told_found a).refused ≡ refused (of_found a)
found_refused (Ok (Some i)) = refl
found_refused (Ok None) = refl
found_refused (Err k) = refl

pub placed_refused : (a : Placed) → (told_placed a).refused ≡ refused (of_placed a)
placed_refused (Ok (Some i)) = refl
placed_refused (Ok None) = refl
placed_refused (Err k) = refl

pub made_refused : (a : Made) → (told_made a).refused ≡ refused_by a
made_refused (Ok h) = refl
made_refused (Err k) = refl

pub counted_bare : (a : Counted) → (told_counted a).refused ≢ 0 → (told_counted a).value ≡ 0
counted_bare (Ok n) z = absurd (z refl)
counted_bare (Err k) z = refl

pub tested_bare : (a : Tested) → (told_tested a).refused ≢ 0 → (told_tested a).value ≡ 0
tested_bare (Ok b) z = absurd (z refl)
tested_bare (Err k) z = refl

pub found_bare : (a : Found) → (told_found a).refused ≢ 0 → (told_found a).found ≡ 0
found_bare (Ok (Some i)) z = absurd (z refl)
found_bare (Ok None) z = refl
found_bare (Err k) z = refl

pub placed_bare : (a : Placed) → (told_placed a).refused ≢ 0 → (told_placed a).found ≡ 0
placed_bare (Ok (Some i)) z = absurd (z refl)
placed_bare (Ok None) z = refl
placed_bare (Err k) z = refl

-- 0 or 1
one_most : (b : Bool) → one b ≤ 1
one_most true = omega arith
one_most false = omega arith

pub tested_most : (a : Tested) → (told_tested a).value ≤ 1
tested_most (Ok b) = one_most b
tested_most (Err k) = omega arith

-- no run or position, no number
pub found_none : (a : Found) → (told_found a).found ≡ 0 → ((told_found a).at ≡ 0) × ((told_found a).end ≡ 0)
found_none (Ok (Some r)) z = absurd (omega arith)
found_none (Ok None) z = (refl, refl)
found_none (Err k) z = (refl, refl)

pub placed_none : (a : Placed) → (told_placed a).found ≡ 0 → (told_placed a).at ≡ 0
placed_none (Ok (Some i)) z = absurd (omega arith)
placed_none (Ok None) z = refl
placed_none (Err k) z = refl

-- a run that is found lies in the range, on any memory
pub found_lies : (s e : ℕ) (a : Found) → Lies s e a → (told_found a).found ≡ 1
    → (s ≤ (told_found a).at) × ((told_found a).at < (told_found a).end) × ((told_found a).end ≤ e)
found_lies s e (Ok (Some r)) l z = l
found_lies s e (Ok None) l z = absurd (omega arith)
found_lies s e (Err k) l z = absurd (omega arith)

-- ---- a set that is made

pub made_value : (a : Made) → (told_made a).value ≡ 0
made_value (Ok h) = refl
made_value (Err k) = refl

pub made_bare : (a : Made) → (told_made a).refused ≢ 0 → (told_made a).head ≡ record { words = 0; len = 0; allocated = false }
made_bare (Ok h) z = absurd (z refl)
made_bare (Err k) z = refl
