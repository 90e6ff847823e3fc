-- Laws of the tests on the bytes: each says yes exactly where its property holds. Assumes nothing.
use Rattle.saved_list.proofs.Kit.{◌≡◌, refl, true, List, [], ◌∷◌, ℕ, arith, nat_tests, length, take}
use Rattle.saved_list.specs.Format.{mark, saved_count, Headed, Whole, begins, headed, whole, held_count}

-- the test says yes exactly where the first bytes are the letters
pub begins_take : (xs l : List ℕ) → begins xs l ≡ true → take (length xs) l ≡ xs
begins_take [] l e = refl
begins_take (x ∷ xs) [] e = grind (arith, nat_tests)
begins_take (x ∷ xs) (y ∷ l) e = grind (arith, nat_tests, begins_take xs l)

pub take_begins : (xs l : List ℕ) → take (length xs) l ≡ xs → begins xs l ≡ true
take_begins [] l e = refl
take_begins (x ∷ xs) [] e = grind (arith, nat_tests)
take_begins (x ∷ xs) (y ∷ l) e = grind (arith, nat_tests, take_begins xs l)

pub headed_yes : (bytes : List ℕ) → headed bytes ≡ true → Headed bytes
headed_yes bytes e = grind (arith, nat_tests, begins_take)

pub yes_headed : (bytes : List ℕ) → Headed bytes → headed bytes ≡ true
yes_headed bytes h = grind (arith, nat_tests, take_begins mark bytes)

pub whole_yes : (bytes : List ℕ) → whole bytes ≡ true → Whole bytes
whole_yes bytes e = grind (arith, nat_tests)

pub yes_whole : (bytes : List ℕ) → Whole bytes → whole bytes ≡ true
yes_whole bytes h = grind (arith, nat_tests)

-- a file of the right length holds the runs that its header says
pub whole_held : (bytes : List ℕ) → Whole bytes → held_count bytes ≡ saved_count bytes
whole_held bytes h = omega arith
