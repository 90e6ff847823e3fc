-- Plain sets of positions: a range, a range given a value, how many positions of a range a set has, the first of a value, and the
-- n-th. All ranges leave out their end. Assumes nothing.
use Rattle.std.specs.Prelude.{Bool, true, false, not, cond, ◌&&◌, ℕ, zero, suc, ◌+◌, ◌-◌, eqb, leb, ltb}

-- a set has position i where it is true at i
abbrev pub Positions : Type 0
Positions = ℕ → Bool

-- the set that has no position
abbrev pub none : Positions
none i = false

-- i lies in a..e
abbrev pub within : ℕ → ℕ → ℕ → Bool
within a e i = leb a i && ltb i e

-- the set with every position of a..e given the value v
unfoldable pub assigned : Positions → ℕ → ℕ → Bool → Positions
assigned s a e v i = cond (within a e i) v (s i)

-- two values differ
abbrev pub differ : Bool → Bool → Bool
differ true v = not v
differ false v = v

-- the positions that do not have the value v
abbrev pub lacking : Positions → Bool → Positions
lacking s v i = differ (s i) v

-- ---- counting: the one definition, for bits of a word and for positions

-- the sum of f over the n numbers from a on
unfoldable pub total : (ℕ → ℕ) → ℕ → ℕ → ℕ
total f a zero = zero
total f a (suc n) = f a + total f (suc a) n

-- a term that counts only where the test holds
abbrev pub only_if : Bool → ℕ → ℕ
only_if true x = x
only_if false x = 0

-- true counts 1
abbrev pub one : Bool → ℕ
one b = only_if b 1

-- the sum of f over those of the n positions from a on that the set has
unfoldable pub sum_over : Positions → (ℕ → ℕ) → ℕ → ℕ → ℕ
sum_over s f a n = total (λ i. only_if (s i) (f i)) a n

-- how many of the n positions from a on the set has
unfoldable pub count_from : Positions → ℕ → ℕ → ℕ
count_from s a n = sum_over s (λ i. 1) a n

-- how many positions of a..e the set has
unfoldable pub count : Positions → ℕ → ℕ → ℕ
count s a e = count_from s a (e - a)

-- how many positions of a..e giving it the value v changes
unfoldable pub changed_count : Positions → ℕ → ℕ → Bool → ℕ
changed_count s a e v = count (lacking s v) a e

-- ---- searching

-- what a search answers
pub data Place : Type 0 where
  found_at : ℕ → Place
  not_found : Place

-- the first of the n positions from a on whose value is v
unfoldable pub first_from : Positions → Bool → ℕ → ℕ → Place
first_from s v a zero = not_found
first_from s v a (suc n) = cond (differ (s a) v) (first_from s v (suc a) n) (found_at a)

-- the first position of a..e whose value is v
unfoldable pub first : Positions → Bool → ℕ → ℕ → Place
first s v a e = first_from s v a (e - a)

-- ---- the n-th position, n from 0

-- the position that has exactly n positions of the set before it and is one itself, among those below e
unfoldable pub select : Positions → ℕ → ℕ → Place
select s n e = first (λ i. s i && eqb (count s 0 i) n) true 0 e

-- what a walk over each of the m positions from a on answers, which passes n positions of the set and stops at the next. That `select`
-- is this walk from 0 is `select_walks` of proofs/Selects
unfoldable pub nth_from : Positions → ℕ → ℕ → ℕ → Place
nth_from s n a zero = not_found
nth_from s zero a (suc m) = cond (s a) (found_at a) (nth_from s zero (suc a) m)
nth_from s (suc n) a (suc m) = cond (s a) (nth_from s n (suc a) m) (nth_from s (suc n) (suc a) m)
