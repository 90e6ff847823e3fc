-- What a scanning order costs: the class of a sheet by its longest edge, the price of a class, and the three answers as sums over the
-- clear positions of a range. Assumes nothing.
use Rattle.std.specs.Prelude.{Bool, true, false, cond, ◌&&◌, List, [], ◌∷◌, slice_index, ℕ, ◌+◌, ◌-◌, eqb, leb, Option, Some, None}
use Rattle.positions.specs.Positions.{Positions, lacking, one, sum_over}
use Rattle.estimate.specs.declared.class.Class.{Class}
use Rattle.estimate.specs.declared.class.Class.TheVariants.{A3, A2, A1, A0, Oversize}

-- ---- one sheet

-- the class of a sheet by its longest edge in whole millimetres: a sheet of edge 0 was not measured, and has none
unfoldable pub class_of : ℕ → Option Class
class_of e = cond (eqb e 0) None (cond (leb e 420) (Some A3) (cond (leb e 594) (Some A2) (cond (leb e 841) (Some A1) (cond (leb e 1189) (Some A0) (Some Oversize)))))

-- what a sheet of a class costs, in pence
abbrev pub price_of : Class → ℕ
price_of A3 = 650
price_of A2 = 1100
price_of A1 = 1400
price_of A0 = 1850
price_of Oversize = 4200

-- the classes in their order: the place of each, a number for each, and the sum of such numbers
abbrev pub place_of : Class → ℕ
place_of A3 = 0
place_of A2 = 1
place_of A1 = 2
place_of A0 = 3
place_of Oversize = 4

abbrev pub by_class : (Class → ℕ) → List ℕ
by_class f = f A3 ∷ f A2 ∷ f A1 ∷ f A0 ∷ f Oversize ∷ []

abbrev pub over_classes : (Class → ℕ) → ℕ
over_classes f = f A3 + f A2 + f A1 + f A0 + f Oversize

-- ---- what each position weighs in the three answers, by its edge in the list: its price, 1, and 1 where it is of the class

abbrev pub price_in : Option Class → ℕ
price_in None = 0
price_in (Some c) = price_of c

abbrev pub is_of : Class → Option Class → Bool
is_of c None = false
is_of c (Some d) = eqb (place_of c) (place_of d)

abbrev pub price_at : List ℕ → ℕ → ℕ
price_at edges i = price_in (class_of (slice_index edges i))

abbrev pub sheet_at : ℕ → ℕ
sheet_at i = 1

abbrev pub class_at : List ℕ → Class → ℕ → ℕ
class_at edges c i = one (is_of c (class_of (slice_index edges i)))

-- ---- the clear positions of a..e

-- the sum of a weight over them
abbrev pub over_clear : Positions → (ℕ → ℕ) → ℕ → ℕ → ℕ
over_clear s f a e = sum_over (lacking s true) f a (e - a)

-- those that are not measured
abbrev pub unmeasured : Positions → List ℕ → Positions
unmeasured s edges i = lacking s true i && eqb (slice_index edges i) 0

-- ---- for the theorem that every edge has one class: the edges of each, as 02 has them, from the lowest to the highest, both among them

abbrev pub lowest : Class → ℕ
lowest A3 = 1
lowest A2 = 421
lowest A1 = 595
lowest A0 = 842
lowest Oversize = 1190

-- the largest number of 16 bits for the last
abbrev pub highest : Class → ℕ
highest A3 = 420
highest A2 = 594
highest A1 = 841
highest A0 = 1189
highest Oversize = 65535
