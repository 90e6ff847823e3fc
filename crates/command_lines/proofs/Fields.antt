-- Laws of a text's fields: the text cut at its first space, a text of digits, the fields joined again, and what a line means by
-- the text before its first space and the text behind it. Assumes nothing.
use Rattle.command_lines.proofs.Kit.{◌≡◌, refl, sym, ap, ◌∙◌, Bool, true, false, not, cond, ◌&&◌, Option, Some, None, List, [], ◌∷◌, ◌++◌, ℕ, ◌+◌, ◌<◌, ◌≤◌, arith, add-one, one-add, length, take, drop, eqb, eqb-true, ltb, ltb-true, position, position_or_len, prefix_len, cond_some}
use Rattle.positions.proofs.Bools.{and_left, and_right}
use Rattle.std.specs.Prelude.{codes}
use Rattle.std.specs.Str.{bytes_eq}
use Rattle.command_lines.specs.Inner.{SplitsAt}
use Rattle.command_lines.specs.Lines.{fields, onto, digit, all_digits, value, is_number, pair, alone, with, command, meaning}

-- ---- cut at the first space

abbrev pub space : ℕ → Bool
space b = eqb b 32

-- i is the place of the first space, or the length where there is none
record Cut (t : List ℕ) (i : ℕ) : Type 0 where
  none : length t ≤ i → fields t ≡ t ∷ []
  some : i < length t → fields t ≡ take i t ∷ fields (drop (i + 1) t)

cut : (t : List ℕ) → Cut t (position_or_len space t)
unfolding fields
cut [] = record { none = λ h. refl; some = λ h. absurd (omega arith) }
cut (b ∷ t) = go (eqb b 32) refl (cut t) where
  go : (s : Bool) → eqb b 32 ≡ s → Cut t (prefix_len (λ x. not (space x)) t) → Cut (b ∷ t) (cond (not s) (1 + prefix_len (λ x. not (space x)) t) 0)
  go true e i = record { none = λ h. absurd (omega arith); some = λ h. simp e }
  go false e i = record { none = λ h. simp (e, i.none (omega arith)); some = λ h. simp (e, one-add, add-one, i.some (omega arith)) }

pub one_field : (t : List ℕ) → position space t ≡ None → fields t ≡ t ∷ []
one_field t e = (cut t).none (grind arith)

pub more_fields : {t a b : List ℕ} → SplitsAt 32 t a b → fields t ≡ a ∷ fields b
more_fields {t} {a} {b} h =
    let (l, e) = cond_some (ltb (position_or_len space t) (length t)) (position_or_len space t) (length a) h.place in
    rw (h.before, h.behind) ((cut t).some (ltb-true _ _ l))

-- ---- joined again

-- the fields with a space between each two
abbrev pub joined : List (List ℕ) → List ℕ
joined [] = []
joined (f ∷ []) = f
joined (f ∷ g ∷ fs) = f ++ (32 ∷ joined (g ∷ fs))

joined_onto : (b : ℕ) (fs : List (List ℕ)) → joined (onto b fs) ≡ b ∷ joined fs
joined_onto b [] = refl
joined_onto b (f ∷ []) = refl
joined_onto b (f ∷ g ∷ fs) = refl

-- the fields are not none
record Some_fields (t : List ℕ) : Type 0 where
  first : List ℕ
  others : List (List ℕ)
  are : fields t ≡ first ∷ others

some_fields : (t : List ℕ) → Some_fields t
unfolding fields
some_fields [] = record { first = []; others = []; are = refl }
some_fields (b ∷ t) = go (eqb b 32) (some_fields t) refl where
  go : (s : Bool) → Some_fields t → eqb b 32 ≡ s → Some_fields (b ∷ t)
  go true r e = record { first = []; others = fields t; are = simp e }
  go false r e = record { first = b ∷ r.first; others = r.others; are = simp (e, r.are) }

joined_empty : (t : List ℕ) → joined ([] ∷ fields t) ≡ 32 ∷ joined (fields t)
joined_empty t = rw (some_fields t).are

pub fields_joined : (t : List ℕ) → joined (fields t) ≡ t
unfolding fields
fields_joined [] = refl
fields_joined (b ∷ t) = go (eqb b 32) refl (fields_joined t) where
  go : (s : Bool) → eqb b 32 ≡ s → joined (fields t) ≡ t → joined (cond s ([] ∷ fields t) (onto b (fields t))) ≡ b ∷ t
  go true e h = joined_empty t ∙ ap (λ (l : List ℕ). 32 ∷ l) h ∙ ap (λ (x : ℕ). x ∷ t) (sym (eqb-true b 32 e))
  go false e h = joined_onto b (fields t) ∙ ap (λ (l : List ℕ). b ∷ l) h

-- ---- two numbers

-- a number is one field
number_fields : (f : List ℕ) → all_digits f ≡ true → fields f ≡ f ∷ []
unfolding fields
number_fields [] e = refl
number_fields (b ∷ f) e =
    let d = and_left (digit b) (all_digits f) e in
    let s : eqb b 32 ≡ false = grind arith in
    simp (s, number_fields f (and_right (digit b) (all_digits f) e))

-- two fields of which the second may be more
pair_of : (a b : List ℕ) → pair (a ∷ fields b) ≡ cond (is_number a && is_number b) (Some (value a, value b)) None
pair_of a b = go (is_number b) refl where
  many : (fs : List (List ℕ)) → fields b ≡ fs → is_number b ≡ false → pair (a ∷ fs) ≡ None
  many [] e n = refl
  many (f ∷ []) e n = let same : f ≡ b = sym (ap joined e) ∙ fields_joined b in grind arith
  many (f ∷ g ∷ fs) e n = refl

  go : (s : Bool) → is_number b ≡ s → pair (a ∷ fields b) ≡ cond (is_number a && s) (Some (value a, value b)) None
  go true e = let f : fields b ≡ b ∷ [] = number_fields b (grind arith) in rw f (simp e)
  go false e = many (fields b) refl e ∙ grind arith

pub pair_split : {t a b : List ℕ} → SplitsAt 32 t a b → pair (fields t) ≡ cond (is_number a && is_number b) (Some (value a, value b)) None
pair_split {t} {a} {b} h = ap pair (more_fields h) ∙ pair_of a b

-- ---- a line

pub means_alone : (line : List ℕ) → position space line ≡ None → meaning line ≡ alone line
means_alone line e = ap command (one_field line e)

pub means_with : {line w t : List ℕ} {p : Option (ℕ × ℕ)} → SplitsAt 32 line w t → p ≡ pair (fields t) → meaning line ≡ with w p
means_with {line} {w} {t} h e = let s = some_fields t in ap command (more_fields h) ∙ rw (e, s.are)

-- a text before the first space that is none of the words which numbers follow
pub keywordless : (w : List ℕ) (p : Option (ℕ × ℕ)) → bytes_eq w (codes "new") ≡ false → bytes_eq w (codes "mark") ≡ false → bytes_eq w (codes "clear") ≡ false
    → bytes_eq w (codes "count") ≡ false → bytes_eq w (codes "one") ≡ false → bytes_eq w (codes "zero") ≡ false → with w p ≡ None
keywordless w None a b c d e f = refl
keywordless w (Some (x, y)) a b c d e f = simp (a, b, c, d, e, f)
