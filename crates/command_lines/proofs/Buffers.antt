-- A line gathered in a buffer of 28 bytes or more means what the whole line means: a good line has at most 27 bytes, so a line
-- that did not fit is bad, and so are the bytes kept of it. And how gathering cuts the input into lines. Assumes nothing.
use Rattle.command_lines.proofs.Kit.{◌≡◌, refl, sym, ap, ◌∙◌, Bool, true, false, cond, ◌&&◌, false≢true, Option, Some, None, List, [], ◌∷◌, ◌++◌, append_assoc, append-nil, ℕ, suc, ◌+◌, ◌^◌, ◌≤◌, ◌<◌, arith, length, take, drop, get_or, drop-cons, length-append, length-take, length-drop, length-sets, take_all, take-append-le, leb, ltb, eqb, leb-true, leb-false, codes, bytes_eq, bytes_eq-Decides}
use Rattle.positions.proofs.Bools.{and_left, and_right}
use Rattle.command_lines.specs.declared.Gathered.{Gathered}
use Rattle.command_lines.specs.Lines.{fields, is_number, all_digits, value, with, command, meaning}
use Rattle.command_lines.specs.Input.{lines_from, up_to, ends, Gathers, Buffered, Pushes, HoldsLine}
use Rattle.command_lines.proofs.Filling.{sets_kept}
use Rattle.command_lines.proofs.Gathering.{pushes_ended}
use Rattle.command_lines.proofs.Fields.{joined, fields_joined}

-- ---- a line of 28 bytes or more is bad

number_length : (f : List ℕ) → is_number f ≡ true → length f ≤ 10
number_length f e =
    let p = and_left (all_digits f && leb 1 (length f) && leb (length f) 10) (ltb (value f) (2 ^ 32)) e in
    leb-true (length f) 10 (and_right (all_digits f && leb 1 (length f)) (leb (length f) 10) p)

other_length : (w v : List ℕ) → length v < length w → bytes_eq w v ≡ false
other_length w v h = go (bytes_eq w v) refl where
  go : (s : Bool) → bytes_eq w v ≡ s → s ≡ false
  go false e = refl
  go true e = absurd (omega (arith, ap length ((bytes_eq-Decides w v).0 e)))

long_keyword : (w : List ℕ) → 5 < length w → (a b : ℕ) → with w (Some (a, b)) ≡ None
long_keyword w h a b = simp (no (codes "new") (omega arith), no (codes "mark") (omega arith), no (codes "clear") (omega arith), no (codes "count") (omega arith), no (codes "one") (omega arith), no (codes "zero") (omega arith)) where
  no : (v : List ℕ) → length v ≤ 5 → bytes_eq w v ≡ false
  no v k = other_length w v (omega arith)

pub long_line : (line : List ℕ) → 27 < length line → meaning line ≡ None
long_line line h = go (fields line) (fields_joined line) where
  three : (w a b : List ℕ) → 27 < length (w ++ (32 ∷ (a ++ (32 ∷ b)))) → (s t : Bool) → is_number a ≡ s → is_number b ≡ t
      → with w (cond (is_number a && is_number b) (Some (value a, value b)) None) ≡ None
  three w a b k false t p q = simp p
  three w a b k true false p q = simp (p, q)
  three w a b k true true p q =
      let n = simp length-append at k in
      let l : 5 < length w = omega (arith, number_length a p, number_length b q, length-append w (32 ∷ (a ++ (32 ∷ b))), length-append a (32 ∷ b)) in
      simp (p, q) (long_keyword w l (value a) (value b))

  go : (fs : List (List ℕ)) → joined fs ≡ line → command fs ≡ None
  go [] e = refl
  go (w ∷ []) e =
      let k : 27 < length w = omega (arith, ap length e) in
      simp (other_length w (codes "back") (omega arith), other_length w (codes "wipe") (omega arith))
  go (w ∷ a ∷ []) e = refl
  go (w ∷ a ∷ b ∷ []) e = three w a b (omega (arith, ap length e)) (is_number a) (is_number b) refl refl
  go (w ∷ a ∷ b ∷ f ∷ fs) e = refl

-- ---- what an `ArrayVec` holds

pub pushes_none : (size : ℕ) → HoldsLine size [] []
pushes_none size = record { bytes = sym (take_all size [] (omega arith)) }

-- more bytes behind those that are held are bytes behind the line's
take_behind : (size : ℕ) (l p : List ℕ) → take size (take size l ++ p) ≡ take size (l ++ p)
take_behind size l p = go (leb (length l) size) refl where
  go : (s : Bool) → leb (length l) size ≡ s → take size (take size l ++ p) ≡ take size (l ++ p)
  go true e = ap (λ (x : List ℕ). take size (x ++ p)) (take_all size l (leb-true (length l) size e))
  go false e =
      let m : size ≤ length l = omega (arith, leb-false (length l) size e) in
      let n : size ≤ length (take size l) = omega (arith, length-take size l) in
      take-append-le size (take size l) p n ∙ take_all size (take size l) (omega (arith, length-take size l)) ∙ sym (take-append-le size l p m)

-- gathering keeps hold of the line
pub pushes_holds : {size : ℕ} {text line after l : List ℕ} {rest : Option (List ℕ)} → Pushes size text line after rest → HoldsLine size line l
    → HoldsLine size after (l ++ up_to text)
pushes_holds {size} {text} {line} {after} {l} g h = record { bytes = rw (g.line_after, h.bytes) (take_behind size l (up_to text)) }

-- the bytes kept mean what the line means
pub pushed_means : (size : ℕ) (held l : List ℕ) → 27 < size → HoldsLine size held l → meaning held ≡ meaning l
pushed_means size held l k h = go (leb (length l) size) refl where
  go : (s : Bool) → leb (length l) size ≡ s → meaning held ≡ meaning l
  go true e = ap meaning (h.bytes ∙ take_all size l (leb-true (length l) size e))
  go false e =
      let m : size < length l = leb-false (length l) size e in
      ap meaning h.bytes ∙ long_line (take size l) (omega (arith, length-take size l)) ∙ sym (long_line l (omega arith))

-- ---- what a buffer holds up to where it is filled: the same

pub holds_none : (buffer : List ℕ) → Buffered buffer 0 []
holds_none buffer = record { filled = omega arith; bytes = sym (take_all (length buffer) [] (omega arith)) }

-- gathering keeps hold of the line
pub gathers_holds : (text : List ℕ) (from : ℕ) (line : List ℕ) (kept : ℕ) (r : Gathered) (after l : List ℕ) → Gathers text from line kept r after
    → Buffered line kept l → Buffered after r.kept (l ++ up_to (drop from text))
gathers_holds text from line kept r after l g h =
    let u : List ℕ = up_to (drop from text) in
    let s : length after ≡ length line = ap length g.line_after ∙ length-sets line kept u in
    record {
      filled = omega (arith, g.kept_is, h.filled, s, length-append l u);
      bytes = rw (s, g.line_after, g.kept_is) (sets_kept line kept u (omega (arith, h.filled)) ∙ ap (λ (x : List ℕ). take (length line) (x ++ u)) h.bytes ∙ take_behind (length line) l u);
    }

-- the bytes kept mean what the line means
pub held_means : (buffer l : List ℕ) (n : ℕ) → 27 < length buffer → Buffered buffer n l → meaning (take n buffer) ≡ meaning l
held_means buffer l n k h = pushed_means (length buffer) (take n buffer) l k (record { bytes = h.bytes })

-- ---- the lines of an input that comes in parts: t is the part at hand, and more what follows

pub lines_ended : (l t more : List ℕ) → ends t ≡ true → lines_from l (t ++ more) ≡ (l ++ up_to t) ∷ lines_from [] (drop (length (up_to t) + 1) t ++ more)
unfolding lines_from up_to ends
lines_ended l [] more e = absurd (false≢true e)
lines_ended l (b ∷ t) more e = go (eqb b 10) refl e (λ h. lines_ended (l ++ (b ∷ [])) t more h) where
  go : (s : Bool) → eqb b 10 ≡ s → cond s true (ends t) ≡ true
      → (ends t ≡ true → lines_from (l ++ (b ∷ [])) (t ++ more) ≡ ((l ++ (b ∷ [])) ++ up_to t) ∷ lines_from [] (drop (length (up_to t) + 1) t ++ more))
      → cond s (l ∷ lines_from [] (t ++ more)) (lines_from (l ++ (b ∷ [])) (t ++ more)) ≡ (l ++ cond s [] (b ∷ up_to t)) ∷ lines_from [] (drop (length (cond s [] (b ∷ up_to t)) + 1) (b ∷ t) ++ more)
  go true p h i = rw append-nil
  go false p h i =
      let k : suc (length (up_to t)) + 1 ≡ suc (length (up_to t) + 1) = omega arith in
      rw k (i h ∙ ap (λ (x : List ℕ). x ∷ lines_from [] (drop (length (up_to t) + 1) t ++ more)) (append_assoc l (b ∷ []) (up_to t)))

pub lines_open : (l t more : List ℕ) → ends t ≡ false → lines_from l (t ++ more) ≡ lines_from (l ++ up_to t) more
unfolding lines_from up_to ends
lines_open l [] more e = ap (λ (x : List ℕ). lines_from x more) (sym (append-nil l))
lines_open l (b ∷ t) more e = go (eqb b 10) refl e (λ h. lines_open (l ++ (b ∷ [])) t more h) where
  go : (s : Bool) → eqb b 10 ≡ s → cond s true (ends t) ≡ false → (ends t ≡ false → lines_from (l ++ (b ∷ [])) (t ++ more) ≡ lines_from ((l ++ (b ∷ [])) ++ up_to t) more)
      → cond s (l ∷ lines_from [] (t ++ more)) (lines_from (l ++ (b ∷ [])) (t ++ more)) ≡ lines_from (l ++ cond s [] (b ∷ up_to t)) more
  go true p h i = absurd (false≢true (sym h))
  go false p h i = i h ∙ ap (λ (x : List ℕ). lines_from x more) (append_assoc l (b ∷ []) (up_to t))

-- ---- what a loop over a text needs: gathering moves on, within the text, and keeps within the buffer

-- the bytes up to the newline and the newline are of the text
up_to_length : (t : List ℕ) → length (up_to t) + cond (ends t) 1 0 ≤ length t
unfolding up_to ends
up_to_length [] = omega arith
up_to_length (b ∷ t) = go (eqb b 10) (up_to_length t) where
  go : (s : Bool) → length (up_to t) + cond (ends t) 1 0 ≤ length t → length (cond s [] (b ∷ up_to t)) + cond (cond s true (ends t)) 1 0 ≤ suc (length t)
  go true h = omega arith
  go false h = omega arith

-- and of a text that has a byte they are some
up_to_moves : (b : ℕ) (t : List ℕ) → 0 < length (up_to (b ∷ t)) + cond (ends (b ∷ t)) 1 0
unfolding up_to ends
up_to_moves b t = go (eqb b 10) where
  go : (s : Bool) → 0 < length (cond s [] (b ∷ up_to t)) + cond (cond s true (ends t)) 1 0
  go true = omega arith
  go false = omega arith

pub pushes_moves : {size : ℕ} {text line after rest : List ℕ} → Pushes size text line after (Some rest) → length rest < length text
pushes_moves {text = text} g =
    let (e, r) = pushes_ended g in
    let m : length (up_to text) + 1 ≤ length text = rw e at (up_to_length text) in
    omega (arith, ap length r, length-drop (length (up_to text) + 1) text)

pub pushes_fits : {size : ℕ} {text line after : List ℕ} {rest : Option (List ℕ)} → Pushes size text line after rest → length after ≤ size
pushes_fits {size} {text} {line} g = omega (arith, ap length g.line_after, length-take size (line ++ up_to text))

pub gathers_moves : (text : List ℕ) (from : ℕ) (line : List ℕ) (kept : ℕ) (r : Gathered) (after : List ℕ) → Gathers text from line kept r after
    → from < length text → (from < r.at) × (r.at ≤ length text)
gathers_moves text from line kept r after g h =
    let t = drop from text in
    let d : t ≡ get_or text from 0 ∷ drop (suc from) text = drop-cons text from 0 h in
    let m : 0 < length (up_to t) + cond (ends t) 1 0 = rw d (up_to_moves (get_or text from 0) (drop (suc from) text)) in
    (omega (arith, g.next), omega (arith, g.next, up_to_length t, length-drop from text))

pub gathers_fits : (text : List ℕ) (from : ℕ) (line : List ℕ) (kept : ℕ) (r : Gathered) (after : List ℕ) → Gathers text from line kept r after
    → kept ≤ length line → r.kept ≤ length line
gathers_fits text from line kept r after g h = omega (arith, g.kept_is)
