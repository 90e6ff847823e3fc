-- Laws of gathering a line: the bytes up to a newline and those behind it, by where the newline is. Assumes nothing.
use Rattle.command_lines.proofs.Kit.{◌≡◌, refl, sym, ap, ◌∙◌, Bool, true, false, not, cond, Some, None, List, [], ◌∷◌, ℕ, ◌+◌, ◌≤◌, ◌<◌, arith, one-add, length, take, drop, drop_of_length-le, take_all, eqb, ltb, ltb-true, position, position_or_len, prefix_len, cond_some}
use Rattle.command_lines.specs.Inner.{SplitsAt}
use Rattle.command_lines.specs.Input.{up_to, ends, Gathers, Splits, Pushes}

abbrev newline : ℕ → Bool
newline b = eqb b 10

-- i is the place of the first newline, or the length where there is none
pub record Line (t : List ℕ) (i : ℕ) : Type 0 where
  pub upto : up_to t ≡ take i t
  pub most : i ≤ length t
  pub unended : length t ≤ i → ends t ≡ false
  pub ended : i < length t → ends t ≡ true

pub line_at : (t : List ℕ) → Line t (position_or_len newline t)
unfolding up_to ends
line_at [] = record { upto = refl; most = omega arith; unended = λ h. refl; ended = λ h. absurd (omega arith) }
line_at (b ∷ t) = go (eqb b 10) refl (line_at t) where
  go : (s : Bool) → eqb b 10 ≡ s → Line t (prefix_len (λ x. not (newline x)) t) → Line (b ∷ t) (cond (not s) (1 + prefix_len (λ x. not (newline x)) t) 0)
  go true e l = record { upto = simp e; most = omega arith; unended = λ h. absurd (omega arith); ended = λ h. simp e }
  go false e l = record {
    upto = simp (e, one-add, l.upto);
    most = omega (arith, l.most);
    unended = λ h. simp (e, l.unended (omega arith));
    ended = λ h. simp (e, l.ended (omega arith));
  }

module _ {t : List ℕ} where
  pub splits_none : position newline t ≡ None → Splits t t None
  splits_none e =
      let l = line_at t in
      let n : length t ≤ position_or_len newline t = grind arith in
      record { before = sym (l.upto ∙ take_all (position_or_len newline t) t n); behind = simp (l.unended n) }

  pub splits_part : {a b : List ℕ} → SplitsAt 10 t a b → Splits t a (Some b)
  splits_part {a} {b} s =
      let l = line_at t in
      let (n, e) = cond_some (ltb (position_or_len newline t) (length t)) (position_or_len newline t) (length a) s.place in
      let u : up_to t ≡ a = l.upto ∙ sym s.before in
      record { before = sym u; behind = simp (l.ended (ltb-true _ _ n), u) (ap Some (s.behind ∙ ap (λ (k : ℕ). drop (k + 1) t) e)) }

-- ---- behind the text there is nothing to gather

pub gathers_nothing : (text : List ℕ) (from : ℕ) (line : List ℕ) (kept : ℕ) → length text ≤ from → Gathers text from line kept (record { at = from; kept = kept; ended = false }) line
unfolding up_to ends
gathers_nothing text from line kept h =
    let d : drop from text ≡ [] = drop_of_length-le text h in
    record { line_after = rw d; kept_is = rw d (omega arith); ended = rw d; next = rw d (omega arith) }

-- ---- what an answer says: the line has ended, and what follows its newline; or it has not

pub pushes_ended : {size : ℕ} {t line after rest : List ℕ} → Pushes size t line after (Some rest) → (ends t ≡ true) × (rest ≡ drop (length (up_to t) + 1) t)
pushes_ended {t = t} {rest = rest} g = go (ends t) g.next where
  go : (s : Bool) → Some rest ≡ cond s (Some (drop (length (up_to t) + 1) t)) None → (s ≡ true) × (rest ≡ drop (length (up_to t) + 1) t)
  go true n = (refl, cc)
  go false n = cc

pub pushes_open : {size : ℕ} {t line after : List ℕ} → Pushes size t line after None → ends t ≡ false
pushes_open {t = t} g = go (ends t) g.next where
  go : (s : Bool) → None ≡ cond s (Some (drop (length (up_to t) + 1) t)) None → s ≡ false
  go true n = cc
  go false n = refl
