-- Laws of bytes stored in a buffer: one text behind the other, what stands up to the end, and what the buffer cuts off. Assumes nothing.
use Rattle.command_lines.proofs.Kit.{◌≡◌, refl, sym, ap, ◌∙◌, Bool, true, false, List, [], ◌∷◌, ◌++◌, ℕ, suc, ◌+◌, ◌-◌, ◌≤◌, arith, length, take, drop, set, length-append, length-take, length-take-le, sets, sets-eq, set_out, length-sets, take_all, take_at, take-append-add, take-append-drop, leb, leb-true, leb-false}
use Rattle.command_lines.specs.Input.{kept_after}

-- one text behind the other
sets_append : (l : List ℕ) (i : ℕ) (a b : List ℕ) → sets (sets l i a) (i + length a) b ≡ sets l i (a ++ b)
sets_append l i [] b = ap (λ (k : ℕ). sets l k b) (omega arith)
sets_append l i (x ∷ a) b =
    let s : i + suc (length a) ≡ suc i + length a = omega arith in
    rw s (sets_append (set l i x) (suc i) a b)

-- past the end nothing is stored
pub sets_out : (l : List ℕ) (i : ℕ) (w : List ℕ) → length l ≤ i → sets l i w ≡ l
sets_out l i [] h = refl
sets_out l i (x ∷ w) h = rw (set_out l i x h) (sets_out l (suc i) w (omega arith))

-- so of a text only as much as the buffer reaches for
pub sets_cut : (l : List ℕ) (i n : ℕ) (w : List ℕ) → length l ≤ i + n → sets l i (take n w) ≡ sets l i w
sets_cut l i n w h = go (leb (length w) n) refl where
  go : (s : Bool) → leb (length w) n ≡ s → sets l i (take n w) ≡ sets l i w
  go true e = ap (sets l i) (take_all n w (leb-true (length w) n e))
  go false e =
      let p : length (sets l i (take n w)) ≤ i + length (take n w) = omega (arith, length-sets l i (take n w), length-take n w, leb-false (length w) n e) in
      sym (sets_out (sets l i (take n w)) (i + length (take n w)) (drop n w) p)
      ∙ sets_append l i (take n w) (drop n w) ∙ ap (sets l i) (take-append-drop n w)

-- what stands up to the end of a text that was put behind the first i bytes
sets_take : (l : List ℕ) (i : ℕ) (w : List ℕ) → i + length w ≤ length l → take (i + length w) (sets l i w) ≡ take i l ++ w
sets_take l i w h =
    ap (take (i + length w)) (sets-eq w l i h)
    ∙ take_at (take i l ++ w) (drop (i + length w) l) (i + length w) (length-append (take i l) w ∙ ap (λ (k : ℕ). k + length w) (length-take-le i l (omega arith)))

-- what is kept where bytes come behind the first i of them
pub sets_kept : (l : List ℕ) (i : ℕ) (w : List ℕ) → i ≤ length l → take (kept_after (length l) i w) (sets l i w) ≡ take (length l) (take i l ++ w)
sets_kept l i w h =
    let n : ℕ = length l - i in
    let a : List ℕ = take n w in
    let k : kept_after (length l) i w ≡ i + length a = omega (arith, length-take n w) in
    let s : length (take i l) + n ≡ length l = omega (arith, length-take-le i l h) in
    ap (λ (m : ℕ). take m (sets l i w)) k ∙ ap (take (i + length a)) (sym (sets_cut l i n w (omega arith)))
    ∙ sets_take l i a (omega (arith, length-take n w)) ∙ sym (take-append-add (take i l) w n) ∙ ap (λ (m : ℕ). take m (take i l ++ w)) s
