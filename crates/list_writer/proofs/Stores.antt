-- Laws of numbers stored into a list one after the other: what stands there, and that all else is as it was. Assumes nothing.
use Rattle.list_writer.proofs.Kit.{◌≡◌, refl, sym, ap, ◌∙◌, ◌⊎◌, inl, inr, List, [], ◌∷◌, ◌++◌, ℕ, suc, ◌+◌, ◌/◌, ◌%◌, ◌≤◌, ◌<◌, add-zero, zero-add, arith, length, get_or, take, drop, set, length-append, length-sets, sets-eq, length-take-le, take_at, get_or-set_other, drop-set-lt}
use Rattle.saved_list.specs.Format.{mark, bytes16, bytes32, header_bytes, run_bytes}
use Rattle.positions.specs.Runs.{run}
use Rattle.set_runs.proofs.RunWalks.{Puts}
use Rattle.list_writer.specs.Inner.{overwritten}

pub over_length : (at : ℕ) (l x : List ℕ) → length (overwritten at l x) ≡ length x
unfolding overwritten
over_length at l x = length-sets x at l

over_append : (at : ℕ) (l m x : List ℕ) → overwritten at (l ++ m) x ≡ overwritten (at + length l) m (overwritten at l x)
unfolding overwritten
over_append at [] m x = rw (add-zero at)
over_append at (y ∷ l) m x =
    let p : suc at + length l ≡ at + suc (length l) = omega arith in
    over_append (suc at) l m (set x at y) ∙ rw p

over_outside : (at : ℕ) (l x : List ℕ) (k : ℕ) → (k < at) ⊎ (at + length l ≤ k) → get_or (overwritten at l x) k 0 ≡ get_or x k 0
unfolding overwritten
over_outside at [] x k h = refl
over_outside at (y ∷ l) x k (inl h) = over_outside (suc at) l (set x at y) k (inl (omega arith)) ∙ get_or-set_other x at k y 0 (λ z. omega arith)
over_outside at (y ∷ l) x k (inr h) = over_outside (suc at) l (set x at y) k (inr (omega arith)) ∙ get_or-set_other x at k y 0 (λ z. omega arith)

pub over_drop : (at n : ℕ) (l x : List ℕ) → at + length l ≤ n → drop n (overwritten at l x) ≡ drop n x
unfolding overwritten
over_drop at n [] x h = refl
over_drop at n (y ∷ l) x h = over_drop (suc at) n l (set x at y) (omega arith) ∙ drop-set-lt n x at y (omega arith)

over_take : (at : ℕ) (l x : List ℕ) → at + length l ≤ length x → take (at + length l) (overwritten at l x) ≡ take at x ++ l
unfolding overwritten
over_take at l x h =
    ap (take (at + length l)) (sets-eq l x at h)
    ∙ take_at (take at x ++ l) (drop (at + length l) x) (at + length l) (length-append (take at x) l ∙ ap (λ (n : ℕ). n + length l) (length-take-le at x (omega arith)))

-- stored at the front
pub over_front : (l x : List ℕ) → length l ≤ length x → overwritten 0 l x ≡ l ++ drop (length l) x
unfolding overwritten
over_front l x h = sets-eq l x 0 (omega arith) ∙ ap (λ (n : ℕ). l ++ drop n x) (zero-add (length l))

-- what a walk asks of a store
puts : (at at' : ℕ) (l x : List ℕ) → at' ≡ at + length l → at' ≤ length x → Puts l at at' x (overwritten at l x)
puts at at' l x e h =
    record {
      low = omega arith;
      same_length = over_length at l x;
      others = outside;
      here = rw e (over_take at l x (omega arith));
    }
  where
    outside : (k : ℕ) → (k < at) ⊎ (at' ≤ k) → get_or (overwritten at l x) k 0 ≡ get_or x k 0
    outside k (inl b) = over_outside at l x k (inl b)
    outside k (inr b) = over_outside at l x k (inr (omega arith))

-- ---- the header, and a run

-- what 32 bits come to, big-endian, is the format's
word_bytes : (n : ℕ) → n / 16777216 % 256 ∷ n / 65536 % 256 ∷ n / 256 % 256 ∷ n % 256 ∷ [] ≡ bytes32 n
word_bytes n = let p : n / 16777216 % 256 ≡ n / 65536 / 256 % 256 = omega arith in rw p

pub stored_word : (at n : ℕ) (b x x' : List ℕ) → b ≡ n / 16777216 % 256 ∷ n / 65536 % 256 ∷ n / 256 % 256 ∷ n % 256 ∷ [] → x' ≡ overwritten at b x
    → x' ≡ overwritten at (bytes32 n) x
stored_word at n b x x' e f = rw (f, e, word_bytes n)

-- the parts of a header stored one behind the other
pub stored_header : (w n : ℕ) (x x₀ x₁ x₂ x₃ : List ℕ) → x₀ ≡ overwritten 0 mark x → x₁ ≡ overwritten 3 (bytes16 1) x₀
    → x₂ ≡ overwritten 5 (bytes16 w) x₁ → x₃ ≡ overwritten 7 (bytes32 n) x₂ → x₃ ≡ overwritten 0 (header_bytes w n) x
unfolding overwritten
stored_header w n x x₀ x₁ x₂ x₃ d e f g = rw (g, f, e, d)

-- a run's two ends, one behind the other
pub stored_run : (at at' p q : ℕ) (x x₁ x₂ : List ℕ) → x₁ ≡ overwritten at (bytes32 p) x → x₂ ≡ overwritten (at + 4) (bytes32 q) x₁ → at' ≡ at + 8 → at' ≤ length x
    → Puts (run_bytes (run p q)) at at' x x₂
stored_run at at' p q x x₁ x₂ e f a h =
    let both : x₂ ≡ overwritten at (bytes32 p ++ bytes32 q) x = rw (f, e) (sym (over_append at (bytes32 p) (bytes32 q) x)) in
    rw both (puts at at' (bytes32 p ++ bytes32 q) x a h)
