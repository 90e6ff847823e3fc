-- A range in three pieces, as `assign_units` and `count_units` cut it: the low end, then the high end, then what lies between; and
-- what is assigned by pieces. Assumes nothing.
use Rattle.range_bitset.proofs.Kit.{◌≡◌, refl, sym, ◌∙◌, subst, Bool, List, ℕ, ◌+◌, ◌*◌, ◌%◌, ◌^◌, ◌≤◌, ◌<◌, mul-le-mul_left, arith}
use Rattle.positions.proofs.Assigned.{assigned_empty, changed_empty, changed_le, assigned_pieces, changed_pieces}
use Rattle.range_bitset.specs.Represents.{Stored}
use Rattle.range_bitset.specs.Inner.{Assigns}

-- ---- the pieces at the two ends, where the ways through the code meet

-- the low end: the units from a up to the first whole part, f; n for them
pub record LowEnd (a f n : ℕ) (Done : Type 0) : Type 0 where
  pub low : a ≤ 64 * f
  pub near : 64 * f < a + 64
  pub fits : n < 2 ^ 32
  pub done : Done

-- the high end: those from part t, where the last whole one ends, up to e; `more` for them
pub record HighEnd (t e n n' : ℕ) (Done : ℕ → Type 0) : Type 0 where
  pub more : ℕ
  pub high : 64 * t ≤ e
  pub near : e < 64 * t + 64
  pub sum : n' ≡ (n + more) % 2 ^ 32
  pub done : Done more

-- ---- what is assigned

-- the same, with the ends as the caller has them
pub assigns_at : (W : ℕ) (v : Bool) (st st' : List ℕ) (n : ℕ) {a a' e e' : ℕ} → a ≡ a' → e ≡ e' → Assigns W a e v st st' n → Assigns W a' e' v st st' n
assigns_at W v st st' n {a} {a'} {e} p q t = subst (λ (x : ℕ). Assigns W a' x v st st' n) q (subst (λ (x : ℕ). Assigns W x e v st st' n) p t)

-- the same of a storage that is the same
pub assigns_held : (W a e : ℕ) (v : Bool) (st : List ℕ) (n : ℕ) {st₁ st₂ : List ℕ} → st₂ ≡ st₁ → Assigns W a e v st st₁ n → Assigns W a e v st st₂ n
assigns_held W a e v st n s t = subst (λ (x : List ℕ). Assigns W a e v st x n) (sym s) t

-- an empty range
assigns_none : (W a e : ℕ) (v : Bool) (st : List ℕ) → e ≤ a → Assigns W a e v st st 0
assigns_none W a e v st h =
    record {
      storage_kept = refl;
      holds = λ s r. subst (Stored W st) (sym (assigned_empty s a e v h)) r;
      changed = λ s r. sym (changed_empty s a e v h);
    }

-- three pieces: the sum of the changed counts in 32 bits
assigns_pieces : (W a b c e : ℕ) (v : Bool) (st st₁ st₂ st₃ : List ℕ) (n₁ n₂ n₃ n : ℕ) → a ≤ b → b ≤ c → c ≤ e → e ≤ 262144
    → Assigns W a b v st st₁ n₁ → Assigns W c e v st₁ st₂ n₂ → Assigns W b c v st₂ st₃ n₃ → n ≡ ((n₁ + n₂) % 2 ^ 32 + n₃) % 2 ^ 32
    → Assigns W a e v st st₃ n
assigns_pieces W a b c e v st st₁ st₂ st₃ n₁ n₂ n₃ n h k l m x y z q =
    record {
      storage_kept = z.storage_kept ∙ y.storage_kept ∙ x.storage_kept;
      holds = λ s r. subst (Stored W st₃) (assigned_pieces s a b c e v h k l) (z.holds _ (y.holds _ (x.holds s r)));
      changed = λ s r.
          let p = x.changed s r in
          let o = y.changed _ (x.holds s r) in
          let i = z.changed _ (y.holds _ (x.holds s r)) in
          omega (arith, p, o, i, q, changed_pieces s a b c e v h k l, changed_le s a e v);
    }

-- the same in units of u positions
module _ (W u : ℕ) (v : Bool) where
  pub assigns_no_units : (a e : ℕ) (st : List ℕ) → e ≤ a → Assigns W (u * a) (u * e) v st st 0
  assigns_no_units a e st h = assigns_none W (u * a) (u * e) v st (mul-le-mul_left u h)

  pub assigns_units : (a b c e : ℕ) (st st₁ st₂ st₃ : List ℕ) (n₁ n₂ n₃ n : ℕ) → a ≤ b → b ≤ c → c ≤ e → u * e ≤ 64 * W → W ≤ 4096
      → Assigns W (u * a) (u * b) v st st₁ n₁ → Assigns W (u * c) (u * e) v st₁ st₂ n₂ → Assigns W (u * b) (u * c) v st₂ st₃ n₃ → n ≡ ((n₁ + n₂) % 2 ^ 32 + n₃) % 2 ^ 32
      → Assigns W (u * a) (u * e) v st st₃ n
  assigns_units a b c e st st₁ st₂ st₃ n₁ n₂ n₃ n h k l m o =
      assigns_pieces W _ _ _ _ v st st₁ st₂ st₃ n₁ n₂ n₃ n (mul-le-mul_left u h) (mul-le-mul_left u k) (mul-le-mul_left u l) (omega arith)
