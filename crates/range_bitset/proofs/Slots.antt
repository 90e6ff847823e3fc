-- What a run of stores leaves at every slot, and what two runs leave: one law each. Two slots of one address are the same
-- slot, by one computation over `kind` and `index`. Assumes nothing.
use Rattle.range_bitset.proofs.Kit.{◌≡◌, refl, ap, ap₂, sym, ◌∙◌, subst, Bool, true, false, ◌&&◌, cond, true≢false, List, [], ◌∷◌, ℕ, zero, suc, ◌+◌, ◌*◌, ◌≤◌, ◌<◌, le_refl, le_trans, le_of_eq, lt_of_lt_of_le, le_ind, arith, eqb, ltb, lt_of_le-ne, length, get_or, drop, length-set, get_or-set_same, get_or-set_other, drop-set-lt, eq-eqb, eqb-true, eqb-false, ltb-true, ltb-false}
use Rattle.std.specs.Prelude.{slice_index, slice_set}
use Rattle.bits.specs.Bit.{bit, put}
use Rattle.range_bitset.specs.Layout.{blocks, needed, SamePast, Slot, word, nonzero, full, population, top_nonzero, top_full, address, at}
use Rattle.range_bitset.specs.Inner.{In, kind, index, same, Store, stores, find, AllIn, write_masks}
use Rattle.positions.proofs.Bools.{and_left, and_right}

-- where the numbers of each kind begin
base : ℕ → ℕ → ℕ
base W zero = 0
base W (suc zero) = W
base W (suc (suc zero)) = W + blocks W
base W (suc (suc (suc zero))) = W + 2 * blocks W
base W (suc (suc (suc (suc zero)))) = W + 3 * blocks W
base W (suc (suc (suc (suc (suc zero))))) = W + 3 * blocks W + 1
base W (suc (suc (suc (suc (suc (suc n)))))) = needed W

climb : (W n : ℕ) → base W n ≤ base W (suc n)
unfolding base
climb W zero = omega arith
climb W (suc zero) = omega arith
climb W (suc (suc zero)) = omega arith
climb W (suc (suc (suc zero))) = omega arith
climb W (suc (suc (suc (suc zero)))) = omega arith
climb W (suc (suc (suc (suc (suc zero))))) = omega arith
climb W (suc (suc (suc (suc (suc (suc n)))))) = omega arith

mono : (W m n : ℕ) → m ≤ n → base W m ≤ base W n
mono W m n h = le_ind (λ (k : ℕ). base W m ≤ base W k) (le_refl (base W m)) (λ k l e. le_trans e (climb W k)) n h

-- a slot lies in the part of its kind
from_base : (W : ℕ) (s : Slot) → address W s ≡ base W (kind s) + index s
unfolding base
from_base W (word k) = omega arith
from_base W (nonzero b) = omega arith
from_base W (full b) = omega arith
from_base W (population b) = omega arith
from_base W top_nonzero = omega arith
from_base W top_full = omega arith

below_next : (W : ℕ) (s : Slot) → In W s → address W s < base W (suc (kind s))
unfolding base
below_next W (word k) i = omega arith
below_next W (nonzero b) i = omega arith
below_next W (full b) i = omega arith
below_next W (population b) i = omega arith
below_next W top_nonzero i = omega arith
below_next W top_full i = omega arith

kind_small : (s : Slot) → kind s < 6
kind_small (word k) = omega arith
kind_small (nonzero b) = omega arith
kind_small (full b) = omega arith
kind_small (population b) = omega arith
kind_small top_nonzero = omega arith
kind_small top_full = omega arith

pub in_needed : (W : ℕ) (s : Slot) → In W s → address W s < needed W
unfolding base
in_needed W s i = lt_of_lt_of_le (below_next W s i) (mono W (suc (kind s)) 6 (kind_small s))

apart : (W : ℕ) (s t : Slot) → In W s → kind s < kind t → address W s < address W t
apart W s t i h =
    let m = mono W (suc (kind s)) (kind t) h in
    omega (arith, below_next W s i, from_base W t)

same_true : (s t : Slot) (W : ℕ) → same s t ≡ true → address W s ≡ address W t
same_true s t W e =
    let k : kind s ≡ kind t = eqb-true _ _ (and_left (eqb (kind s) (kind t)) _ e) in
    let n : index s ≡ index t = eqb-true _ _ (and_right (eqb (kind s) (kind t)) _ e) in
    from_base W s ∙ ap (λ (x : ℕ). base W x + index s) k ∙ ap (λ (x : ℕ). base W (kind t) + x) n ∙ sym (from_base W t)

same_false : (W : ℕ) (s t : Slot) → In W s → In W t → same s t ≡ false → address W s ≡ address W t → ⊥
same_false W s t i j e a = by (eqb (kind s) (kind t)) refl
  where
    by : (k : Bool) → eqb (kind s) (kind t) ≡ k → ⊥
    by true k =
        let q : kind s ≡ kind t = eqb-true _ _ k in
        let n : index s ≡ index t = omega (arith, from_base W s, from_base W t, ap (base W) q) in
        true≢false (sym (ap (λ (x : Bool). x && eqb (index s) (index t)) k ∙ eq-eqb _ _ n) ∙ e)
    by false k = order (ltb (kind s) (kind t)) refl
      where
        order : (l : Bool) → ltb (kind s) (kind t) ≡ l → ⊥
        order true l = omega (arith, apart W s t i (ltb-true _ _ l))
        order false l = omega (arith, apart W t s j (lt_of_le-ne (ltb-false _ _ l) (λ q. eqb-false _ _ k (sym q))))

stores_long : (W : ℕ) (st : List ℕ) (us : List Store) → length (stores W st us) ≡ length st
stores_long W st [] = refl
stores_long W st (u ∷ us) = length-set (stores W st us) (address W u.slot) u.value ∙ stores_long W st us

module _ (W : ℕ) (st : List ℕ) (long : needed W ≤ length st) where
  -- the one law
  pub stores_at : (us : List Store) → AllIn W us → (t : Slot) → In W t → at W (stores W st us) t ≡ find us t (at W st t)
  stores_at [] a t i = refl
  stores_at (u ∷ us) a t i = by (stores_at us a.1 t i) (same t u.slot) refl
    where
      by : at W (stores W st us) t ≡ find us t (at W st t) → (b : Bool) → same t u.slot ≡ b → at W (stores W st (u ∷ us)) t ≡ cond b u.value (find us t (at W st t))
      by r true e =
          ap (λ (x : ℕ). get_or (stores W st (u ∷ us)) x 0) (same_true t u.slot W e)
          ∙ get_or-set_same (stores W st us) (address W u.slot) u.value 0
          (lt_of_lt_of_le (in_needed W u.slot a.0) (le_trans long (le_of_eq (sym (stores_long W st us)))))
      by r false e =
          get_or-set_other (stores W st us) (address W u.slot) (address W t) u.value 0 (same_false W t u.slot i a.0 e)
          ∙ r

  stores_kept : (us : List Store) → AllIn W us → drop (needed W) (stores W st us) ≡ drop (needed W) st
  stores_kept [] a = refl
  stores_kept (u ∷ us) a = drop-set-lt (needed W) (stores W st us) (address W u.slot) u.value (in_needed W u.slot a.0) ∙ stores_kept us a.1

  -- the same of a storage that is what the run leaves
  module _ (us : List Store) (a : AllIn W us) {st' : List ℕ} (e : st' ≡ stores W st us) where
    leaves_long : needed W ≤ length st'
    leaves_long = let q = ap length e ∙ stores_long W st us in omega arith

    pub leaves_at : (t : Slot) → In W t → at W st' t ≡ find us t (at W st t)
    leaves_at t i = ap (λ (x : List ℕ). at W x t) e ∙ stores_at us a t i

    pub leaves_kept : drop (needed W) st' ≡ drop (needed W) st
    leaves_kept = ap (drop (needed W)) e ∙ stores_kept us a

-- two runs, the second on what the first leaves
module _ (W : ℕ) (st : List ℕ) (long : needed W ≤ length st) (us vs : List Store) (a : AllIn W us) (b : AllIn W vs) {st₂ st₃ : List ℕ}
    (e₂ : st₂ ≡ stores W st us) (e₃ : st₃ ≡ stores W st₂ vs) where
  pub twice_at : (t : Slot) → In W t → at W st₃ t ≡ find vs t (find us t (at W st t))
  twice_at t i = leaves_at W st₂ (leaves_long W st long us a e₂) vs b e₃ t i ∙ ap (find vs t) (leaves_at W st long us a e₂ t i)

  pub twice_kept : drop (needed W) st₃ ≡ drop (needed W) st
  twice_kept = leaves_kept W st₂ (leaves_long W st long us a e₂) vs b e₃ ∙ leaves_kept W st long us a e₂

-- the number at a slot, and a bit of it, from what the slot's function, `has_bit` and the branch say
pub read_bit : (st : List ℕ) (i : ℕ) {a a' : ℕ} {r v : Bool} → a ≡ a' → r ≡ bit (get_or st a 0) i → r ≡ v → bit (get_or st a' 0) i ≡ v
read_bit st i p q e = ap (λ (x : ℕ). bit (get_or st x 0) i) (sym p) ∙ sym q ∙ e

pub read_at_lem : (st : List ℕ) {a a' : ℕ} {v : ℕ} → a ≡ a' → get_or st a 0 ≡ v → get_or st a' 0 ≡ v
read_at_lem st p e = ap (λ (x : ℕ). get_or st x 0) (sym p) ∙ e

-- the same word count needs the same numbers
pub past_same : {W W' : ℕ} (st st' : List ℕ) → W' ≡ W → SamePast W st st' → SamePast W' st st'
past_same st st' e k = subst (λ (w : ℕ). SamePast w st st') (sym e) k

-- two slots written at their addresses
pub masks_at : (W : ℕ) (st : List ℕ) (n f : Slot) (m : ℕ) (v : Bool) {i j : ℕ} {st' : List ℕ} → i ≡ address W n → j ≡ address W f
    → st' ≡ slice_set (slice_set st i (put 64 (slice_index st i) m v)) j (put 64 (slice_index st j) m v) → st' ≡ stores W st (write_masks W st n f m v)
masks_at W st n f m v e k h =
    h ∙ ap₂ (λ (x y : ℕ). slice_set (slice_set st x (put 64 (slice_index st x) m v)) y (put 64 (slice_index st y) m v)) e k
