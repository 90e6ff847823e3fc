-- A storage begun holds the empty set, whatever stood there. Assumes nothing.
use Rattle.range_bitset.proofs.Kit.{◌≡◌, ap, sym, ◌∙◌, subst, Bool, true, false, not, ◌&&◌, false≢true, List, ℕ, ◌+◌, ◌*◌, ◌/◌, ◌<◌, arith}
use Rattle.positions.specs.Positions.{Positions}
use Rattle.bits.proofs.Words.{mask_ext, mask_none}
use Rattle.range_bitset.specs.Layout.{blocks, at, top_nonzero, top_full, Slot}
use Rattle.range_bitset.specs.Represents.{word_of, any_block, all_block, closed, masked, Stored}
use Rattle.range_bitset.specs.Inner.{Room, In, stores, find, beginning, Begins}
use Rattle.range_bitset.proofs.Slots.{stores_at, leaves_kept}
use Rattle.range_bitset.proofs.SetWords.{block_none, none_all_block}

module _ (W : ℕ) (st : List ℕ) (room : Room W st) (s : Positions) (clear : (i : ℕ) → i < 64 * W → s i ≡ false) where
  word_clear : (k : ℕ) → k < W → word_of s k ≡ 0
  unfolding word_of
  word_clear k h = mask_ext 64 _ (λ i. false) (λ i l. clear (64 * k + i) (omega arith)) ∙ mask_none 64

  none_any : (b : ℕ) → b < blocks W → any_block W s b ≡ false
  none_any b l = block_none W s b (λ j h. word_clear (64 * b + j) (omega arith))

  never : (b : ℕ) → b < blocks W → masked W s closed b ≡ true → ⊥
  never b l m = false≢true (ap (λ (x : Bool). x && not (all_block W s b)) (sym (none_any b l)) ∙ m)

  begin_clear : Stored W (stores W st beginning) s
  begin_clear =
      record {
        top_nonzero_is =
            now top_nonzero (omega arith) ∙ sym (mask_none (blocks W)) ∙ mask_ext (blocks W) _ _ (λ c k. sym (none_any c k));
        top_full_is =
            now top_full (omega arith) ∙ sym (mask_none (blocks W)) ∙ mask_ext (blocks W) _ _ (λ c k. sym (none_all_block W s c k (none_any c k)));
        nonzeros = λ c k m. absurd (never c k m);
        fulls = λ c k m. absurd (never c k m);
        counts = λ c k m. absurd (never c k m);
        stored = λ k h m. absurd (never (k / 64) (omega arith) m);
      }
    where
      now : (t : Slot) → In W t → at W (stores W st beginning) t ≡ find beginning t (at W st t)
      now t i = stores_at W st room.long beginning (omega arith) t i

-- ---- the contract of `ensure_storage`

module _ (W : ℕ) (begun : Bool) (st st' : List ℕ) where
  pub begins_fresh : Room W st → begun ≡ false → st' ≡ stores W st beginning → Begins W begun st st'
  begins_fresh room f e =
      record {
        storage_kept = leaves_kept W st room.long beginning (omega arith) e;
        holds = λ s p q. subst (λ (x : List ℕ). Stored W x s) (sym e) (begin_clear W st room s (q f));
      }

-- the same of a storage that is the same
pub begins_to : (W : ℕ) (begun : Bool) (st : List ℕ) {st₁ st₂ : List ℕ} → st₂ ≡ st₁ → Begins W begun st st₁ → Begins W begun st st₂
begins_to W begun st e b = subst (λ (x : List ℕ). Begins W begun st x) (sym e) b
