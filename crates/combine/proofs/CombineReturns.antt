-- The returns of the entry: refused by the first test that fails; and accepted, where each side tells the set that its memory represents.
-- Assumes nothing.
use Rattle.combine.proofs.Kit.{◌≡◌, refl, ap, sym, ◌∙◌, subst, Bool, true, false, not, ◌&&◌, cond, true≢false, List, length, ℕ, ◌+◌, ◌*◌, ◌/◌, ◌<◌, ◌≤◌, arith, eqb, ltb, eqb-true, eq-eqb, ne_eqb, lt-ltb, le-ltb}
use Rattle.positions.specs.Positions.{Positions, count}
use Rattle.answers.specs.Refusals.{number_of}
use Rattle.answers.specs.declared.Refusal.{Refusal}
use Rattle.answers.proofs.Numbers.{number_some}
use Rattle.std.proofs.Common.{Result, Ok, Err}
use Rattle.bits.proofs.Words.{mask_ext, mask_none}
use Rattle.range_bitset.specs.Layout.{blocks, SamePast, at, top_nonzero, top_full}
use Rattle.range_bitset.specs.Represents.{any_block, all_block, closed, masked, Stored, Represents, capacity_of}
use Rattle.range_bitset.specs.Answers.{head_refusal, storage_refusal, first_of}
use Rattle.range_bitset.specs.Shown.{parts_of, PartsEnsures}
use Rattle.range_bitset.specs.declared.Parts.{Parts}
use Rattle.range_bitset.specs.declared.RangeBitset.{RangeBitset}
use Rattle.range_bitset.proofs.SetWords.{block_none, none_all_block}
use Rattle.range_bitset.proofs.RefusalChains.{clear}
use Rattle.combine.specs.Rules.{Rule, combined}
use Rattle.combine.specs.Entry.{combine_refusal, CombineEnsures}
use Rattle.combine.specs.Inner.{tops_of, Tells, MakesBlocks}
use Rattle.combine.specs.declared.rule.Masks.{Masks}
use Rattle.combine.specs.declared.source.Source.{Source}
use Rattle.combine.proofs.SettledParts.{same_word}

-- ---- the last two tests, on the word counts and the scratch

module _ (W V q : ℕ) where
  abbrev last : ℕ
  last = first_of (cond (eqb W V) 0 10) (cond (ltb q W) 11 0)

  pub last_10 : (W ≡ V → ⊥) → 10 ≡ last
  last_10 n = rw (ne_eqb W V n) refl

  pub last_11 : W ≡ V → q < W → 11 ≡ last
  last_11 e l = rw (eq-eqb W V e, lt-ltb q W l) refl

  pub last_0 : W ≡ V → W ≤ q → 0 ≡ last
  last_0 e l = rw (eq-eqb W V e, le-ltb q W l) refl

  last_same : last ≡ 0 → W ≡ V
  last_same e = by (eqb W V) refl (clear (cond (eqb W V) 0 10) (cond (ltb q W) 11 0) e).0
    where
      by : (b : Bool) → eqb W V ≡ b → ◌≡◌ {A = ℕ} (cond b 0 10) 0 → W ≡ V
      by true p z = eqb-true W V p
      by false p z = absurd (omega (arith, z))

-- what an accepted call's tests say
pub record Passed (h k : RangeBitset) (n m o : ℕ) : Type 0 where
  pub head : head_refusal h ≡ 0
  pub first : storage_refusal h n ≡ 0
  pub second : storage_refusal k m ≡ 0
  pub third : storage_refusal h o ≡ 0
  pub same : h.words ≡ k.words

pub passed : (h k : RangeBitset) (n m o q : ℕ) → 0 ≡ combine_refusal h k n m o q → Passed h k n m o
unfolding combine_refusal
passed h k n m o q e =
    let a = clear (head_refusal h) _ (sym e) in
    let b = clear (storage_refusal h n) _ (clear (head_refusal k) _ a.1).1 in
    let c = clear (storage_refusal k m) _ b.1 in
    let d = clear (storage_refusal h o) _ c.1 in
    record { head = a.0; first = b.0; second = c.0; third = d.0; same = last_same h.words k.words q d.1 }

-- an accepted head gives the parts of its storage
module _ (h : RangeBitset) (e : head_refusal h ≡ 0) where
  pub parts_are : (a : Parts) → PartsEnsures h (Ok a) → (a.words ≡ h.words) × (a ≡ parts_of a.words)
  parts_are a s =
      let p : a ≡ parts_of h.words = ok_is (s.shows e) in
      let w = ap (λ (b : Parts). b.words) p in
      (w, p ∙ ap parts_of (sym w))
    where
      ok_is : {b : Parts} → ◌≡◌ {A = Result Parts Refusal} (Ok a) (Ok b) → a ≡ b
      ok_is q = cc

  pub parts_given : (k : Refusal) → PartsEnsures h (Err k) → ⊥
  parts_given k s = number_some k (s.refuses ∙ e)

-- ---- accepted

-- a side read as the code reads it tells the set that the memory represents
module _ (x : Source) (h : RangeBitset) (st : List ℕ) (words : x.at.words ≡ h.words) (tops : x.tops ≡ tops_of x.at.words st h.allocated)
    (now : x.storage.now ≡ st) (s : Positions) (t : Represents h st s) where
  abbrev W : ℕ
  W = x.at.words

  top_any : x.tops.nonzero ≡ cond h.allocated (at W st top_nonzero) 0
  top_any = ap (λ (m : Masks). m.nonzero) tops

  top_all : x.tops.full ≡ cond h.allocated (at W st top_full) 0
  top_all = ap (λ (m : Masks). m.full) tops

  begun_tells : h.allocated ≡ true → Tells x s
  begun_tells e =
      let o : Stored W st s = subst (λ (w : ℕ). Stored w st s) (sym words) (t.begun e) in
      record {
        nonzero_is = top_any ∙ ap (λ (b : Bool). cond b (at W st top_nonzero) 0) e ∙ o.top_nonzero_is;
        full_is = top_all ∙ ap (λ (b : Bool). cond b (at W st top_full) 0) e ∙ o.top_full_is;
        nonzeros = λ b l m. rw now (o.nonzeros b l m);
        fulls = λ b l m. rw now (o.fulls b l m);
        stored = λ k l m p q. rw now (o.stored k l m p q);
      }

  fresh_tells : h.allocated ≡ false → Tells x s
  fresh_tells e =
      record {
        nonzero_is = top_any ∙ ap (λ (b : Bool). cond b (at W st top_nonzero) 0) e ∙ sym (mask_ext (blocks W) _ (λ b. false) none ∙ mask_none (blocks W));
        full_is = top_all ∙ ap (λ (b : Bool). cond b (at W st top_full) 0) e
            ∙ sym (mask_ext (blocks W) _ (λ b. false) (λ b l. none_all_block W s b l (none b l)) ∙ mask_none (blocks W));
        nonzeros = λ b l m. absurd (mixed b l m);
        fulls = λ b l m. absurd (mixed b l m);
        stored = λ k l m. absurd (mixed (k / 64) (omega arith) m);
      }
    where
      none : (b : ℕ) → b < blocks W → any_block W s b ≡ false
      none b l = block_none W s b (λ j i. same_word s (64 * b + j) false (λ k u. t.fresh e (64 * (64 * b + j) + k) (omega (arith, words))))

      mixed : (b : ℕ) → b < blocks W → masked W s closed b ≡ true → ⊥
      mixed b l m = true≢false (sym m ∙ ap (λ (z : Bool). z && not (all_block W s b)) (none b l))

  pub tells : Tells x s
  tells = by h.allocated refl
    where
      by : (b : Bool) → h.allocated ≡ b → Tells x s
      by true e = begun_tells e
      by false e = fresh_tells e

pub accepted_returns : (f : Rule) (h : RangeBitset) (st : List ℕ) (k : RangeBitset) (su third scratch third' : List ℕ) (x y : Source) (n : ℕ)
    → 0 ≡ combine_refusal h k (length st) (length su) (length third) (length scratch)
    → x.at.words ≡ h.words → y.at.words ≡ k.words → x.tops ≡ tops_of x.at.words st h.allocated → y.tops ≡ tops_of y.at.words su k.allocated
    → x.storage.now ≡ st → y.storage.now ≡ su → MakesBlocks f x y third third' n
    → CombineEnsures f h st k su third scratch (Ok (record { words = h.words; len = n; allocated = true })) third' scratch
accepted_returns f h st k su third scratch third' x y n e wx wy tx ty nx ny m =
    record {
      refuses = e;
      unchanged = λ z. absurd (z refl);
      begun = λ h' q. (cc, cc);
      same_length = m.same_length;
      third_kept = subst (λ (w : ℕ). SamePast w third third') wx m.storage_kept;
      scratch_kept = refl;
      head = λ z s t hs ht. ap (λ (c : ℕ). Ok (record { words = h.words; len = c; allocated = true })) (counted s t hs ht);
      represents = λ z s t hs ht.
          record {
            fresh = λ b. absurd (true≢false b);
            begun = λ b. subst (λ (w : ℕ). Stored w third' (combined f s t)) wx (m.holds s t (left s hs) (right t ht));
            counted = refl;
          };
    }
  where
    left : (s : Positions) → Represents h st s → Tells x s
    left s hs = tells x h st wx tx nx s hs

    right : (t : Positions) → Represents k su t → Tells y t
    right t ht = tells y k su wy ty ny t ht

    counted : (s t : Positions) → Represents h st s → Represents k su t → n ≡ count (combined f s t) 0 (capacity_of h)
    counted s t hs ht = m.counted s t (left s hs) (right t ht) ∙ ap (λ (w : ℕ). count (combined f s t) 0 (64 * w)) wx
