-- The returns of the audit over the blocks and over a storage: what each tells, from what the code has there. Assumes nothing.
use Rattle.audit.proofs.Kit.{◌≡◌, refl, ap, sym, ◌∙◌, subst, Bool, true, false, List, ℕ, ◌+◌, ◌*◌, ◌/◌, ◌≤◌, ◌<◌, min, dec_lt, arith, length}
use Rattle.positions.specs.Positions.{Positions, count}
use Rattle.positions.proofs.Counts.{count_split, count_empty, count_le}
use Rattle.range_bitset.specs.Layout.{blocks, words_of}
use Rattle.range_bitset.specs.Read.{state_of}
use Rattle.range_bitset.specs.Represents.{block_count}
use Rattle.audit.specs.Sound.{SoundStorage, Words}
use Rattle.range_bitset.specs.Answers.{storage_refusal, point_refusal}
use Rattle.range_bitset.specs.Shown.{tops_of, mixed_of, block_of, TopsEnsures, BlockEnsures}
use Rattle.audit.specs.Inner.{Tells, MixedAudited, BlockAudited, BlocksAudited, StorageAudited, SoundMasks, InWords, SoundAt, SoundBlocks}
use Rattle.range_bitset.specs.declared.RangeBitset.{RangeBitset}
use Rattle.range_bitset.specs.declared.MixedBlock.{MixedBlock}
use Rattle.range_bitset.specs.declared.State.TheVariants.{Mixed}
use Rattle.std.proofs.Common.{Option, Some, Ok, Err}
use Rattle.answers.specs.declared.Refusal.{Refusal}
use Rattle.answers.proofs.Numbers.{number_some}
use Rattle.range_bitset.specs.declared.Tops.{Tops}
use Rattle.range_bitset.specs.declared.Block.{Block}
use Rattle.range_bitset.specs.declared.Block.TheVariants as block
use Rattle.range_bitset.proofs.AcceptedHeads.{accepted, point_accepts}
use Rattle.audit.proofs.AuditBlocks.{sound_with, audits_as, masks_fit, fit_masks, mixed_counted, empty_counted, full_counted, words_in, shown_sound, sound_shown, shown_empty, shown_full, shown_mixed}

-- ---- the blocks, and the storage

module _ (W : ℕ) (st : List ℕ) where
  pub blocks_first : SoundBlocks W st 0
  blocks_first b h = absurd (omega arith)

  pub blocks_next : (b : ℕ) → SoundBlocks W st b → SoundAt W st b → SoundBlocks W st (b + 1)
  blocks_next b f g c h = by (dec_lt c b)
    where
      by : Dec (c < b) → SoundAt W st c
      by (yes p) = f c p
      by (no p) = let e : b ≡ c = omega arith in subst (SoundAt W st) e g

-- what is shown of the top masks, and then the blocks, tell whether the storage is sound
module _ (h : RangeBitset) (st : List ℕ) (e : storage_refusal h (length st) ≡ 0) where
  tops_are : (m : Tops) → TopsEnsures h st (Ok m) → m ≡ tops_of h.words st
  tops_are m s = let p = s.shows e in cc

  pub tops_stop : {q : Bool} (m : Tops) → TopsEnsures h st (Ok m) → Tells q (SoundMasks m.nonzero m.full m.valid) → q ≡ false → SoundStorage h.words st → ⊥
  tops_stop m p t f z =
      let o = fit_masks (blocks h.words) _ _ z.top_nonzero_fits z.top_within in
      t.no f (subst (λ (x : Tops). SoundMasks x.nonzero x.full x.valid) (sym (tops_are m p)) o)

  pub storage_told : {q : Bool} {v : Option ℕ} (m : Tops) → Words st → TopsEnsures h st (Ok m) → Tells q (SoundMasks m.nonzero m.full m.valid) → q ≡ true
      → BlocksAudited h.words st v → StorageAudited h.words st v
  storage_told m u p t f v =
      let o = subst (λ (x : Tops). SoundMasks x.nonzero x.full x.valid) (tops_are m p) (t.yes f) in
      let fits = masks_fit (blocks h.words) _ _ (u _) (u _) o in
      audits_as v
      (λ g. (record { top_nonzero_fits = fits.0; top_full_fits = fits.1; top_within = o.within_nonzero; block = g }, refl))
      (λ z. z.block)

-- an accepted head and a block of it: its first position is accepted
pub block_accepted : (h : RangeBitset) (n b : ℕ) → storage_refusal h n ≡ 0 → b < blocks h.words → point_refusal h n (4096 * b) ≡ 0
block_accepted h n b e l = point_accepts h n (4096 * b) e (omega arith)

-- what is shown of a block tells whether it meets 01's rules, and how many positions it has
module _ (h : RangeBitset) (st : List ℕ) (b : ℕ) (e : storage_refusal h (length st) ≡ 0) (l : b < blocks h.words) where
  shown_as : (r : Block) → BlockEnsures h st (4096 * b) (Ok r) → r ≡ block_of h.words st b (state_of h.words st b)
  shown_as r s =
      let i : 4096 * b / 4096 ≡ b = omega arith in
      let p = s.shows (block_accepted h (length st) b e l) in
      let q : r ≡ block_of h.words st (4096 * b / 4096) (state_of h.words st (4096 * b / 4096)) = cc in
      q ∙ ap (λ (x : ℕ). block_of h.words st x (state_of h.words st x)) i

  pub empty_told : BlockEnsures h st (4096 * b) (Ok block.Empty) → BlockAudited h.words st b (Some 0)
  empty_told s =
      let x = shown_empty h.words st b (state_of h.words st b) (shown_as _ s) in
      sound_with (λ m. cc) (sym (empty_counted h.words st b x))

  pub full_told : (n : ℕ) → BlockEnsures h st (4096 * b) (Ok (block.Full n)) → BlockAudited h.words st b (Some n)
  full_told n s =
      let x = shown_full h.words st b n (state_of h.words st b) (shown_as _ s) in
      sound_with (λ m. cc) (x.1 ∙ sym (full_counted h.words st b x.0))

  pub block_not_refused : (k : Refusal) → BlockEnsures h st (4096 * b) (Err k) → ⊥
  block_not_refused k s = number_some k (s.refuses ∙ block_accepted h (length st) b e l)

  module _ (m : MixedBlock) (s : BlockEnsures h st (4096 * b) (Ok (block.Mixed m))) where
    shown_of : (state_of h.words st b ≡ Mixed) × (m ≡ mixed_of h.words st b)
    shown_of = shown_mixed h.words st b m (state_of h.words st b) (shown_as _ s)

    pub block_words : InWords st b m.valid
    block_words = subst (λ (x : MixedBlock). InWords st b x.valid) (sym shown_of.1) (words_in h.words st b (accepted h st e) l)

    pub mixed_block_told : {q : Option ℕ} → Words st → MixedAudited st b m q → BlockAudited h.words st b q
    mixed_block_told {q} u t =
        audits_as (subst (λ (x : MixedBlock). MixedAudited st b x q) shown_of.1 t)
        (λ o. (λ x. shown_sound h.words st b u x o, mixed_counted h.words st b u shown_of.0 o.masks))
        (λ o. sound_shown h.words st b u shown_of.0 (o shown_of.0))

-- ---- the whole population

-- where the first b blocks end
abbrev pub reach : ℕ → ℕ → ℕ
reach W b = min (4096 * b) (64 * W)

pub reach_first : (W : ℕ) (s : Positions) → 0 ≡ count s 0 (reach W 0)
reach_first W s = sym (count_empty s 0 (reach W 0) (omega arith))

pub reach_next : (W : ℕ) (s : Positions) (b : ℕ) → b < blocks W → count s 0 (reach W b) + block_count W s b ≡ count s 0 (reach W (b + 1))
unfolding block_count
reach_next W s b h =
    let e : reach W b ≡ 4096 * b = omega arith in
    let f : reach W (b + 1) ≡ 4096 * b + 64 * words_of W b = omega arith in
    ap (λ (x : ℕ). count s 0 x + count s (4096 * b) (4096 * b + 64 * words_of W b)) e
    ∙ sym (count_split s 0 (4096 * b) (4096 * b + 64 * words_of W b) (omega arith) (omega arith))
    ∙ ap (count s 0) (sym f)

pub reach_most : (W : ℕ) (s : Positions) (b : ℕ) → count s 0 (reach W b) ≤ 64 * W
reach_most W s b = omega (arith, count_le s 0 (reach W b))
