-- Contracts of the audit's inner functions. No caller sees them, and nothing here need be believed: the promise (Entry) speaks
-- of none of it. Assumes nothing.
use Rattle.std.specs.Prelude.{◌≡◌, Bool, true, false, List, ℕ, ◌+◌, ◌*◌, ◌-◌, ◌<◌, length, get_or, count_ones, Option, Some, None}
use Rattle.std.specs.Int.Bits.{bit_and}
use Rattle.positions.specs.Positions.{count, sum_over}
use Rattle.bits.specs.Bit.{bit}
use Rattle.range_bitset.specs.Layout.{blocks}
use Rattle.range_bitset.specs.Read.{ALL, state_of}
use Rattle.range_bitset.specs.Represents.{block_count}
use Rattle.range_bitset.specs.declared.MixedBlock.{MixedBlock}
use Rattle.range_bitset.specs.declared.State.TheVariants.{Mixed}
use Rattle.audit.specs.Sound.{plain, SoundBlock, SoundStorage}

-- r tells whether P holds
pub record Tells (r : Bool) (P : Type 0) : Type 0 where
  pub yes : r ≡ true → P
  pub no : r ≡ false → P → ⊥

-- r tells whether P holds and, if so, how many positions there are: n
pub record Audits (P : Type 0) (n : ℕ) (r : Option ℕ) : Type 0 where
  pub yes : (k : ℕ) → r ≡ Some k → P × (k ≡ n)
  pub no : r ≡ None → P → ⊥

-- the nonzero and the full mask of the words or blocks `valid`: no bit past those, and full lies within nonzero
pub record SoundMasks (nonzero full valid : ℕ) : Type 0 where
  pub fits : (j : ℕ) → bit nonzero j ≡ true → bit valid j ≡ true
  pub within_nonzero : (j : ℕ) → bit full j ≡ true → bit nonzero j ≡ true

-- the words of block b that m has lie in the storage; they are neither 0 nor all ones
abbrev pub InWords : List ℕ → ℕ → ℕ → Type 0
InWords st b m = (j : ℕ) → bit m j ≡ true → 64 * b + j < length st

abbrev pub SoundWords : List ℕ → ℕ → ℕ → Type 0
SoundWords st b m = (j : ℕ) → bit m j ≡ true → (get_or st (64 * b + j) 0 ≡ 0 → ⊥) × (get_or st (64 * b + j) 0 ≡ ALL → ⊥)

-- how many positions those words have, as they are stored
abbrev pub stored_population : List ℕ → ℕ → ℕ → ℕ
stored_population st b m = sum_over (bit m) (λ j. count_ones (get_or st (64 * b + j) 0)) 0 64

-- of block b, shown as m, the words that are stored, and how many positions all its words have, the full ones by their size
abbrev pub explicit_of : MixedBlock → ℕ
explicit_of m = bit_and m.nonzero (ALL - m.full)

abbrev pub mixed_population : List ℕ → ℕ → MixedBlock → ℕ
mixed_population st b m = count_ones m.full * 64 + stored_population st b (explicit_of m)

-- block b, shown as m, meets the rules: a field for each check
pub record SoundMixed (st : List ℕ) (b : ℕ) (m : MixedBlock) : Type 0 where
  pub masks : SoundMasks m.nonzero m.full m.valid
  pub some : m.nonzero ≡ 0 → ⊥
  pub not_all : m.full ≡ m.valid → ⊥
  pub words : SoundWords st b (explicit_of m)
  pub counted : m.population ≡ mixed_population st b m

-- block b, if it is mixed, meets the rules; and each of the first n blocks
abbrev pub SoundAt : ℕ → List ℕ → ℕ → Type 0
SoundAt W st b = state_of W st b ≡ Mixed → SoundBlock W st b

abbrev pub SoundBlocks : ℕ → List ℕ → ℕ → Type 0
SoundBlocks W st n = (b : ℕ) → b < n → SoundAt W st b

-- ---- the answers on a block's stored words, on a mixed block, on any block, on all blocks, and on the storage

abbrev pub WordsAudited : List ℕ → ℕ → ℕ → ℕ → Option ℕ → Type 0
WordsAudited st b m known r = Audits (SoundWords st b m) (known + stored_population st b m) r

abbrev pub MixedAudited : List ℕ → ℕ → MixedBlock → Option ℕ → Type 0
MixedAudited st b m r = Audits (SoundMixed st b m) (mixed_population st b m) r

abbrev pub BlockAudited : ℕ → List ℕ → ℕ → Option ℕ → Type 0
BlockAudited W st b r = Audits (SoundAt W st b) (block_count W (plain W st) b) r

abbrev pub BlocksAudited : ℕ → List ℕ → Option ℕ → Type 0
BlocksAudited W st r = Audits (SoundBlocks W st (blocks W)) (count (plain W st) 0 (64 * W)) r

abbrev pub StorageAudited : ℕ → List ℕ → Option ℕ → Type 0
StorageAudited W st r = Audits (SoundStorage W st) (count (plain W st) 0 (64 * W)) r
