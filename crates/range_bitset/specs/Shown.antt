-- The promises of the entries by which crates above read and write a storage: where its numbers stand, and what it says, on any memory and
-- whatever the head's flag. The promises of those crates speak of none of it. Assumes nothing.
use Rattle.std.specs.Prelude.{◌≡◌, ℕ, ◌-◌, ◌*◌, ◌/◌, ◌^◌, List, length, Result, Ok}
use Rattle.answers.specs.Refusals.{refused_by}
use Rattle.answers.specs.declared.Refusal.{Refusal}
use Rattle.range_bitset.specs.Layout.{blocks, words_of, at, nonzero, full, population, top_nonzero, top_full, address}
use Rattle.range_bitset.specs.Read.{state_of}
use Rattle.range_bitset.specs.Represents.{valid}
use Rattle.range_bitset.specs.Answers.{head_refusal, storage_refusal, point_refusal}
use Rattle.range_bitset.specs.declared.RangeBitset.{RangeBitset}
use Rattle.range_bitset.specs.declared.State.{State}
use Rattle.range_bitset.specs.declared.State.TheVariants.{Empty, Mixed, Full}
use Rattle.range_bitset.specs.declared.Parts.{Parts}
use Rattle.range_bitset.specs.declared.Tops.{Tops}
use Rattle.range_bitset.specs.declared.MixedBlock.{MixedBlock}
use Rattle.range_bitset.specs.declared.Block.{Block}
use Rattle.range_bitset.specs.declared.Block.TheVariants as block

-- `k` is the refusal that 01's table asks for, 0 for none: r is that refusal, or x
pub record Shows {A : Type 0} (k : ℕ) (x : A) (r : Result A Refusal) : Type 0 where
  pub refuses : refused_by r ≡ k
  pub shows : k ≡ 0 → r ≡ Ok x

-- where each part of the storage begins: a block's number stands as far behind the first block's as it is behind that block
abbrev pub parts_of : ℕ → Parts
parts_of W =
    record {
      words = W;
      blocks = blocks W;
      nonzero = address W (nonzero 0);
      full = address W (full 0);
      population = address W (population 0);
      top_nonzero = address W top_nonzero;
      top_full = address W top_full;
    }

-- the top masks, and the mask of the blocks that there are
abbrev pub tops_of : ℕ → List ℕ → Tops
tops_of W st = record { nonzero = at W st top_nonzero; full = at W st top_full; valid = 2 ^ blocks W - 1 }

-- the numbers of block b, where it is mixed
abbrev pub mixed_of : ℕ → List ℕ → ℕ → MixedBlock
mixed_of W st b =
    record {
      nonzero = at W st (nonzero b);
      full = at W st (full b);
      valid = valid W b;
      population = at W st (population b);
    }

-- block b in a state: of one that is all set, how many positions it has
abbrev pub block_of : ℕ → List ℕ → ℕ → State → Block
block_of W st b Empty = block.Empty
block_of W st b Mixed = block.Mixed (mixed_of W st b)
block_of W st b Full = block.Full (64 * words_of W b)

-- ---- the entries

abbrev pub PartsEnsures : RangeBitset → Result Parts Refusal → Type 0
PartsEnsures h r = Shows (head_refusal h) (parts_of h.words) r

abbrev pub TopsEnsures : RangeBitset → List ℕ → Result Tops Refusal → Type 0
TopsEnsures h st r = Shows (storage_refusal h (length st)) (tops_of h.words st) r

-- the block of position i
abbrev pub BlockEnsures : RangeBitset → List ℕ → ℕ → Result Block Refusal → Type 0
BlockEnsures h st i r = Shows (point_refusal h (length st) i) (block_of h.words st (i / 4096) (state_of h.words st (i / 4096))) r
