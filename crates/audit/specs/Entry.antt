-- The audit's promise. `st` is the storage that it is lent. Assumes nothing.
use Rattle.std.specs.Prelude.{◌≡◌, ◌⊎◌, List, ℕ, length}
use Rattle.positions.specs.Replies.{number, refused}
use Rattle.range_bitset.specs.Answers.{Tested, of_tested, storage_refusal}
use Rattle.range_bitset.specs.declared.RangeBitset.{RangeBitset}
use Rattle.audit.specs.Sound.{Sound}

-- on any memory: refused exactly so, and else 01's yes or no: 1 where head and storage are sound, 0 where they are not
pub record AuditEnsures (h : RangeBitset) (st : List ℕ) (r : Tested) : Type 0 where
  pub refuses : refused (of_tested r) ≡ storage_refusal h (length st)
  pub tells : storage_refusal h (length st) ≡ 0
      → ((of_tested r ≡ number 1) × Sound h st) ⊎ ((of_tested r ≡ number 0) × (Sound h st → ⊥))
