-- Sound sets give a sound third: a theorem over the promises of the combination and of the audit (proofs/SoundThird). Assumes nothing.
use Rattle.std.specs.Prelude.{◌≡◌, List, ℕ, Ok}
use Rattle.positions.specs.Replies.{number}
use Rattle.range_bitset.specs.Answers.{Made, Tested, of_tested}
use Rattle.range_bitset.specs.declared.RangeBitset.{RangeBitset}
use Rattle.audit.specs.Sound.{Words, Sound}
use Rattle.audit.specs.Entry.{AuditEnsures}
use Rattle.combine.specs.Rules.{Rule}
use Rattle.combine.specs.Entry.{CombineEnsures}

-- two sound sets are combined and the call is accepted: whatever the third storage held, it is sound with the head h' that is answered, and the
-- audit of the two says yes. `Words` is what the type of a storage says: each number is one of 64 bits
pub record SoundThird (h' : RangeBitset) (third' : List ℕ) : Type 0 where
  pub sound : Sound h' third'
  pub audited : (a : Tested) → AuditEnsures h' third' a → of_tested a ≡ number 1

abbrev pub CombinedIsSound : Type 0
CombinedIsSound =
    (f : Rule) (h : RangeBitset) (st : List ℕ) (k : RangeBitset) (su third scratch : List ℕ) (r : Made) (third' scratch' : List ℕ) (h' : RangeBitset)
    → CombineEnsures f h st k su third scratch r third' scratch' → r ≡ Ok h' → Words st → Words su → Sound h st → Sound k su
    → SoundThird h' third'
