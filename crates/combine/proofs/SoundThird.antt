-- Two sound sets combined give a sound third, and the audit says so. Assumes nothing.
use Rattle.combine.proofs.Kit.{◌≡◌, ap, sym, ◌∙◌, ◌⊎◌, inl, inr, List, ℕ, length}
use Rattle.positions.specs.Positions.{Positions}
use Rattle.positions.specs.Replies.{number}
use Rattle.answers.specs.Refusals.{refused_by}
use Rattle.std.proofs.Common.{Result, Ok}
use Rattle.answers.specs.declared.Refusal.{Refusal}
use Rattle.range_bitset.specs.Represents.{Represents}
use Rattle.range_bitset.specs.Answers.{Tested, of_tested, storage_refusal}
use Rattle.range_bitset.specs.declared.RangeBitset.{RangeBitset}
use Rattle.range_bitset.proofs.AcceptedHeads.{storage_again}
use Rattle.audit.specs.Sound.{has, Sound}
use Rattle.audit.specs.Entry.{AuditEnsures}
use Rattle.audit.proofs.Soundness.{sound_represents, represents_sound}
use Rattle.combine.specs.Rules.{combined}
use Rattle.combine.specs.Entry.{head_of}
use Rattle.combine.specs.Sound.{CombinedIsSound}
use Rattle.combine.proofs.CombineReturns.{passed}

-- the audit of sound head and storage that it does not refuse
audit_yes : (h : RangeBitset) (st : List ℕ) → storage_refusal h (length st) ≡ 0 → Sound h st → (a : Tested) → AuditEnsures h st a → of_tested a ≡ number 1
audit_yes h st e o a p = by (p.tells e)
  where
    by : ((of_tested a ≡ number 1) × Sound h st) ⊎ ((of_tested a ≡ number 0) × (Sound h st → ⊥)) → of_tested a ≡ number 1
    by (inl q) = q.0
    by (inr q) = absurd (q.1 o)

pub combined_is_sound : CombinedIsSound
combined_is_sound f h st k su third scratch r third' scratch' h' p e ws wu os ou =
    record { sound = sound; audited = audit_yes h' third' taken sound }
  where
    u : Positions
    u = combined f (has h st) (has k su)

    z : refused_by r ≡ 0
    z = ap refused_by e

    hs : Represents h st (has h st)
    hs = sound_represents h st ws os

    ks : Represents k su (has k su)
    ks = sound_represents k su wu ou

    is : h' ≡ head_of h u
    is = ok_is (sym e ∙ p.head z (has h st) (has k su) hs ks)
      where
        ok_is : {a b : RangeBitset} → ◌≡◌ {A = Result RangeBitset Refusal} (Ok a) (Ok b) → a ≡ b
        ok_is q = cc

    holds : Represents h' third' u
    holds = rw is (p.represents z (has h st) (has k su) hs ks)

    sound : Sound h' third'
    sound = represents_sound h' third' u holds

    taken : storage_refusal h' (length third') ≡ 0
    taken =
        storage_again h h' (length third) (length third') third' u (passed h k _ _ _ _ (sym z ∙ p.refuses)).third
        (ap (λ (x : RangeBitset). x.words) is) holds p.same_length
