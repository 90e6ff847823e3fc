-- The two forms of a call have one promise: laws on it. Assumes nothing.
use Rattle.std.proofs.Common.{[], ◌∷◌}
use Rattle.positions.specs.Replies.{Reply}
use Rattle.ledger.specs.Machine.{Machine, Call, after}
use Rattle.ledger.specs.Memory.{Memory}
use Rattle.ledger.specs.Entries.{CallEnsures}
use Rattle.ledger.specs.History.{Begun, Chain, none, call, Agrees}
use Rattle.ledger.proofs.Histories.{history}

-- two calls in turn, each of either form, are a chain of two
pub two_calls : (c d : Call) (x y z : Memory) (r s : Reply) → CallEnsures c x r y → CallEnsures d y s z → Chain x (c ∷ d ∷ []) (r ∷ s ∷ []) z
two_calls c d x y z r s p q = call p (call q none)

-- demand 3 of such a chain
pub two_agree : (c d : Call) (x y z : Memory) (r s : Reply) (m : Machine) → Begun x m → CallEnsures c x r y → CallEnsures d y s z
    → Agrees (after m (c ∷ d ∷ [])) (r ∷ s ∷ []) z
two_agree c d x y z r s m start p q = history x m start (c ∷ d ∷ []) (r ∷ s ∷ []) z (two_calls c d x y z r s p q)
