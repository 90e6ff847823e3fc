-- Laws of `replay`: one call more, and what the chain of all comes to. Assumes nothing.
use Rattle.std.proofs.Common.{◌≡◌, sym, ◌∙◌, ap, List, [], ◌∷◌, ◌++◌, ℕ, ◌+◌, ◌<◌, min, arith, add-one, length, get_or, drop, set}
use Rattle.std.proofs.Math.Seq.{take-suc, take-suc-set}
use Rattle.std.proofs.lemmas.List.{map-append, drop-set-lt, drop-drop}
use Rattle.positions.specs.Replies.{Reply}
use Rattle.range_bitset.specs.Answers.{Counted, of_counted}
use Rattle.ledger.specs.Machine.{Machine}
use Rattle.ledger.specs.Machine as machine
use Rattle.ledger.specs.Memory.{Memory}
use Rattle.ledger.specs.Entries.{CallEnsures}
use Rattle.ledger.specs.History.{Begun, Chain, none, call}
use Rattle.ledger.proofs.Histories.{history}
use Rattle.ledger_replay.specs.Replay.{meant, calls_to, replies_to, RanAll}
use Rattle.ledger_replay.specs.Inner.{Chained}
use Rattle.ledger_replay.specs.declared.Call.{Call}

chain_then : {x y z : Memory} {c : machine.Call} {r : Reply} {cs : List machine.Call} {rs : List Reply} → Chain x cs rs y → CallEnsures c y r z
    → Chain x (cs ++ c ∷ []) (rs ++ r ∷ []) z
chain_then none k = call k none
chain_then (call h t) k = call h (chain_then t k)

pub chained_more : {i : ℕ} {start x y : Memory} {cs : List Call} {answers answers' : List Counted} (c : Call) (r : Counted)
    → Chained i start cs answers answers' x → i < length cs → i < length answers' → CallEnsures (meant (get_or cs i c)) x (of_counted r) y
    → Chained (i + 1) start cs answers (set answers' i r) y
chained_more {i = i} {cs = cs} {answers = answers} {answers' = answers'} c r k few room h =
    record {
      others = drop-set-lt (i + 1) answers' i r (omega arith) ∙ sym (drop-drop 1 i answers') ∙ ap (drop 1) k.others ∙ drop-drop 1 i answers;
      chain = rw (add-one i, take-suc cs i c few, take-suc-set answers' i r room, map-append meant, map-append of_counted) (chain_then k.chain h);
    }

-- what new or open has just given, and the chain of the calls
pub ran_all : {Given : Memory → Type 0} {m : Machine} {start end : Memory} {cs : List Call} {answers answers' : List Counted} {n : ℕ}
    → Given start → Begun start m → n ≡ min (length cs) (length answers) → Chained n start cs answers answers' end
    → RanAll Given m cs answers n answers' end
ran_all {m = m} {start = start} {end = end} {cs = cs} {answers' = answers'} {n = n} given begun all k =
    record {
      all = all;
      others = k.others;
      start = start;
      given = given;
      chain = k.chain;
      agrees = history start m begun (calls_to cs n) (replies_to answers' n) end k.chain;
    }
