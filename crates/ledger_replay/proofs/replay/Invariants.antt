-- The loop's invariant in `replay`: the calls before `i` are a chain. Assumes nothing.
use Rattle.ledger.specs.Memory.{memory}
use Rattle.ledger_replay.specs.Inner.{Chained}
use Rattle.ledger_replay.proofs.replay.Given as goal

abbrev pub invariant-loop-i : goal.invariant-loop-i
invariant-loop-i l =
    Chained l.i (memory l.fn.start l.fn.storage l.fn.journal) l.calls l.fn.answers l.answers (memory l.head l.storage l.journal)
