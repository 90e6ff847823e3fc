-- `serve`: the parts read so far are answered, as many as the loop has counted. Assumes nothing.
use Rattle.sheetmark.specs.Answering.{state}
use Rattle.sheetmark.proofs.Program.{ReadSoFar}
use Rattle.sheetmark.proofs.serve.Given as goal

abbrev pub invariant-loop : goal.invariant-loop
invariant-loop g l =
    ReadSoFar (state l.initial.ledger l.initial.storage l.initial.journal) (state l.ledger l.storage l.journal) l.counter l.line.items
