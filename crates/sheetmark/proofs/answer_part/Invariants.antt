-- `answer_part`. The invariant: what is before `rest` is answered, with at most 12 bytes of output for each byte of it. The
-- measure: what is left of the text. Assumes nothing.
use Rattle.sheetmark.proofs.Kit.{List, ℕ, ◌+◌, ◌*◌, ◌≤◌, length}
use Rattle.sheetmark.specs.Answering.{state, Kept}
use Rattle.sheetmark.proofs.Answering.{SoFar}
use Rattle.sheetmark.proofs.answer_part.Given as goal

abbrev pub invariant-loop-next : goal.invariant-loop-next
invariant-loop-next l = record {
  room : length l.out.items + 12 * length l.rest ≤ 12 * length l.text;
  so_far : (m : List ℕ) → Kept l.initial.line.items m
      → SoFar l.text m l.rest (state l.initial.current l.initial.storage l.initial.journal) (state l.current l.storage l.journal) l.out.items l.line.items;
}

abbrev pub decreases-loop-next : goal.decreases-loop-next
decreases-loop-next l = length l.rest
