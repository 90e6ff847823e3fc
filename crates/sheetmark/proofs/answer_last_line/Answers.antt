-- `answer_last_line` meets its contract. Assumes nothing.
use Rattle.sheetmark.proofs.Kit.{sym, eqb-true, eqb-false}
use Rattle.sheetmark.proofs.Answering.{end_none, end_line}
use Rattle.sheetmark.proofs.answer_last_line.Goals as goal

pub returns-then-is_empty : goal.returns-then-is_empty
returns-then-is_empty c = λ l h. end_none h (eqb-true _ _ (sym c.if-is_empty.ensures)) c.requires

pub returns : goal.returns
returns c = λ l h. end_line h (eqb-false _ _ (sym c.if-is_empty.ensures)) (c.answer_part.ensures l h)
