-- `serve` meets its contract: what each read gave is answered, one law of Program for each way that the loop goes. Assumes nothing.
use Rattle.sheetmark.proofs.Kit.{refl, ◌∙◌, arith, length-take-le}
use Rattle.sheetmark.proofs.Program.{read_none, read_more, read_end, served_whole, served_part}
use Rattle.sheetmark.proofs.serve.Goals as goal

pub loop-init : goal.loop-init
loop-init g c = read_none _ _ c.new-line.ensures

pub returns-then-n-eq0 : goal.returns-then-n-eq0
returns-then-n-eq0 g c =
    served_whole _ _ _ _ refl _ _ _
    (read_end _ _ _ _ _ _ _ _ c.loop.invariant c.answer_read-ledger.ensures (length-take-le _ _ c.read_part-n.ensures ∙ c.if-n-eq0.true))

pub loop-preserved : goal.loop-preserved
loop-preserved g c =
    let o = c.answer_read-ledger.ensures in
    read_more _ _ _ _ _ _ _ _ c.loop.invariant o (omega (arith, length-take-le _ c.read_part-n.new.buffer c.read_part-n.ensures, c.if-n-eq0.false))

pub returns : goal.returns
returns g c = served_part _ _ _ _ refl _ _ _ (omega (arith, c.loop-test.false)) c.loop.invariant
