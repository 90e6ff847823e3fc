-- `command_lines::store_kept` meets its contract: the buffer cuts off what it doesn't reach for. Assumes nothing.
use Rattle.command_lines.proofs.Kit.{sym, ap, ◌∙◌, arith, ℕ, ◌-◌, length, take, sets}
use Rattle.std.proofs.lemmas.List.{take_min}
use Rattle.command_lines.proofs.Filling.{sets_out, sets_cut}
use Rattle.command_lines.proofs.store_kept.Goals as goal

pub returns-then-kept-line-clause-stored : goal.returns-then-kept-line-clause-stored
returns-then-kept-line-clause-stored c = sym (sets_out c.args.line.now c.args.kept c.args.part.now c.if-kept-line.true)

pub returns-clause-stored : goal.returns-clause-stored
returns-clause-stored c =
    let l = c.args.line.now in
    let p = c.args.part.now in
    let n : ℕ = length l - c.args.kept in
    c.store.ensures ∙ ap (λ (k : ℕ). sets l c.args.kept (take k p)) c.min-room.ensures ∙ ap (sets l c.args.kept) (take_min n p)
    ∙ sets_cut l c.args.kept n p (omega arith)
