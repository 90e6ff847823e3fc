-- `command_lines::two_numbers` meets its contract: a text without a space is one field, and one with a space is a pair where both
-- parts are numbers. Assumes nothing.
use Rattle.command_lines.proofs.Kit.{sym, ap, ◌∙◌, arith}
use Rattle.command_lines.specs.Lines.{pair}
use Rattle.command_lines.proofs.Fields.{one_field, pair_split}
use Rattle.command_lines.proofs.two_numbers.Goals as goal

pub returns-in_err-first : goal.returns-in_err-first
returns-in_err-first c = c.from_residual.ensures ∙ sym (ap pair (one_field _ c.in_err-first.ensures))

pub returns-in_err-number : goal.returns-in_err-number
returns-in_err-number c = let p = pair_split c.in_ok-first.ensures in grind arith

pub returns-in_err-number-2 : goal.returns-in_err-number-2
returns-in_err-number-2 c = let p = pair_split c.in_ok-first.ensures in grind arith

pub returns : goal.returns
returns c = let p = pair_split c.in_ok-first.ensures in grind arith
