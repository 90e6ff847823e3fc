-- `command_lines::parse` meets its contract: a line means what the text before its first space and the text behind it mean. Assumes nothing.
use Rattle.command_lines.proofs.Kit.{sym, ◌∙◌}
use Rattle.command_lines.proofs.Fields.{means_alone, means_with}
use Rattle.command_lines.proofs.parse.Goals as goal

pub returns-in_default : goal.returns-in_default
returns-in_default c = c.lone_command.ensures ∙ sym (means_alone _ c.in_default.ensures)

pub returns-in_err-a : goal.returns-in_err-a
returns-in_err-a c = c.from_residual.ensures ∙ sym (means_with c.in-Some.ensures c.in_err-a.ensures)

pub returns : goal.returns
returns c = c.command_with.ensures ∙ sym (means_with c.in-Some.ensures c.in_ok-a.ensures)
