-- `command_lines::push_line` meets its contract. Assumes nothing.
use Rattle.command_lines.proofs.Kit.{sym}
use Rattle.command_lines.proofs.push_line.Goals as goal

pub returns : goal.returns
returns g c = record { line_after = rw (sym c.split_line.ensures.before) c.keep.ensures; next = c.split_line.ensures.behind }
