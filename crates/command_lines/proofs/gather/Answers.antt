-- `command_lines::gather` meets its contract where it goes on from behind the text: there is nothing to read. Assumes nothing.
use Rattle.command_lines.proofs.Kit.{arith}
use Rattle.command_lines.proofs.Gathering.{gathers_nothing}
use Rattle.command_lines.proofs.gather.Goals as goal

pub returns-in_default : goal.returns-in_default
returns-in_default c = gathers_nothing c.args.text.now c.args.from c.args.line.now c.args.kept (omega (arith, c.in_default.ensures.lookup))
