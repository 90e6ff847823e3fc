-- `command_lines::split_line` meets its contract, by where the first newline is. Assumes nothing.
use Rattle.command_lines.proofs.Gathering.{splits_none, splits_part}
use Rattle.command_lines.proofs.split_line.Goals as goal

pub returns-in-Some : goal.returns-in-Some
returns-in-Some c = splits_part c.in-Some.ensures

pub returns-in-None : goal.returns-in-None
returns-in-None c = splits_none c.in-None.ensures
