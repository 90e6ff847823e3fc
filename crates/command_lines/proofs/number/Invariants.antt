-- `command_lines::number`. The invariant: the digits that are read have the value `value`, and what follows goes on from there.
-- Assumes nothing.
use Rattle.command_lines.proofs.Kit.{◌≡◌, ◌<◌, ◌^◌, drop}
use Rattle.command_lines.specs.Lines.{all_digits, value_from, value}
use Rattle.command_lines.proofs.number.Given as goal

abbrev pub invariant-loop-b : goal.invariant-loop-b
invariant-loop-b l = record {
  below : l.value < 10 ^ l.b-index;
  worth : value_from l.value (drop l.b-index l.field) ≡ value l.field;
  digits : all_digits (drop l.b-index l.field) ≡ all_digits l.field;
}
