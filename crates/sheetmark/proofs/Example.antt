-- 01's example of `sheetmark`: its input lines, and what the plain program prints for them, computed. Assumes nothing.
use Rattle.sheetmark.proofs.Kit.{◌≡◌, refl, List, [], ◌∷◌, ℕ, ones}
use Rattle.positions.specs.Positions.{assigned, total, sum_over, count_from, count, first_from, first, changed_count}
use Rattle.positions.specs.Runs.{runs_from, runs, changed_runs}
use Rattle.range_bitset.specs.Layout.{allowed}
use Rattle.range_bitset.specs.Answers.{allowed_capacity}
use Rattle.ledger.specs.Machine.{set_of, population, need_of, standing_call, used, range_verdict, step}
use Rattle.command_lines.specs.Lines.{fields}
use Rattle.command_lines.specs.Answers.{digits_within, digits}
use Rattle.command_lines.specs.Input.{lines_from}
use Rattle.sheetmark.specs.Program.{output_for}

-- `new 128 20`, `mark 10 70`, `clear 20 30`, `mark 0 128`, `zero 0 128`, `count 64 128`, `back`, `one 0 128`, `zero 10 128`,
-- `count 0 128`, `back`, `back`, `back`
abbrev pub input : List ℕ
input =
    110 ∷ 101 ∷ 119 ∷ 32 ∷ 49 ∷ 50 ∷ 56 ∷ 32 ∷ 50 ∷ 48 ∷ 10 ∷
    109 ∷ 97 ∷ 114 ∷ 107 ∷ 32 ∷ 49 ∷ 48 ∷ 32 ∷ 55 ∷ 48 ∷ 10 ∷
    99 ∷ 108 ∷ 101 ∷ 97 ∷ 114 ∷ 32 ∷ 50 ∷ 48 ∷ 32 ∷ 51 ∷ 48 ∷ 10 ∷
    109 ∷ 97 ∷ 114 ∷ 107 ∷ 32 ∷ 48 ∷ 32 ∷ 49 ∷ 50 ∷ 56 ∷ 10 ∷
    122 ∷ 101 ∷ 114 ∷ 111 ∷ 32 ∷ 48 ∷ 32 ∷ 49 ∷ 50 ∷ 56 ∷ 10 ∷
    99 ∷ 111 ∷ 117 ∷ 110 ∷ 116 ∷ 32 ∷ 54 ∷ 52 ∷ 32 ∷ 49 ∷ 50 ∷ 56 ∷ 10 ∷
    98 ∷ 97 ∷ 99 ∷ 107 ∷ 10 ∷
    111 ∷ 110 ∷ 101 ∷ 32 ∷ 48 ∷ 32 ∷ 49 ∷ 50 ∷ 56 ∷ 10 ∷
    122 ∷ 101 ∷ 114 ∷ 111 ∷ 32 ∷ 49 ∷ 48 ∷ 32 ∷ 49 ∷ 50 ∷ 56 ∷ 10 ∷
    99 ∷ 111 ∷ 117 ∷ 110 ∷ 116 ∷ 32 ∷ 48 ∷ 32 ∷ 49 ∷ 50 ∷ 56 ∷ 10 ∷
    98 ∷ 97 ∷ 99 ∷ 107 ∷ 10 ∷
    98 ∷ 97 ∷ 99 ∷ 107 ∷ 10 ∷
    98 ∷ 97 ∷ 99 ∷ 107 ∷ 10 ∷ []

-- `0`, `60`, `10`, `78`, `none`, `64`, `78`, `10`, `20`, `50`, `10`, `60`, `refused 5`
abbrev pub output : List ℕ
output =
    48 ∷ 10 ∷
    54 ∷ 48 ∷ 10 ∷
    49 ∷ 48 ∷ 10 ∷
    55 ∷ 56 ∷ 10 ∷
    110 ∷ 111 ∷ 110 ∷ 101 ∷ 10 ∷
    54 ∷ 52 ∷ 10 ∷
    55 ∷ 56 ∷ 10 ∷
    49 ∷ 48 ∷ 10 ∷
    50 ∷ 48 ∷ 10 ∷
    53 ∷ 48 ∷ 10 ∷
    49 ∷ 48 ∷ 10 ∷
    54 ∷ 48 ∷ 10 ∷
    114 ∷ 101 ∷ 102 ∷ 117 ∷ 115 ∷ 101 ∷ 100 ∷ 32 ∷ 53 ∷ 10 ∷ []

pub example : output_for input ≡ output
unfolding lines_from fields digits_within digits allowed_capacity allowed ones assigned total sum_over count_from count first_from first changed_count runs_from runs changed_runs set_of population need_of standing_call used range_verdict step
example = refl
