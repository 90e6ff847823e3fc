-- `command_lines::store` meets its contract. Assumes nothing.
use Rattle.command_lines.proofs.Kit.{◌≡◌, append_assoc, ◌+◌, ◌-◌, arith, length, sets-eq}
use Rattle.std.proofs.lemmas.List.{drop-drop}
use Rattle.command_lines.proofs.store.Goals as goal

pub returns : goal.returns
returns c =
    let a = c.args in
    let k : a.at + length a.bytes.now - a.at ≡ length a.bytes.now = omega arith in
    rw (c.copy_from_slice.ensures.after, k, sets-eq a.bytes.now a.out.now a.at (omega arith), append_assoc, drop-drop)
