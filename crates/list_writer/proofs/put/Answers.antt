-- `put` meets its contract. Assumes nothing.
use Rattle.list_writer.proofs.Kit.{◌≡◌, append_assoc, ◌+◌, ◌-◌, arith, length, sets-eq}
use Rattle.std.proofs.lemmas.List.{drop-drop}
use Rattle.list_writer.specs.Inner.{overwritten}
use Rattle.list_writer.proofs.put.Goals as goal

pub returns : goal.returns
unfolding overwritten
returns c =
    let a = c.args in
    let k : a.at + length a.bytes.now - a.at ≡ length a.bytes.now = omega arith in
    rw (c.copy_from_slice.ensures.after, k, sets-eq a.bytes.now a.file.now a.at (omega arith), append_assoc, drop-drop)
