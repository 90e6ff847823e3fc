-- `answer_part` meets its contract: one law of Answering for each way that the loop goes. Assumes nothing.
use Rattle.sheetmark.proofs.Kit.{arith, ap, length}
use Rattle.command_lines.proofs.Buffers.{pushes_moves}
use Rattle.sheetmark.proofs.Answering.{so_far_none, so_far_line, so_far_all}
use Rattle.sheetmark.proofs.answer_part.Goals as goal

pub loop-next-init : goal.loop-next-init
loop-next-init c = record { room = omega (arith, ap length c.requires.empty); so_far = λ m h. so_far_none c.requires.empty h }

pub answer_line-current-requires : goal.answer_line-current-requires
answer_line-current-requires c = omega (arith, pushes_moves c.in-Some.ensures, c.loop-next.invariant.room, c.requires.room)

pub loop-next-smaller : goal.loop-next-smaller
loop-next-smaller c = pushes_moves c.in-Some.ensures

pub loop-next-preserved : goal.loop-next-preserved
loop-next-preserved c =
    let i = c.loop-next.invariant in
    let g = c.in-Some.ensures in
    let o = rw c.as_slice.ensures.value at c.answer_line-current.ensures in
    record {
      room = omega (arith, o.most, i.room, pushes_moves g);
      so_far = λ m h. rw c.clear.ensures (so_far_line (i.so_far m h) g o);
    }

pub returns : goal.returns
returns c = λ l h. so_far_all (c.loop-next.invariant.so_far l h) c.in_default.ensures
