-- `range_bitset::RangeBitset::check_storage` meets its contract. Assumes nothing.
use Rattle.range_bitset.proofs.AcceptedHeads.{good_bounds, head_accepted, head_first}
use Rattle.range_bitset.specs.Answers.{storage_refusal}
use Rattle.range_bitset.specs.Layout.{needed}
use Rattle.range_bitset.proofs.Kit.{lt-ltb, le-ltb, arith, sym}
use Rattle.answers.proofs.Numbers.{passed_on}
use Rattle.range_bitset.proofs.RangeBitset.check_storage.Goals as goal

pub returns-in_err-check_head : goal.returns-in_err-check_head
returns-in_err-check_head c = rw (passed_on _ c.from_residual.ensures.1) (head_first _ _ _ c.in_err-check_head.ensures)

pub blocks-requires : goal.blocks-requires
blocks-requires c = (good_bounds _ (head_accepted _ (sym c.in_ok-check_head.ensures))).1

pub returns-then-len-words : goal.returns-then-len-words
unfolding storage_refusal
returns-then-len-words c =
    let a = c.args in
    rw (head_accepted a.self (sym c.in_ok-check_head.ensures), lt-ltb a.len (needed a.self.words) (omega arith))

pub returns : goal.returns
unfolding storage_refusal
returns c =
    let a = c.args in
    rw (head_accepted a.self (sym c.in_ok-check_head.ensures), le-ltb a.len (needed a.self.words) (omega arith))
