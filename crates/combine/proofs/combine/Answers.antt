-- `combine` meets its contract. Assumes nothing.
use Rattle.combine.proofs.Kit.{sym, ap, ◌∙◌}
use Rattle.range_bitset.specs.declared.Parts.{Parts}
use Rattle.range_bitset.proofs.AcceptedHeads.{accepted}
use Rattle.combine.proofs.CombineReturns.{passed, parts_are, parts_given, accepted_returns}
use Rattle.combine.proofs.combine.Goals as goal

pub returns-in_err-at : goal.returns-in_err-at
returns-in_err-at g c =
    let p = passed c.args.first c.args.second _ _ _ _ c.in_ok-check.ensures in
    absurd (parts_given c.args.first p.head _ c.in_err-at.ensures)

pub new-x-requires : goal.new-x-requires
new-x-requires g c =
    let p = passed c.args.first c.args.second _ _ _ _ c.in_ok-check.ensures in
    let a = parts_are c.args.first p.head _ c.in_ok-at.ensures in
    (rw a.0 (accepted c.args.first c.args.first_storage.now p.first), a.1)

pub new-y-requires : goal.new-y-requires
new-y-requires g c =
    let p = passed c.args.first c.args.second _ _ _ _ c.in_ok-check.ensures in
    let a = parts_are c.args.first p.head _ c.in_ok-at.ensures in
    (rw (a.0, p.same) (accepted c.args.second c.args.second_storage.now p.second), a.1)

pub combine_blocks-len-requires : goal.combine_blocks-len-requires
combine_blocks-len-requires g c =
    let p = passed c.args.first c.args.second _ _ _ _ c.in_ok-check.ensures in
    let a = parts_are c.args.first p.head _ c.in_ok-at.ensures in
    let w = ap (λ (b : Parts). b.words) c.new-x.ensures.2 ∙ a.0 in
    (rw w (accepted c.args.first c.args.third.now p.third), c.new-y.ensures.2 ∙ sym c.new-x.ensures.2)

pub returns : goal.returns
returns g c =
    let p = passed c.args.first c.args.second _ _ _ _ c.in_ok-check.ensures in
    let a = parts_are c.args.first p.head _ c.in_ok-at.ensures in
    let x = ap (λ (b : Parts). b.words) c.new-x.ensures.2 in
    let y = ap (λ (b : Parts). b.words) c.new-y.ensures.2 in
    accepted_returns _ c.args.first c.args.first_storage.now c.args.second c.args.second_storage.now c.args.third.now c.args.scratch.now _ c.new-x.result c.new-y.result _
    c.in_ok-check.ensures (x ∙ a.0) (y ∙ a.0 ∙ p.same) (rw x c.new-x.ensures.0) (rw y c.new-y.ensures.0) c.new-x.ensures.1 c.new-y.ensures.1 c.combine_blocks-len.ensures
