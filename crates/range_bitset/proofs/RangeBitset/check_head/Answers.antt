-- `range_bitset::RangeBitset::check_head` meets its contract. Assumes nothing.
use Rattle.range_bitset.specs.Answers.{good_head, head_refusal}
use Rattle.range_bitset.specs.Layout.{allowed}
use Rattle.range_bitset.specs.Represents.{capacity_of}
use Rattle.range_bitset.proofs.Kit.{true, false, ◌≡◌, sym, ◌∙◌, le-leb, lt-leb, leb, and-false}
use Rattle.range_bitset.proofs.RangeBitset.check_head.Goals as goal
use Rattle.range_bitset.proofs.RangeBitset.check_head.Goals.{else-allowed-via-then-allowed+else-self-words, else-allowed-via-else-allowed}

pub returns-then-self-words : goal.returns-then-self-words
unfolding head_refusal good_head
returns-then-self-words c =
    let e : allowed c.args.self.words ≡ true = sym c.allowed.ensures ∙ c.if-allowed.true in
    rw (e, le-leb _ _ c.if-self-words.true)

pub returns-else-allowed : goal.returns-else-allowed
unfolding head_refusal good_head
returns-else-allowed c =
    let h = c.args.self in
    elim c.else-allowed.branch [
      | else-allowed-via-then-allowed+else-self-words w ↦
          let e : leb h.len (capacity_of h) ≡ false = lt-leb _ _ w.if-self-words.false in
          rw (e, and-false (allowed h.words))
      | else-allowed-via-else-allowed w ↦
          let e : allowed h.words ≡ false = sym c.allowed.ensures ∙ w.if-allowed.false in
          rw e
    ]
