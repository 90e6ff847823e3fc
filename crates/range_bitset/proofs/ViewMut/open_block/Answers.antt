-- `range_bitset::ViewMut::open_block` meets its contract. Assumes nothing.
use Rattle.range_bitset.proofs.OpenBlocks.{opens_mixed, opens_full, opens_empty}
use Rattle.range_bitset.specs.Inner.{stores, open_with}
use Rattle.range_bitset.proofs.Kit.{ℕ, ◌*◌, ap₂, refl, sym, ◌∙◌}
use Rattle.range_bitset.proofs.ViewMut.open_block.Goals as goal

pub returns-in-Mixed-clause-opened : goal.returns-in-Mixed-clause-opened
returns-in-Mixed-clause-opened c = opens_mixed _ _ _ _ c.args.self.now.room c.requires (sym (rw (c.view-view.ensures.0, c.view-view.ensures.1) at c.in-Mixed.ensures)) refl

pub returns-in-Full-clause-opened : goal.returns-in-Full-clause-opened
returns-in-Full-clause-opened c =
    opens_full _ _ _ _ c.args.self.now.room c.requires (sym (rw (c.view-view.ensures.0, c.view-view.ensures.1) at c.in-Full.ensures))
    (c.open_with.ensures.written
    ∙ ap₂ (λ (m n : ℕ). stores c.args.self.now.words c.args.self.now.storage.now (open_with c.args.self.now.words c.args.self.now.storage.now c.args.block m (64 * n)))
    (rw c.view-view.ensures.0 at c.valid_words-masks.ensures) (rw c.view-view.ensures.0 at c.words_per_block-n.ensures))

pub returns-in-Empty-clause-opened : goal.returns-in-Empty-clause-opened
returns-in-Empty-clause-opened c =
    opens_empty _ _ _ _ c.args.self.now.room c.requires (sym (rw (c.view-view.ensures.0, c.view-view.ensures.1) at c.in-Empty.ensures)) c.open_with-in-Empty.ensures.written
