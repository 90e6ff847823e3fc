-- `audit::stored_words_audit` meets its contract. Assumes nothing.
use Rattle.audit.proofs.AuditBlocks.{walk_at, walk_zero, walk_ones, counted_most, walk_next, walk_last}
use Rattle.audit.proofs.Kit.{arith}
use mathlib.Core.Logic.{⊎_elim}
use Rattle.audit.proofs.stored_words_audit.Goals as goal

pub bounds-storage-block : goal.bounds-storage-block
bounds-storage-block c =
    let q = c.in-Some.ensures.steps in
    omega (arith, q.1, walk_at _ _ _ _ _ _ c.loop-place.invariant c.requires.1 q.0)

pub returns-then-word-eq0 : goal.returns-then-word-eq0
returns-then-word-eq0 c =
    let w = c.loop-place.invariant in
    let q = c.in-Some.ensures.steps in
    ⊎_elim (λ e. walk_zero _ _ _ _ _ _ w q.0 (rw (← q.1) e)) (λ e. walk_ones _ _ _ _ _ _ w q.0 (rw (← q.1) e.1)) c.then-word-eq0.either

pub overflow_add-population : goal.overflow_add-population
overflow_add-population c =
    let q = c.in-Some.ensures.steps in
    rw q.1
    (omega (arith, c.requires.2, counted_most _ _ _ _ _ _ c.loop-place.invariant q.0 (λ k. omega (arith, c.type_inv.storage k))))

pub loop-place-preserved : goal.loop-place-preserved
loop-place-preserved c =
    let q = c.in-Some.ensures.steps in
    rw (q.1, q.2) (walk_next _ _ _ _ _ _ c.loop-place.invariant q.0 (λ e. c.if-word-eq0.false (rw q.1 e)) (λ e. c.if-word.false (rw q.1 e)))

pub returns : goal.returns
returns c = walk_last _ _ _ _ _ _ c.loop-place.invariant c.in-None.ensures.steps.0
