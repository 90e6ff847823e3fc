-- `audit::stored_words_audit` meets its contract. The invariant: what is left is a part of the mask, and the words past are neither
-- 0 nor all ones and are counted. Assumes nothing.
use Rattle.audit.proofs.AuditBlocks.{Passed}
use Rattle.audit.proofs.stored_words_audit.Given as goal

abbrev pub invariant-loop-place : goal.invariant-loop-place
invariant-loop-place l =
    Passed l.storage l.block l.explicit l.known l.place-iterator.0 l.population
