-- `walk::Ones::next` meets its contract. Assumes nothing.
use Rattle.std.proofs.Common.{arith, rules}
use Rattle.bits.proofs.Walks.{ones_step}
use Rattle.bits.proofs.walk.OnesIterator.next.Goals as goal

pub returns-clause-goes : goal.returns-clause-goes
returns-clause-goes c = let h = ones_step 64 c.args.self.now.0 c.if-self-eq0.false (omega arith) in search (rules, h)
