-- `count_up_to` meets its contract, by the runs that were counted. Assumes nothing.
use Rattle.set_runs.proofs.RunWalks.{along_itself, counted, counting_start}
use Rattle.set_runs.proofs.Kit.{arith}
use Rattle.set_runs.proofs.Runs.count_up_to.Goals as goal

pub returns : goal.returns
returns c =
    let (xs, (u, y), n) = c.count.ensures.ran in
    counted _ _ _ _ _ _ 0 _ xs c.take.result u (rw c.take.ensures.source (along_itself c.args.self)) (omega (arith, c.take.ensures.count)) (omega (arith, n))
    (rw c.take.ensures.source (counting_start _ _ _ _ _)) y
