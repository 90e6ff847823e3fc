-- `write` meets its contract: each return by its law. Assumes nothing.
use Rattle.list_writer.proofs.Kit.{arith, refl, sym}
use Rattle.range_bitset.proofs.AcceptedHeads.{storage_accepted, good_bounds}
use Rattle.list_writer.proofs.WriteReturns.{declined_head, declined_header, declined_runs, written}
use Rattle.answers.proofs.Numbers.{passed_on}
use Rattle.list_writer.proofs.write.Goals as goal

pub returns-in_err-check_storage : goal.returns-in_err-check_storage
returns-in_err-check_storage c = rw (passed_on _ c.from_residual.ensures.1) (declined_head _ _ _ _ c.in_err-check_storage.ensures)

pub returns-then-file-lt-HEADER_SIZE : goal.returns-then-file-lt-HEADER_SIZE
returns-then-file-lt-HEADER_SIZE c = declined_header _ _ _ (sym c.in_ok-check_storage.ensures) (omega arith)

pub returns-then-not-fit : goal.returns-then-not-fit
returns-then-not-fit c =
    declined_runs _ _ _ _ (sym c.in_ok-check_storage.ensures) (omega arith) c.min-most.ensures _ c.if-not-fit.ensures refl

pub overflow_cast-set : goal.overflow_cast-set
overflow_cast-set c =
    let head = storage_accepted _ _ (sym c.in_ok-check_storage.ensures) in
    omega (arith, (good_bounds _ head.0).1)

pub overflow_cast-written : goal.overflow_cast-written
overflow_cast-written c =
    let head = storage_accepted _ _ (sym c.in_ok-check_storage.ensures) in
    omega (arith, (good_bounds _ head.0).1, c.min-most.ensures, c.write_runs-written.ensures.most_runs)

pub overflow_cast-result : goal.overflow_cast-result
overflow_cast-result c =
    let head = storage_accepted _ _ (sym c.in_ok-check_storage.ensures) in
    omega (arith, (good_bounds _ head.0).1, c.min-most.ensures, c.write_runs-written.ensures.most_runs)

pub returns : goal.returns
returns c =
    written _ _ _ _ (sym c.in_ok-check_storage.ensures) (omega arith) c.min-most.ensures _ _ _ _ _ c.if-not-fit.ensures refl
    c.write_runs-written.ensures c.put_header.ensures refl
