-- `capi_ledger::klado_ledger_wipe` answers what `Ledger::wipe` does, with any journal. Assumes nothing.
use Rattle.capi_ledger.proofs.Kit.{subst}
use Rattle.ledger.specs.Machine.{wipe}
use Rattle.ledger.specs.Entries.{CalledEnsures}
use Rattle.ledger.specs.declared.Ledger.{Ledger}
use Rattle.capi_ledger.proofs.klado_ledger_wipe.Goals as goal

pub returns : goal.returns
returns c =
    record {
      answer = c.wipe-done.result;
      promised = λ j. subst (λ (x : Ledger). CalledEnsures wipe x c.args.storage.now j c.wipe-done.new.storage j c.wipe-done.result) c.from.ensures (c.wipe-done.ensures j);
      told = c.after.ensures;
    }
