-- `put_header` meets its contract: the letters, then the three numbers behind them. Assumes nothing.
use Rattle.list_writer.proofs.Stores.{stored_header, stored_word}
use Rattle.list_writer.proofs.put_header.Goals as goal

pub returns : goal.returns
returns c =
    stored_header c.args.words c.args.runs _ _ _ _ _ c.put.ensures (rw c.to_be_bytes.ensures at c.put-2.ensures) (rw c.to_be_bytes-2.ensures at c.put-3.ensures)
    (stored_word _ _ _ _ _ c.to_be_bytes-3.ensures c.put-4.ensures)
