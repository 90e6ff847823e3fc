-- `saved_list::check_runs`: the reader and the count are at the same index, the runs before it are good, and the rest decides
-- (`Reached`). Assumes nothing.
use Rattle.std.proofs.Common.{◌≡◌}
use Rattle.std.specs.Iterator.Adapters.{enumerate_source, enumerate_count}
use Rattle.saved_list.proofs.Turns.{Reached}
use Rattle.saved_list.proofs.check_runs.Given as goal

abbrev pub invariant-loop-index : goal.invariant-loop-index
invariant-loop-index l =
    record {
      file : (enumerate_source l.index-iterator).file.now ≡ l.file;
      at : (enumerate_source l.index-iterator).at ≡ enumerate_count l.index-iterator;
      reached : Reached l.file (enumerate_count l.index-iterator) l.low;
    }
