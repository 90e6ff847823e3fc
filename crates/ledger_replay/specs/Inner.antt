-- Contracts of the inner functions. No caller of the crate sees them, and nothing here need be believed. Assumes nothing.
use Rattle.std.specs.Prelude.{◌≡◌, List, ℕ, drop}
use Rattle.range_bitset.specs.Answers.{Counted}
use Rattle.ledger.specs.Memory.{Memory}
use Rattle.ledger.specs.History.{Chain}
use Rattle.ledger_replay.specs.Replay.{calls_to, replies_to}
use Rattle.ledger_replay.specs.declared.Call.{Call}

-- a chain of the entries' promises over the first i calls, with its replies written out
pub record Chained (i : ℕ) (start : Memory) (cs : List Call) (answers answers' : List Counted) (end : Memory) : Type 0 where
  pub others : drop i answers' ≡ drop i answers
  pub chain : Chain start (calls_to cs i) (replies_to answers' i) end
