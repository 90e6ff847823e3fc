-- Contracts of the inner functions. No caller of the crate sees them, and nothing here need be believed. Assumes nothing.
use Rattle.std.specs.Prelude.{◌≡◌, List, slice_index, ℕ, ◌+◌, ◌-◌, ◌≤◌, ◌<◌, Ok, Err}
use Rattle.positions.specs.Positions.{total}
use Rattle.estimate.specs.declared.Estimate.{Estimate}
use Rattle.estimate.specs.declared.NotPriced.TheVariants as why
use Rattle.estimate.specs.declared.class.Class.{Class}
use Rattle.estimate.specs.Prices.{class_at}
use Rattle.estimate.specs.Entry.{Estimated, AddsUp, sheets_of}

-- every position of a..e is measured
abbrev pub Measured : List ℕ → ℕ → ℕ → Type 0
Measured edges a e = (i : ℕ) → a ≤ i → i < e → slice_index edges i ≡ 0 → ⊥

-- x' is x with the sheets of a..e, all of them
pub record Adds (edges : List ℕ) (a e : ℕ) (x x' : Estimate) : Type 0 where
  pub adds_up : AddsUp x'
  pub sheets_are : x'.sheets ≡ x.sheets + (e - a)
  pub classes_are : (c : Class) → sheets_of x' c ≡ sheets_of x c + total (class_at edges c) a (e - a)
  pub measured : Measured edges a e

-- i is the first position of a..e that is not measured
pub record FirstUnmeasured (edges : List ℕ) (a e i : ℕ) : Type 0 where
  pub low : a ≤ i
  pub high : i < e
  pub no_edge : slice_index edges i ≡ 0
  pub before : Measured edges a i

abbrev pub AddsRun : List ℕ → ℕ → ℕ → Estimate → Estimated → Type 0
AddsRun edges a e x (Ok x') = Adds edges a e x x'
AddsRun edges a e x (Err (why.Refused k)) = ⊥
AddsRun edges a e x (Err (why.Unmeasured i)) = FirstUnmeasured edges a e i
