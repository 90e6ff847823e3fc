-- What a call makes of the storage that is lent to be changed: v before it, w after it. Assumes nothing.
use Rattle.std.specs.Prelude.{◌≡◌, ℕ, Bool, List}
use Rattle.range_bitset.specs.declared.ViewMut.{ViewMut}
use Rattle.range_bitset.specs.Inner.{Store, stores, Assigns}

-- the same storage, for a set of the same size: whoever lent it learns from this what it then holds
abbrev pub SameLoan : ViewMut → ViewMut → Type 0
SameLoan v w = (w.words ≡ v.words) × (w.storage.ghost_name ≡ v.storage.ghost_name)

-- the size of the set, and what the storage holds before and after, are so related
abbrev pub Turns : ViewMut → ViewMut → (ℕ → List ℕ → List ℕ → Type 0) → Type 0
Turns v w R = R v.words v.storage.now w.storage.now

-- these stores are made, for the size of the set and what the storage holds before
abbrev pub Writes : ViewMut → ViewMut → (ℕ → List ℕ → List Store) → Type 0
Writes v w us = w.storage.now ≡ stores v.words v.storage.now (us v.words v.storage.now)

-- a..e is given the value, and r positions change
abbrev pub Gives : ViewMut → ViewMut → ℕ → ℕ → Bool → ℕ → Type 0
Gives v w a e value r = Assigns v.words a e value v.storage.now w.storage.now r
