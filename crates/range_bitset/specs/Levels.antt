-- A level: the blocks of a set, or the words of a block, as parts; and what the walks over a level give back. Contracts of inner
-- functions: no promise of an entry names them, and nothing here need be believed. Assumes nothing.
use Rattle.std.specs.Prelude.{◌≡◌, ℕ, suc, ◌+◌, ◌-◌, ◌*◌, ◌%◌, ◌^◌, ◌<◌, ◌≤◌, min, Bool, true, false, cond, List, length, ◌==◌, count_ones, slice_index}
use Rattle.positions.specs.Positions.{Positions, count}
use Rattle.positions.specs.Walks.{Lacks, having, Nth}
use Rattle.bits.specs.Bit.{bit}
use Rattle.range_bitset.specs.Represents.{Stored}
use Rattle.range_bitset.specs.Inner.{block_start}
use Rattle.range_bitset.specs.declared.level.Level.{Level}
use Rattle.range_bitset.specs.declared.level.Landing.{Landing}
use Rattle.range_bitset.specs.declared.level.Landing.TheVariants.{At, Within}

-- where part i starts: the last part may be short, and all after it are empty
abbrev pub start_of : {each : ℕ} → Level each → ℕ → ℕ
start_of {each} l i = min (i * each) l.end

-- the population that a part's number stands for: a word's number is its bits, a block's its population
abbrev pub population_by : ℕ → ℕ → ℕ
population_by each x = cond (each == 64) (count_ones x) x

-- how many positions of the value part i has by its number, in 64 bits
unfoldable pub size_of : {each : ℕ} → Level each → ℕ → ℕ
size_of {each} l i =
    let x = population_by each (slice_index l.sizes.now i) in
    cond l.value x ((start_of l (suc i) - i * each + (2 ^ 64 - x)) % 2 ^ 64)

-- the masks and sizes are those of the set t, the positions of the value, counted from the level's start
pub record LevelOf (t : Positions) {each : ℕ} (l : Level each) : Type 0 where
  pub none : (i : ℕ) → bit l.some i ≡ false → Lacks t true (start_of l i) (start_of l (suc i))
  pub whole : (i : ℕ) → bit l.others i ≡ false → Lacks t false (start_of l i) (start_of l (suc i))
  pub sized : (i : ℕ) → bit l.some i ≡ true → bit l.others i ≡ true → size_of l i ≡ count t (start_of l i) (start_of l (suc i))
  pub reach : l.end ≤ 64 * each

-- r is the first bit of m at or after a, or 64; one past the last bit of m before e, or 0
pub record FirstFrom (m a r : ℕ) : Type 0 where
  pub low : a ≤ r
  pub high : r ≤ 64
  pub none : (i : ℕ) → a ≤ i → i < r → bit m i ≡ false
  pub set : r < 64 → bit m r ≡ true

pub record LastBefore (m e r : ℕ) : Type 0 where
  pub high : r ≤ e
  pub none : (i : ℕ) → r ≤ i → i < e → bit m i ≡ false
  pub set : (i : ℕ) → r ≡ suc i → bit m i ≡ true

-- where a walk ended, on any memory: at a position that the level has, or at its end; or in a part that there is, by its number
abbrev pub Inside : {each : ℕ} → Level each → Landing → Type 0
Inside {each} l (At part n) = part * each + n ≤ l.end
Inside l (Within part n size) = (part < length l.sizes.now) × (n < size) × (size ≡ size_of l part)

-- the k-th position of t lies there
abbrev pub Lands : {each : ℕ} → Positions → Level each → ℕ → Landing → Type 0
Lands {each} t l k (At part n) = Nth t 0 k (part * each + n)
Lands t l k (Within part n size) = (count t 0 (start_of l part) + n ≡ k) × (size ≡ count t (start_of l part) (start_of l (suc part)))

-- a walk for the position that `wanted` says: `wanted c k` where the k-th of c positions is meant
pub record Seeks {each : ℕ} (l : Level each) (wanted : ℕ → ℕ → Type 0) (r : Landing) : Type 0 where
  pub inside : Inside l r
  -- where the level is that of a set
  pub lands : (t : Positions) (k : ℕ) → LevelOf t l → wanted (count t 0 l.end) k → Lands t l k r

-- the one with n before it; with b after it; and with n before it, of so many in all
abbrev pub NthOf : ℕ → ℕ → ℕ → Type 0
NthOf n c k = (k ≡ n) × (k < c)

abbrev pub BackOf : ℕ → ℕ → ℕ → Type 0
BackOf b c k = k + suc b ≡ c

abbrev pub AmongOf : ℕ → ℕ → ℕ → ℕ → Type 0
AmongOf total n c k = (c ≡ total) × (k ≡ n)

-- ---- the n-th position of value v: in block b, where so many are in all; and in the whole set

abbrev pub NthInBlock : ℕ → ℕ → Bool → ℕ → ℕ → List ℕ → ℕ → Type 0
NthInBlock W b v total n st r =
    (s : Positions) → Stored W st s → total ≡ count (having s v) (block_start W b) (block_start W (suc b)) → Nth (having s v) (4096 * b) n r

abbrev pub NthIn : ℕ → Bool → ℕ → ℕ → List ℕ → ℕ → Type 0
NthIn W v total n st r = (s : Positions) → Stored W st s → total ≡ count (having s v) 0 (64 * W) → Nth (having s v) 0 n r
