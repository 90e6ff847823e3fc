-- 01's saved list (`MSL`) as definitions on a list of bytes: the header's numbers, the runs, which files are good, the
-- positions that a good file holds, the bytes that a capacity and its runs make, and the index of the first run that breaks the
-- run rule.
-- A byte past the file's end reads 0, so every definition has a value on any bytes. Assumes nothing.
use Rattle.std.specs.Prelude.{◌≡◌, Bool, true, false, cond, ◌&&◌, List, [], ◌∷◌, ◌++◌, ℕ, zero, suc, ◌+◌, ◌-◌, ◌*◌, ◌/◌, ◌%◌, ◌≤◌, ◌<◌, eqb, leb, ltb, length, get_or, take}
use Rattle.positions.specs.Positions.{Positions}
use Rattle.positions.specs.Runs.{Run, run, covered, encoded, Ascending}

-- each number of the list is a byte
abbrev pub Bytes : List ℕ → Type 0
Bytes file = (i : ℕ) → get_or file i 0 < 256

-- ---- numbers, big-endian

-- the 16-bit number at a place
abbrev pub be16 : List ℕ → ℕ → ℕ
be16 bytes at = 256 * get_or bytes at 0 + get_or bytes (at + 1) 0

-- the 32-bit number at a place
abbrev pub be32 : List ℕ → ℕ → ℕ
be32 bytes at = 65536 * be16 bytes at + be16 bytes (at + 2)

-- ---- the header: 11 bytes

-- the letters MSL
abbrev pub mark : List ℕ
mark = 77 ∷ 83 ∷ 76 ∷ []

-- the version in 16 bits, after the letters
abbrev pub saved_version : List ℕ → ℕ
saved_version bytes = be16 bytes 3

-- W in 16 bits. Which W are allowed is the opener's test (refusal 1), not this format's
abbrev pub saved_words : List ℕ → ℕ
saved_words bytes = be16 bytes 5

-- the run count n in 32 bits
abbrev pub saved_count : List ℕ → ℕ
saved_count bytes = be32 bytes 7

abbrev pub saved_capacity : List ℕ → ℕ
saved_capacity bytes = 64 * saved_words bytes

-- ---- the runs: 8 bytes each

-- the run of index i
unfoldable pub run_at : List ℕ → ℕ → Run
run_at bytes i = run (be32 bytes (11 + 8 * i)) (be32 bytes (11 + 8 * i + 4))

-- the n runs from index i on
unfoldable pub runs_after : List ℕ → ℕ → ℕ → List Run
runs_after bytes i zero = []
runs_after bytes i (suc n) = run_at bytes i ∷ runs_after bytes (suc i) n

-- the runs of the file: as many as its header says
unfoldable pub saved_runs : List ℕ → List Run
saved_runs bytes = runs_after bytes 0 (saved_count bytes)

-- ---- which files are good

-- at least 11 bytes, mark and version right: all that refusal 7 asks but for the length 11 + 8 × n
pub record Headed (bytes : List ℕ) : Type 0 where
  pub long : 11 ≤ length bytes
  pub marked : take 3 bytes ≡ mark
  pub versioned : saved_version bytes ≡ 1

-- the length that the run count asks
abbrev pub Whole : List ℕ → Type 0
Whole bytes = length bytes ≡ 11 + 8 * saved_count bytes

-- a good file: each run has start < end ≤ capacity, and each start is above the end before it
pub record Good (bytes : List ℕ) : Type 0 where
  pub headed : Headed bytes
  pub whole : Whole bytes
  pub ascending : Ascending 0 (saved_capacity bytes) (saved_runs bytes)

-- the positions that a good file holds
unfoldable pub saved_positions : List ℕ → Positions
saved_positions bytes = covered (saved_runs bytes)

-- ---- the bytes of a capacity and its runs

-- a number's low 16 and 32 bits, big-endian
abbrev pub bytes16 : ℕ → List ℕ
bytes16 n = n / 256 % 256 ∷ n % 256 ∷ []

abbrev pub bytes32 : ℕ → List ℕ
bytes32 n = bytes16 (n / 65536) ++ bytes16 n

-- the letters, version 1, W and n
abbrev pub header_bytes : ℕ → ℕ → List ℕ
header_bytes words n = mark ++ (bytes16 1 ++ (bytes16 words ++ bytes32 n))

-- start and end
abbrev pub run_bytes : Run → List ℕ
run_bytes r = bytes32 r.start ++ bytes32 r.end

-- the file of a capacity and a list of runs
unfoldable pub file_of : ℕ → List Run → List ℕ
file_of capacity rs = header_bytes (capacity / 64) (length rs) ++ encoded run_bytes rs

-- ---- the first bad run

-- the run rule at one run: `low` is the least start allowed, 0 for the first run, and one above the end before it for each other
abbrev pub ruled : ℕ → ℕ → Run → Bool
ruled low capacity r = leb low r.start && (ltb r.start r.end && leb r.end capacity)

-- the index of the first run that breaks the rule, counted from 0; the list's length where none does
unfoldable pub first_bad : ℕ → ℕ → List Run → ℕ
first_bad low capacity [] = 0
first_bad low capacity (r ∷ rs) = cond (ruled low capacity r) (suc (first_bad (suc r.end) capacity rs)) 0

-- the index of a file's first bad run: n where none is bad
unfoldable pub first_bad_run : List ℕ → ℕ
first_bad_run bytes = first_bad 0 (saved_capacity bytes) (saved_runs bytes)

-- ---- the same as tests on the bytes, as the code makes them

-- the bytes begin with the letters
abbrev pub begins : List ℕ → List ℕ → Bool
begins [] bytes = true
begins (x ∷ xs) [] = false
begins (x ∷ xs) (y ∷ bytes) = eqb y x && begins xs bytes

-- the test for `Headed`
abbrev pub headed : List ℕ → Bool
headed bytes = leb 11 (length bytes) && (begins mark bytes && eqb (saved_version bytes) 1)

-- the test for `Whole`
abbrev pub whole : List ℕ → Bool
whole bytes = eqb (length bytes) (11 + 8 * saved_count bytes)

-- how many runs the bytes after the header hold: in a file of the right length, n
abbrev pub held_count : List ℕ → ℕ
held_count bytes = (length bytes - 11) / 8

-- the index of the first bad run among those that the bytes hold
unfoldable pub first_bad_held : List ℕ → ℕ
first_bad_held bytes = first_bad 0 (saved_capacity bytes) (runs_after bytes 0 (held_count bytes))
