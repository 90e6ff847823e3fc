-- Small files worked out on the definitions: a table of what each entry must answer, what a good file holds, and the bytes that a capacity
-- and its runs make. Assumes nothing.
use Rattle.saved_list.proofs.Kit.{◌≡◌, refl, true, false, List, [], ◌∷◌, ◌++◌, map, ℕ}
use Rattle.positions.specs.Runs.{run}
use Rattle.saved_list.specs.Format.{run_at, runs_after, saved_runs, saved_positions, file_of, first_bad, first_bad_held}
use Rattle.positions.specs.Replies.{Reply, numbers, refused_with}
use Rattle.saved_list.specs.Answers.{header_reply, length_reply, runs_reply}

-- version 1, W = 2 (capacity 128), n as given
abbrev head : ℕ → List ℕ
head n = 77 ∷ 83 ∷ 76 ∷ 0 ∷ 1 ∷ 0 ∷ 2 ∷ 0 ∷ 0 ∷ 0 ∷ n ∷ []

-- a run whose numbers are below 256
abbrev entry : ℕ → ℕ → List ℕ
entry a e = 0 ∷ 0 ∷ 0 ∷ a ∷ 0 ∷ 0 ∷ 0 ∷ e ∷ []

-- 10..70 and 100..128
abbrev good : List ℕ
good = head 2 ++ (entry 10 70 ++ entry 100 128)

record Case : Type 0 where
  given : Reply
  wanted : Reply

abbrev reply : Reply → Reply → Case
reply r w = record { given = r; wanted = w }

abbrev cases : List Case
cases =
    reply (header_reply good) (numbers (2 ∷ 2 ∷ []))  -- W and n
    ∷ reply (length_reply good) (numbers [])
    ∷ reply (runs_reply good) (numbers [])
    ∷ reply (runs_reply (head 2 ++ (entry 10 70 ++ entry 70 71))) (refused_with 8 (1 ∷ []))  -- the second run starts at the end of the first
    ∷ reply (runs_reply (head 2 ++ (entry 10 70 ++ entry 71 72))) (numbers [])  -- one above it is good
    ∷ reply (runs_reply (head 1 ++ entry 5 5)) (refused_with 8 (0 ∷ []))  -- start and end are equal
    ∷ reply (runs_reply (head 1 ++ entry 0 129)) (refused_with 8 (0 ∷ []))  -- an end above the capacity
    ∷ reply (length_reply (77 ∷ 83 ∷ 76 ∷ 0 ∷ 1 ∷ 0 ∷ 2 ∷ 255 ∷ 255 ∷ 255 ∷ 255 ∷ [])) (refused_with 7 [])  -- 11 bytes that claim 2^32 - 1 runs
    ∷ []

replies : map (λ (c : Case). c.given) cases ≡ map (λ (c : Case). c.wanted) cases
unfolding header_reply length_reply runs_reply first_bad_held first_bad runs_after run_at
replies = refl

good_list : saved_runs good ≡ run 10 70 ∷ run 100 128 ∷ []
unfolding saved_runs runs_after run_at
good_list = refl

good_set : (saved_positions good 69 ≡ true) × (saved_positions good 70 ≡ false) × (saved_positions good 100 ≡ true)
unfolding saved_positions saved_runs runs_after run_at
good_set = (refl, refl, refl)

good_bytes : file_of 128 (run 10 70 ∷ run 100 128 ∷ []) ≡ good
unfolding file_of
good_bytes = refl

-- numbers of four bytes: the largest capacity, and its last positions
large_bytes : file_of 262144 (run 66051 262144 ∷ []) ≡ 77 ∷ 83 ∷ 76 ∷ 0 ∷ 1 ∷ 16 ∷ 0 ∷ 0 ∷ 0 ∷ 0 ∷ 1 ∷ 0 ∷ 1 ∷ 2 ∷ 3 ∷ 0 ∷ 4 ∷ 0 ∷ 0 ∷ []
unfolding file_of
large_bytes = refl
