-- What each entry of the reader answers: the reply of each answer, and for each entry the reply that the bytes call for. Assumes
-- nothing.
use Rattle.std.specs.Prelude.{cond, List, [], ◌∷◌, ℕ, ◌+◌, ltb, Option, Some, None, Result, Ok, Err}
use Rattle.positions.specs.Replies.{Reply, numbers, refused_with, nothing, refusal}
use Rattle.answers.specs.Refusals.{of_result}
use Rattle.answers.specs.declared.Refusal.{Refusal}
use Rattle.saved_list.specs.Format.{saved_words, saved_count, run_at, headed, whole, held_count, first_bad_held}
use Rattle.saved_list.specs.declared.Header.{Header}
use Rattle.saved_list.specs.declared.Run.{Run}
use Rattle.saved_list.specs.declared.BadRun.{BadRun}

-- the header's W and n, or refusal 7 at its first moment
abbrev pub of_header : Result Header Refusal → Reply
of_header = of_result (λ h. numbers (h.words ∷ h.runs ∷ []))

unfoldable pub header_reply : List ℕ → Reply
header_reply bytes = cond (headed bytes) (numbers (saved_words bytes ∷ saved_count bytes ∷ [])) (refusal 7)

-- the length rule, or refusal 7 at its second moment
abbrev pub of_length_check : Result (Unit {0}) Refusal → Reply
of_length_check = of_result (λ x. nothing)

unfoldable pub length_reply : List ℕ → Reply
length_reply bytes = cond (whole bytes) nothing (refusal 7)

-- the run rule over every run held, or refusal 8 with the first bad run's index
abbrev pub of_run_check : Result (Unit {0}) BadRun → Reply
of_run_check (Ok x) = nothing
of_run_check (Err bad) = refused_with 8 (bad.index ∷ [])

unfoldable pub runs_reply : List ℕ → Reply
runs_reply bytes = cond (ltb (first_bad_held bytes) (held_count bytes)) (refused_with 8 (first_bad_held bytes ∷ [])) nothing

-- the run of an index, start and end; no number where the bytes do not hold it whole
abbrev pub of_found_run : Option Run → Reply
of_found_run (Some r) = numbers (r.start ∷ r.end ∷ [])
of_found_run None = nothing

unfoldable pub run_reply : List ℕ → ℕ → Reply
run_reply bytes i = cond (ltb i (held_count bytes)) (numbers ((run_at bytes i).start ∷ (run_at bytes i).end ∷ [])) nothing

-- the index after a step: one on where the bytes hold the run, else the same
unfoldable pub index_after : List ℕ → ℕ → ℕ
index_after bytes i = cond (ltb i (held_count bytes)) (i + 1) i
