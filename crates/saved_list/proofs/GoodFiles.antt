-- Laws for whoever opens a file, from the answers to the bytes: what an accepted header, length and run rule say, what each
-- refusal says, and that the three accept exactly the good files. Assumes nothing.
use Rattle.saved_list.proofs.Kit.{◌≡◌, sym, ◌∙◌, List, [], ◌∷◌, ℕ, ◌≤◌, ◌<◌, arith, nat_tests}
use Rattle.positions.specs.Runs.{run, Ascending}
use Rattle.saved_list.specs.Format.{saved_words, saved_count, saved_capacity, run_at, saved_runs, Headed, Whole, Good, first_bad_run, held_count, first_bad_held}
use Rattle.positions.specs.Replies.{numbers, refused_with}
use Rattle.saved_list.specs.Answers.{header_reply, length_reply, runs_reply, run_reply}
use Rattle.saved_list.proofs.Bytes.{headed_yes, yes_headed, yes_whole, whole_held}
use Rattle.saved_list.proofs.Rule.{first_bad_le, none_bad, ascending_none}
use Rattle.saved_list.proofs.Lists.{runs_length}

-- ---- the header

pub record HeaderRead (bytes : List ℕ) (words count : ℕ) : Type 0 where
  pub headed : Headed bytes
  pub words_read : words ≡ saved_words bytes
  pub count_read : count ≡ saved_count bytes

pub fields_read : (bytes : List ℕ) (words count : ℕ) → numbers (words ∷ count ∷ []) ≡ header_reply bytes → HeaderRead bytes words count
unfolding header_reply
fields_read bytes words count e = grind (arith, nat_tests, headed_yes bytes)

pub header_refused : (bytes : List ℕ) → refused_with 7 [] ≡ header_reply bytes → Headed bytes → ⊥
unfolding header_reply
header_refused bytes e h = grind (arith, nat_tests, yes_headed bytes h)

-- ---- the length

pub length_whole : (bytes : List ℕ) → numbers [] ≡ length_reply bytes → Whole bytes
unfolding length_reply
length_whole bytes e = grind (arith, nat_tests)

pub length_refused : (bytes : List ℕ) → refused_with 7 [] ≡ length_reply bytes → Whole bytes → ⊥
unfolding length_reply
length_refused bytes e h = grind (arith, nat_tests, yes_whole bytes h)

-- ---- the run rule

module _ (bytes : List ℕ) where
  -- n is the first bad index exactly where the runs ascend
  pub count_ascending : first_bad_run bytes ≡ saved_count bytes → Ascending 0 (saved_capacity bytes) (saved_runs bytes)
  unfolding first_bad_run saved_runs
  count_ascending e = none_bad 0 (saved_capacity bytes) (saved_runs bytes) (e ∙ sym (runs_length bytes 0 (saved_count bytes)))

  pub ascending_count : Ascending 0 (saved_capacity bytes) (saved_runs bytes) → first_bad_run bytes ≡ saved_count bytes
  unfolding first_bad_run saved_runs
  ascending_count p = ascending_none 0 (saved_capacity bytes) (saved_runs bytes) p ∙ runs_length bytes 0 (saved_count bytes)

  pub first_bad_most : first_bad_run bytes ≤ saved_count bytes
  unfolding first_bad_run saved_runs
  first_bad_most = omega (arith, first_bad_le 0 (saved_capacity bytes) (saved_runs bytes), runs_length bytes 0 (saved_count bytes))

-- k is the index of a file's first bad run, and it has one
pub record FirstBad (bytes : List ℕ) (k : ℕ) : Type 0 where
  pub below : k < saved_count bytes
  pub first : first_bad_run bytes ≡ k

-- in a file of the right length the runs held are the file's
module _ (bytes : List ℕ) (h : Whole bytes) where
  pub held_run : first_bad_held bytes ≡ first_bad_run bytes
  unfolding first_bad_held first_bad_run saved_runs
  held_run = rw (whole_held bytes h)

  pub runs_ascending : numbers [] ≡ runs_reply bytes → Ascending 0 (saved_capacity bytes) (saved_runs bytes)
  unfolding runs_reply
  runs_ascending e = count_ascending bytes (grind (arith, nat_tests, held_run, first_bad_most bytes, whole_held bytes h))

  pub runs_refused : (k : ℕ) → refused_with 8 (k ∷ []) ≡ runs_reply bytes → FirstBad bytes k
  unfolding runs_reply
  runs_refused k e = grind (arith, nat_tests, held_run, whole_held bytes h)

  pub ascending_runs : Ascending 0 (saved_capacity bytes) (saved_runs bytes) → runs_reply bytes ≡ numbers []
  unfolding runs_reply
  ascending_runs p = grind (arith, nat_tests, held_run, ascending_count bytes p, whole_held bytes h)

  -- the run of an index below n is found
  pub run_found : (i : ℕ) → i < saved_count bytes → run_reply bytes i ≡ numbers ((run_at bytes i).start ∷ (run_at bytes i).end ∷ [])
  unfolding run_reply
  run_found i k = grind (arith, nat_tests, whole_held bytes h)

-- ---- the run at an index

pub found_is : (bytes : List ℕ) (i start end : ℕ) → numbers (start ∷ end ∷ []) ≡ run_reply bytes i → (i < held_count bytes) × (run_at bytes i ≡ run start end)
unfolding run_reply run_at
found_is bytes i start end e = grind (arith, nat_tests)

pub found_none : (bytes : List ℕ) (i : ℕ) → numbers [] ≡ run_reply bytes i → held_count bytes ≤ i
unfolding run_reply
found_none bytes i e = grind (arith, nat_tests)

-- ---- the three together accept exactly the good files

pub record AcceptedFile (bytes : List ℕ) : Type 0 where
  pub by_header : header_reply bytes ≡ numbers (saved_words bytes ∷ saved_count bytes ∷ [])
  pub by_length : length_reply bytes ≡ numbers []
  pub by_runs : runs_reply bytes ≡ numbers []

pub accepted_good : (bytes : List ℕ) → AcceptedFile bytes → Good bytes
accepted_good bytes a =
    let h = length_whole bytes (sym a.by_length) in
    record {
      headed = (fields_read bytes (saved_words bytes) (saved_count bytes) (sym a.by_header)).headed;
      whole = h;
      ascending = runs_ascending bytes h (sym a.by_runs);
    }

pub good_accepted : (bytes : List ℕ) → Good bytes → AcceptedFile bytes
unfolding header_reply length_reply
good_accepted bytes g =
    record {
      by_header = rw (yes_headed bytes g.headed);
      by_length = rw (yes_whole bytes g.whole);
      by_runs = ascending_runs bytes g.whole g.ascending;
    }
