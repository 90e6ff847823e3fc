-- The two round trips, as theorems over what the writer and `open` promise. Assumes nothing.
use Rattle.round_trip.proofs.Kit.{◌≡◌, refl, sym, ap, ap₂, ◌∙◌, subst, Bool, true, false, not, cond, ◌&&◌, List, [], ◌∷◌, ◌++◌, ℕ, ◌/◌, ◌%◌, ◌≤◌, ◌<◌, arith, eqb, leb, ltb, eqb-true, eqb-false, le-ltb, lt-ltb, ltb-false, length, take, drop, take-append_seam}
use Rattle.positions.specs.Positions.{Positions, count}
use Rattle.positions.specs.Runs.{Run, runs, covered}
use Rattle.positions.specs.Replies.{Reply, numbers, refused_with, number, refusal, Accepted}
use Rattle.positions.proofs.Bools.{and_left}
use Rattle.positions.proofs.Changes.{some_run}
use Rattle.positions.proofs.Counts.{count_same}
use Rattle.positions.proofs.Ranges.{within_in}
use Rattle.positions.proofs.Replies.{numbers_refusal}
use Rattle.positions.proofs.Runs.{runs_ascending, runs_covered}
use Rattle.range_bitset.specs.Layout.{allowed}
use Rattle.range_bitset.specs.Represents.{Represents, capacity_of}
use Rattle.range_bitset.specs.Answers.{Counted, of_counted, allowed_capacity, good_head, storage_refusal}
use Rattle.range_bitset.specs.declared.RangeBitset.{RangeBitset}
use Rattle.range_bitset.proofs.AcceptedHeads.{storage_accepted, good_bounds}
use Rattle.range_bitset.proofs.AgreeingSets.{stored_agrees}
use Rattle.saved_list.specs.Format.{saved_words, saved_count, saved_capacity, saved_positions, Good, first_bad_run, headed, whole, file_of, Bytes}
use Rattle.saved_list.proofs.Bytes.{yes_headed, yes_whole, headed_yes, whole_yes}
use Rattle.saved_list.proofs.GoodFiles.{ascending_count, count_ascending, first_bad_most}
use Rattle.saved_list.proofs.Lists.{good_longest}
use Rattle.saved_list.proofs.WrittenFiles.{Writable, capacity_back, count_back, saved_back, written_good, good_again}
use Rattle.ledger.specs.Memory.{memory, lent_enough, Holds}
use Rattle.ledger.specs.Machine.{opened_with, set_of, used}
use Rattle.ledger.specs.Entries.{Opened, open_reply, OpenEnsures}
use Rattle.ledger.specs.declared.Ledger.{Ledger}
use Rattle.ledger.specs.declared.NotOpened.{NotOpened}
use Rattle.ledger.specs.declared.NotOpened.TheVariants as why
use Rattle.answers.specs.declared.Refusal.{Refusal}
use Rattle.std.proofs.Common.{Result, Ok, Err}
use Rattle.ledger.proofs.Refusals.{lent_accepted, set_accepts}
use Rattle.list_writer.specs.Entry.{file_for, write_reply, WriteEnsures}
use Rattle.list_writer.proofs.WriteReturns.{refusal_first, reply_is}
use Rattle.round_trip.specs.RoundTrip.{lent_reply, Reopens, SetAndBack, Rewrites, FileAndBack, then, of_written, Agrees}

-- ---- open's tests, in their order, where those of the file pass

decided : (hd ac jm wh le fb : Bool) (n r₁ r₃ r₇ r₈ : Reply) → hd ≡ true → ac ≡ true → wh ≡ true → fb ≡ false
    → cond hd (cond (ac && jm) (cond wh (cond le (cond fb r₈ n) r₃) r₇) r₁) r₇ ≡ cond jm (cond le n r₃) r₁
decided hd ac jm wh le fb n r₁ r₃ r₇ r₈ p q t u = rw (p, q, t, u)

open_good : (file : List ℕ) (j n k : ℕ) → Good file → allowed_capacity (saved_capacity file) ≡ true
    → open_reply file j n k ≡ lent_reply (saved_words file) j n k
unfolding open_reply
open_good file j n k g a =
    decided (headed file) (allowed_capacity (saved_capacity file)) (leb j 16384) (whole file) (lent_enough (saved_words file) j n k) (ltb (first_bad_run file) (saved_count file)) _ _ _ _ _
    (yes_headed file g.headed) a (yes_whole file g.whole) (le-ltb (first_bad_run file) (saved_count file) (omega (arith, ascending_count file g.ascending)))

-- ---- what a represented set's file is

module _ (h : RangeBitset) (n : ℕ) (z : storage_refusal h n ≡ 0) (s : Positions) where
  good : good_head h ≡ true
  good = (storage_accepted h n z).0

  writable : Writable (capacity_of h) (runs s 0 (capacity_of h))
  writable =
      record {
        whole_words = omega arith;
        words_small = omega (arith, (good_bounds h good).1);
        ascending = runs_ascending s 0 (capacity_of h) (omega arith);
      }

  file_good : Good (file_for h s)
  file_good = written_good (capacity_of h) (runs s 0 (capacity_of h)) writable

  file_words : saved_words (file_for h s) ≡ h.words
  file_words = omega (arith, capacity_back (capacity_of h) (runs s 0 (capacity_of h)) writable)

  words_allowed : allowed h.words ≡ true
  unfolding good_head
  words_allowed = and_left (allowed h.words) (leb h.len (capacity_of h)) good

  allowed_back : allowed_capacity (saved_capacity (file_for h s)) ≡ true
  unfolding allowed_capacity
  allowed_back =
      let c = capacity_back (capacity_of h) (runs s 0 (capacity_of h)) writable in
      let w : saved_capacity (file_for h s) / 64 ≡ h.words = omega arith in
      let m : saved_capacity (file_for h s) % 64 ≡ 0 = omega arith in
      ap₂ (λ (x y : ℕ). eqb x 0 && allowed y) m w ∙ words_allowed

  -- its positions are the set's
  positions_back : (i : ℕ) → i < capacity_of h → saved_positions (file_for h s) i ≡ s i
  unfolding saved_positions
  positions_back i l =
      ap (λ (rs : List Run). covered rs i) (saved_back (capacity_of h) (runs s 0 (capacity_of h)) writable)
      ∙ runs_covered s 0 (capacity_of h) i ∙ ap (λ (b : Bool). b && s i) (within_in 0 (capacity_of h) i (omega arith) l)

  -- its file is refused for J and short slices alone
  open_back : (j m k : ℕ) → open_reply (file_for h s) j m k ≡ lent_reply h.words j m k
  open_back j m k =
      open_good (file_for h s) j m k file_good allowed_back
      ∙ ap (λ (w : ℕ). lent_reply w j m k) file_words

-- ---- sets that agree below the capacity

represents_agrees : (h : RangeBitset) (st : List ℕ) (s t : Positions) → ((i : ℕ) → i < capacity_of h → s i ≡ t i) → Represents h st s → Represents h st t
represents_agrees h st s t e r =
    record {
      fresh = λ f i l. sym (e i l) ∙ r.fresh f i l;
      begun = λ b. stored_agrees h.words s t e st (r.begun b);
      counted = r.counted ∙ count_same s t 0 (capacity_of h) (λ i u v. e i v);
    }

-- a file has a run where its set has a position
run_told : (s : Positions) (a e : ℕ) → not (eqb (length (runs s a e)) 0) ≡ ltb 0 (count s a e)
run_told s a e = by (eqb (length (runs s a e)) 0) refl
  where
    by : (b : Bool) → eqb (length (runs s a e)) 0 ≡ b → not b ≡ ltb 0 (count s a e)
    by true z = sym (le-ltb 0 (count s a e) (omega (arith, some_run s a e, eqb-true (length (runs s a e)) 0 z)))
    by false z = let n = eqb-false (length (runs s a e)) 0 z in sym (lt-ltb 0 (count s a e) (omega (arith, some_run s a e)))

none_used : (l : Ledger) (st journal : List ℕ) (c j : ℕ) (o : Positions) → Holds (memory l st journal) (opened_with c j o) → l.used ≡ 0
unfolding used
none_used l st journal c j o x = x.in_use

-- ---- from a set to its file and back

module _ (h : RangeBitset) (st : List ℕ) (s : Positions) (rep : Represents h st s) (file : List ℕ) (r : Counted) (file' : List ℕ) (n : ℕ)
    (w : WriteEnsures h st file r file') (done : of_counted r ≡ number n) where
  accepted : Accepted (of_counted r)
  accepted = subst Accepted (sym done) tt

  lent : storage_refusal h (length st) ≡ 0
  lent = by (eqb (storage_refusal h (length st)) 0) refl
    where
      by : (b : Bool) → eqb (storage_refusal h (length st)) 0 ≡ b → storage_refusal h (length st) ≡ 0
      by true x = eqb-true (storage_refusal h (length st)) 0 x
      by false x =
          let f = eqb-false (storage_refusal h (length st)) 0 x in
          absurd (numbers_refusal _ _ _ (sym done ∙ w.refuses (λ e. f (sym (refusal_first h (length st) (length file) f) ∙ e))))

  -- the bytes written are the set's file
  written_file : take n file' ≡ file_for h s
  written_file =
      let l = reply_is (file_for h s) n (length file) (sym done ∙ w.answers lent s rep) in
      ap₂ take l.0 (w.writes accepted s rep) ∙ take-append_seam (file_for h s) (drop (length (file_for h s)) file)

  module _ (j : ℕ) (st₂ journal : List ℕ) (r₂ : Opened) (st₂' : List ℕ) (o : OpenEnsures (take n file') j st₂ journal r₂ st₂') where
    opens : OpenEnsures (file_for h s) j st₂ journal r₂ st₂'
    opens = subst (λ (f : List ℕ). OpenEnsures f j st₂ journal r₂ st₂') written_file o

    same_words : (l : Ledger) → r₂ ≡ Ok l → capacity_of l.set ≡ capacity_of h
    same_words l e = (opens.holds l e).capacity ∙ capacity_back (capacity_of h) (runs s 0 (capacity_of h)) (writable h (length st) lent s)

    same_set : (l : Ledger) → r₂ ≡ Ok l → Represents l.set st₂' s
    unfolding set_of
    same_set l e =
        represents_agrees l.set st₂' (saved_positions (file_for h s)) s (λ i m. positions_back h (length st) lent s i (omega (arith, same_words l e))) (opens.holds l e).set

    few_back : saved_count (file_for h s) ≡ length (runs s 0 (capacity_of h))
    few_back = count_back (capacity_of h) (runs s 0 (capacity_of h)) (writable h (length st) lent s)

    reopens : Reopens h s j st₂ journal r₂ st₂'
    reopens =
        record {
          refuses = opens.refuses ∙ open_back h (length st) lent s j (length st₂) (length journal);
          same_capacity = same_words;
          same_positions = same_set;
          flag = λ l e. opens.flag l e ∙ ap (λ (k : ℕ). not (eqb k 0)) few_back ∙ run_told s 0 (capacity_of h);
          no_calls = λ l e. ((opens.holds l e).journal_length, none_used l _ _ _ _ _ (opens.holds l e));
        }

pub set_and_back : SetAndBack
set_and_back = reopens

-- ---- from a file to its set and back

-- a file that open accepts is a good one
opened_good : (file : List ℕ) (j n k : ℕ) → number 0 ≡ open_reply file j n k → Good file
unfolding open_reply
opened_good file j n k e =
    by (headed file) refl (allowed_capacity (saved_capacity file) && leb j 16384) (whole file) refl (lent_enough (saved_words file) j n k) (ltb (first_bad_run file) (saved_count file)) refl e
  where
    by : (hd : Bool) → headed file ≡ hd → (ac : Bool) → (wh : Bool) → whole file ≡ wh → (le : Bool) → (fb : Bool) → ltb (first_bad_run file) (saved_count file) ≡ fb
        → number 0 ≡ cond hd (cond ac (cond wh (cond le (cond fb (refused_with 8 (first_bad_run file ∷ [])) (number 0)) (refusal 3)) (refusal 7)) (refusal 1)) (refusal 7) → Good file
    by true p true true q true false t e =
        record {
          headed = headed_yes file p;
          whole = whole_yes file q;
          ascending = count_ascending file (omega (arith, ltb-false (first_bad_run file) (saved_count file) t, first_bad_most file));
        }
    by true p true true q true true t e = absurd (numbers_refusal _ _ _ e)
    by true p true true q false fb t e = absurd (numbers_refusal _ _ _ e)
    by true p true false q le fb t e = absurd (numbers_refusal _ _ _ e)
    by true p false wh q le fb t e = absurd (numbers_refusal _ _ _ e)
    by false p ac wh q le fb t e = absurd (numbers_refusal _ _ _ e)

module _ (file : List ℕ) (bytes : Bytes file) (j : ℕ) (st journal : List ℕ) (l : Ledger) (st' : List ℕ) (o : OpenEnsures file j st journal (Ok l) st') where
  held : Holds (memory l st' journal) (opened_with (saved_capacity file) j (saved_positions file))
  held = o.holds l refl

  represented : Represents l.set st' (saved_positions file)
  unfolding set_of
  represented = held.set

  good_file : Good file
  good_file = opened_good file j (length st) (length journal) o.refuses

  -- the opened set's file is the file
  file_again : file_for l.set (saved_positions file) ≡ file
  file_again =
      ap (λ (c : ℕ). file_of c (runs (saved_positions file) 0 c)) held.capacity
      ∙ ap (file_of (saved_capacity file)) (good_longest file good_file) ∙ good_again file bytes good_file

  rewrites : (buffer : List ℕ) (r : Counted) (buffer' : List ℕ) → WriteEnsures l.set st' buffer r buffer' → Rewrites file buffer r buffer'
  rewrites buffer r buffer' w =
      let z = set_accepts l l.journal (length st') (length journal) (lent_accepted l l.journal (length st') (length journal) held.lent) in
      record {
        answers = w.answers z (saved_positions file) represented ∙ ap (λ (f : List ℕ). write_reply f (length buffer)) file_again;
        agrees = λ a. w.writes a (saved_positions file) represented ∙ ap (λ (f : List ℕ). f ++ drop (length f) buffer) file_again;
        unchanged = w.unchanged;
      }

pub file_and_back : FileAndBack
file_and_back = rewrites

-- ---- both in one function

module _ (file : List ℕ) (j : ℕ) (st journal buffer : List ℕ) where
  -- opened, then written
  agrees_opened : (l : Ledger) (st' : List ℕ) (r : Counted) (buffer' : List ℕ) → Bytes file → OpenEnsures file j st journal (Ok l) st'
      → WriteEnsures l.set st' buffer r buffer' → (w : Result ℕ NotOpened) → of_written w ≡ of_counted r → Agrees file j (length st) (length journal) buffer w buffer'
  agrees_opened l st' r buffer' b o p w e =
      let t = file_and_back file b j st journal l st' o buffer r buffer' p in
      record {
        answers = e ∙ t.answers ∙ ap (λ (x : Reply). then x (write_reply file (length buffer))) o.refuses;
        agrees = λ a. t.agrees (subst Accepted e a);
        unchanged = λ a. t.unchanged (λ x. a (subst Accepted (sym e) x));
      }

  pub agrees_written : (l : Ledger) (st' : List ℕ) (n : ℕ) (buffer' : List ℕ) → Bytes file → OpenEnsures file j st journal (Ok l) st'
      → WriteEnsures l.set st' buffer (Ok n) buffer' → Agrees file j (length st) (length journal) buffer (Ok n) buffer'
  agrees_written l st' n buffer' b o p = agrees_opened l st' (Ok n) buffer' b o p (Ok n) refl

  -- opened, and the buffer is too short
  pub agrees_short : (l : Ledger) (st' : List ℕ) (k : Refusal) (buffer' : List ℕ) → Bytes file → OpenEnsures file j st journal (Ok l) st'
      → WriteEnsures l.set st' buffer (Err k) buffer' → Agrees file j (length st) (length journal) buffer (Err (why.Refused k)) buffer'
  agrees_short l st' k buffer' b o p = agrees_opened l st' (Err k) buffer' b o p (Err (why.Refused k)) refl

-- what is answered lies in the buffer
pub agreed_inside : (file : List ℕ) (j n k : ℕ) (buffer : List ℕ) (r : Result ℕ NotOpened) (m : ℕ) (buffer' : List ℕ) → Agrees file j n k buffer r buffer' → r ≡ Ok m
    → m ≤ length buffer
agreed_inside file j n k buffer r m buffer' a e = by (open_reply file j n k) (sym (ap of_written e) ∙ a.answers)
  where
    by : (x : Reply) → number m ≡ then x (write_reply file (length buffer)) → m ≤ length buffer
    by (numbers ns) e = let l = reply_is file m (length buffer) e in omega (arith, l.0, l.1)
    by (refused_with k vs) e = absurd (numbers_refusal _ _ _ e)
