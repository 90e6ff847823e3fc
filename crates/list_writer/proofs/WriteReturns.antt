-- Laws of the writer's returns: refused by head and storage, by a buffer with no room for the header, by one with none for the runs; and
-- written. Assumes nothing.
use Rattle.list_writer.proofs.Kit.{◌≡◌, refl, sym, ap, ap₂, ◌∙◌, inl, inr, Bool, true, false, true≢false, cond, List, ◌++◌, append_assoc, ℕ, ◌+◌, ◌*◌, ◌-◌, ◌/◌, ◌≤◌, ◌<◌, min, arith, leb-true, leb-false, le-leb, lt-leb, ne_eqb, leb, length, length-drop, get_or-drop, ext_get_or, take, drop, length-take-le, take-append-drop, drop_at}
use Rattle.positions.specs.Positions.{Positions}
use Rattle.positions.specs.Runs.{Run, runs, changed_runs, encoded}
use Rattle.positions.proofs.Changes.{own_runs, changed_few}
use Rattle.positions.specs.Replies.{number, refusal}
use Rattle.positions.proofs.Replies.{numbers_refusal, number_is}
use Rattle.range_bitset.specs.Represents.{Represents, capacity_of}
use Rattle.range_bitset.specs.Answers.{storage_refusal, range_refusal}
use Rattle.range_bitset.proofs.AcceptedHeads.{range_accepts}
use Rattle.range_bitset.specs.declared.RangeBitset.{RangeBitset}
use Rattle.std.proofs.Common.{Ok, Err}
use Rattle.answers.specs.Refusals.{number_of}
use Rattle.answers.specs.declared.Refusal.{Refusal}
use Rattle.answers.specs.declared.Refusal.TheVariants.{NoRoom}
use Rattle.answers.proofs.Numbers.{number_some}
use Rattle.saved_list.specs.Format.{header_bytes, run_bytes, file_of}
use Rattle.saved_list.proofs.WrittenFiles.{file_length}
use Rattle.set_runs.specs.Walks.{RunsFit, WritesRuns}
use Rattle.list_writer.specs.Entry.{file_for, write_reply, write_refusal, WriteEnsures}
use Rattle.list_writer.specs.Inner.{overwritten}
use Rattle.list_writer.proofs.Stores.{over_length, over_drop, over_front}

-- ---- the reply, by the number of runs

reply_long : (bytes : List ℕ) (n : ℕ) → length bytes ≤ n → write_reply bytes n ≡ number (length bytes)
unfolding write_reply
reply_long bytes n l = ap (λ (b : Bool). cond b (number (length bytes)) (refusal 9)) (le-leb (length bytes) n l)

reply_short : (bytes : List ℕ) (n : ℕ) → n < length bytes → write_reply bytes n ≡ refusal 9
unfolding write_reply
reply_short bytes n l = ap (λ (b : Bool). cond b (number (length bytes)) (refusal 9)) (lt-leb (length bytes) n l)

-- an accepted reply is the bytes' length, and they fit
pub reply_is : (bytes : List ℕ) (n m : ℕ) → number n ≡ write_reply bytes m → (n ≡ length bytes) × (length bytes ≤ m)
unfolding write_reply
reply_is bytes n m e = by (leb (length bytes) m) refl e
  where
    by : (b : Bool) → leb (length bytes) m ≡ b → number n ≡ cond b (number (length bytes)) (refusal 9) → (n ≡ length bytes) × (length bytes ≤ m)
    by true x e = (number_is n (length bytes) e, leb-true (length bytes) m x)
    by false x e = absurd (numbers_refusal _ _ _ e)

-- the bytes of a head's capacity, in their parts
file_parts : (h : RangeBitset) (rs : List Run) (n : ℕ) → n ≡ length rs → header_bytes h.words n ++ encoded run_bytes rs ≡ file_of (capacity_of h) rs
unfolding file_of
file_parts h rs n e =
    let w : h.words ≡ capacity_of h / 64 = omega arith in
    ap₂ (λ (k m : ℕ). header_bytes k m ++ encoded run_bytes rs) w e

-- ---- the refusals, as far as numbers fix them

pub refusal_first : (h : RangeBitset) (n k : ℕ) → (storage_refusal h n ≡ 0 → ⊥) → write_refusal h n k ≡ storage_refusal h n
unfolding write_refusal
refusal_first h n k f = rw (ne_eqb (storage_refusal h n) 0 f)

refusal_next : (h : RangeBitset) (n k : ℕ) → storage_refusal h n ≡ 0 → write_refusal h n k ≡ cond (leb 11 k) 0 9
unfolding write_refusal
refusal_next h n k z = rw z

-- ---- refused: whatever the reason, the call gives its number and the buffer as it was

module _ (h : RangeBitset) (st file : List ℕ) (k : Refusal) where
  declined : ((write_refusal h (length st) (length file) ≡ 0 → ⊥) → refusal (number_of k) ≡ refusal (write_refusal h (length st) (length file)))
      → (write_refusal h (length st) (length file) ≡ 0 → number_of k ≡ 9) → (storage_refusal h (length st) ≡ 0 → length file < 11 + 4 * capacity_of h)
      → (storage_refusal h (length st) ≡ 0 → (s : Positions) → Represents h st s → refusal (number_of k) ≡ write_reply (file_for h s) (length file))
      → WriteEnsures h st file (Err k) file
  declined a b c d =
      record {
        refuses = a;
        only_9 = λ z. inr (ap refusal (b z));
        long_9 = λ z l. absurd (omega (arith, c z));
        unchanged = λ y. refl;
        same_length = refl;
        inside = λ n e. absurd (numbers_refusal _ _ _ (sym e));
        file_kept = λ n e. refl;
        answers = d;
        writes = λ y s r. absurd y;
      }

-- 2 and 3
pub declined_head : (h : RangeBitset) (st file : List ℕ) (k : Refusal) → number_of k ≡ storage_refusal h (length st) → WriteEnsures h st file (Err k) file
declined_head h st file k e =
    let n = number_some k in
    let f = refusal_first h (length st) (length file) (λ z. n (e ∙ z)) in
    declined h st file k (λ x. ap refusal (e ∙ sym f)) (λ z. absurd (n (e ∙ sym f ∙ z))) (λ z. absurd (n (e ∙ z))) (λ z s r. absurd (n (e ∙ z)))

-- 9 where the header does not fit
pub declined_header : (h : RangeBitset) (st file : List ℕ) → storage_refusal h (length st) ≡ 0 → length file < 11 → WriteEnsures h st file (Err NoRoom) file
declined_header h st file z l =
    let f : write_refusal h (length st) (length file) ≡ 9 = rw (refusal_next h (length st) (length file) z, lt-leb 11 (length file) l) in
    declined h st file NoRoom (λ x. ap refusal (sym f)) (λ y. refl) (λ y. omega arith)
    (λ y s r. sym (reply_short (file_for h s) (length file) (omega (arith, file_length (capacity_of h) (runs s 0 (capacity_of h))))))

-- as many runs as the buffer has room for, or as the capacity can have
module _ (h : RangeBitset) (st file : List ℕ) (most : ℕ) (z : storage_refusal h (length st) ≡ 0) (long : 11 ≤ length file)
    (room : most ≡ min ((length file - 11) / 8) (capacity_of h / 2)) where
  accepted_header : write_refusal h (length st) (length file) ≡ 0
  accepted_header = rw (refusal_next h (length st) (length file) z, le-leb 11 (length file) long)

  in_range : range_refusal h (length st) (capacity_of h) ≡ 0
  in_range = range_accepts h (length st) (capacity_of h) z (omega arith)

  -- the runs of the set, as the walk has them
  own : (s : Positions) → length (changed_runs s 0 (capacity_of h) false) ≡ length (runs s 0 (capacity_of h))
  own s = ap length (own_runs s 0 (capacity_of h))

  -- 9 where the runs do not fit
  pub declined_runs : (fit : Bool) → RunsFit h st 0 (capacity_of h) false most fit → fit ≡ false → WriteEnsures h st file (Err NoRoom) file
  declined_runs fit f not_fit =
      declined h st file NoRoom (λ x. absurd (x accepted_header)) (λ y. refl) (λ y. short) (λ y s r. sym (reply_short (file_for h s) (length file) (many s r)))
    where
      short : length file < 11 + 4 * capacity_of h
      short = by (leb (capacity_of h - 0) (2 * most)) refl
        where
          by : (b : Bool) → leb (capacity_of h - 0) (2 * most) ≡ b → length file < 11 + 4 * capacity_of h
          by true x = absurd (true≢false (sym (f.short (leb-true (capacity_of h - 0) (2 * most) x)) ∙ not_fit))
          by false x = omega (arith, leb-false (capacity_of h - 0) (2 * most) x)

      many : (s : Positions) → Represents h st s → length file < length (file_for h s)
      many s r =
          let x : leb (length (changed_runs s 0 (capacity_of h) false)) most ≡ false = sym (f.fits in_range s r) ∙ not_fit in
          omega (arith, leb-false (length (changed_runs s 0 (capacity_of h) false)) most x, own s, changed_few s 0 (capacity_of h) false, file_length (capacity_of h) (runs s 0 (capacity_of h)))

  -- the runs behind the header's place, then the header
  module _ (file₁ file₂ : List ℕ) (n r : ℕ) (fit : Bool) (f : RunsFit h st 0 (capacity_of h) false most fit) (yes : fit ≡ true)
      (w : WritesRuns run_bytes h st 0 (capacity_of h) false most n 11 (11 + 8 * n) file file₁)
      (e : file₂ ≡ overwritten 0 (header_bytes h.words n) file₁) (answer : r ≡ 11 + 8 * n) where
    inside : r ≤ length file
    inside = omega (arith, w.most_runs)

    -- what stands behind the runs
    behind : drop (11 + 8 * n) file₁ ≡ drop (11 + 8 * n) file
    behind =
        ext_get_or 0 (drop (11 + 8 * n) file₁) (drop (11 + 8 * n) file) (length-drop (11 + 8 * n) file₁ ∙ ap (λ (k : ℕ). k - (11 + 8 * n)) w.same_length ∙ sym (length-drop (11 + 8 * n) file))
        (λ i l. get_or-drop (11 + 8 * n) file₁ i 0 ∙ w.others (11 + 8 * n + i) (inr (omega arith)) ∙ sym (get_or-drop (11 + 8 * n) file i 0))

    kept : drop (11 + 8 * n) file₂ ≡ drop (11 + 8 * n) file
    kept = ap (drop (11 + 8 * n)) e ∙ over_drop 0 (11 + 8 * n) (header_bytes h.words n) file₁ (omega arith) ∙ behind

    -- the buffer, in its parts
    front : file₂ ≡ header_bytes h.words n ++ drop 11 file₁
    front = e ∙ over_front (header_bytes h.words n) file₁ (omega (arith, w.same_length))

    few : (s : Positions) → Represents h st s → length (changed_runs s 0 (capacity_of h) false) ≤ most
    few s t = leb-true (length (changed_runs s 0 (capacity_of h) false)) most (sym (f.fits in_range s t) ∙ yes)

    count : (s : Positions) → Represents h st s → n ≡ length (runs s 0 (capacity_of h))
    count s t = w.all_runs in_range s t (few s t) ∙ own s

    as_long : (s : Positions) → Represents h st s → length (file_for h s) ≡ r
    as_long s t = omega (arith, file_length (capacity_of h) (runs s 0 (capacity_of h)), count s t)

    runs_stand : (s : Positions) → Represents h st s → drop 11 file₁ ≡ encoded run_bytes (runs s 0 (capacity_of h)) ++ drop (11 + 8 * n) file
    runs_stand s t =
        ap (drop 11) (sym (take-append-drop (11 + 8 * n) file₁)
        ∙ ap₂ (λ (l m : List ℕ). l ++ m) (w.written_are in_range s t (few s t)) behind
        ∙ append_assoc (take 11 file) (encoded run_bytes (changed_runs s 0 (capacity_of h) false)) (drop (11 + 8 * n) file))
        ∙ drop_at (take 11 file) (encoded run_bytes (changed_runs s 0 (capacity_of h) false) ++ drop (11 + 8 * n) file) 11 (length-take-le 11 file long)
        ∙ ap (λ (rs : List Run). encoded run_bytes rs ++ drop (11 + 8 * n) file) (own_runs s 0 (capacity_of h))

    whole : (s : Positions) → Represents h st s → file₂ ≡ file_for h s ++ drop (length (file_for h s)) file
    whole s t =
        front ∙ ap (λ (m : List ℕ). header_bytes h.words n ++ m) (runs_stand s t)
        ∙ sym (append_assoc (header_bytes h.words n) (encoded run_bytes (runs s 0 (capacity_of h))) (drop (11 + 8 * n) file))
        ∙ ap₂ (λ (l : List ℕ) (k : ℕ). l ++ drop k file) (file_parts h (runs s 0 (capacity_of h)) n (count s t)) (sym answer ∙ sym (as_long s t))

    pub written : WriteEnsures h st file (Ok r) file₂
    written =
        record {
          refuses = λ x. absurd (x accepted_header);
          only_9 = λ y. inl tt;
          long_9 = λ y l. tt;
          unchanged = λ y. absurd (y tt);
          same_length = ap length e ∙ over_length 0 (header_bytes h.words n) file₁ ∙ w.same_length;
          inside = λ k x. omega (arith, number_is r k x, inside);
          file_kept = λ k x. let p : 11 + 8 * n ≡ k = sym answer ∙ number_is r k x in rw (← p) kept;
          answers = λ y s t. ap number (sym (as_long s t)) ∙ sym (reply_long (file_for h s) (length file) (omega (arith, as_long s t, inside)));
          writes = λ y s t. whole s t;
        }
