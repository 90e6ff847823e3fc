-- The returns of `new` and `open`: what each gives, from what the code has there. Assumes nothing.
use Rattle.ledger.proofs.Kit.{◌≡◌, refl, sym, ap, ◌∙◌, subst, Bool, true, false, not, ◌&&◌, cond, List, [], ◌∷◌, ℕ, ◌*◌, ◌/◌, ◌≤◌, ◌<◌, arith, le-leb, lt-leb, lt-ltb, le-ltb, eqb, leb, leb-true, length}
use Rattle.positions.proofs.Replies.{numbers_refusal}
use Rattle.positions.specs.Positions.{Positions, none}
use Rattle.positions.specs.Runs.{Ascending}
use Rattle.positions.proofs.Runs.{covered_above}
use Rattle.range_bitset.specs.Represents.{Represents}
use Rattle.range_bitset.specs.Answers.{allowed_capacity, storage_refusal}
use Rattle.std.proofs.Common.{Ok, Err}
use Rattle.positions.proofs.Bools.{and_left, and_right}
use Rattle.answers.specs.Refusals.{number_of}
use Rattle.answers.specs.declared.Refusal.{Refusal}
use Rattle.answers.specs.declared.Refusal.TheVariants.{Size}
use Rattle.answers.proofs.Numbers.{number_short, number_some}
use Rattle.range_bitset.specs.Entries.{new_of as set_new}
use Rattle.range_bitset.specs.declared.RangeBitset.{RangeBitset}
use Rattle.range_bitset.proofs.AcceptedHeads.{fresh_head, fresh_represents}
use Rattle.ledger.specs.Entries.{Opened, new_head, new_of, of_opened, open_reply, OpenEnsures}
use Rattle.ledger.specs.Machine.{opened_with, set_of, used}
use Rattle.ledger.specs.Memory.{lent_enough, lent_refusal, memory, Holds}
use Rattle.ledger.specs.Inner.{fresh_of, Within, Reassigns, file_runs}
use Rattle.ledger.proofs.Machines.{reachable_opened}
use Rattle.ledger.proofs.Refusals.{LentEnough, lent_accepted, set_accepts, lent_again, fresh_refusal}
use Rattle.ledger.proofs.ReassignedRuns.{ascending_within, ascending_any}
use Rattle.saved_list.specs.Format.{saved_words, saved_count, saved_capacity, saved_runs, saved_positions, Headed, Whole, headed, whole, held_count, first_bad_run}
use Rattle.positions.specs.Replies.{numbers, refused_with, number, nothing, refusal}
use Rattle.saved_list.specs.Answers.{of_header, header_reply, of_length_check, length_reply, of_run_check, runs_reply}
use Rattle.saved_list.specs.declared.Header.{Header}
use Rattle.saved_list.specs.declared.BadRun.{BadRun}
use Rattle.saved_list.proofs.Bytes.{yes_headed, yes_whole, whole_held}
use Rattle.saved_list.proofs.Lists.{runs_length, all_assigned}
use Rattle.saved_list.proofs.GoodFiles.{HeaderRead, fields_read, length_whole, FirstBad, runs_ascending, runs_refused, ascending_count}
use Rattle.ledger.specs.declared.Ledger.{Ledger}
use Rattle.ledger.specs.declared.NotOpened.TheVariants as why

-- ---- the set's head

pub set_declined : (capacity : ℕ) (k : Refusal) → Err k ≡ set_new capacity → (k ≡ Size) × (allowed_capacity capacity ≡ false)
unfolding set_new
set_declined capacity k e = go (allowed_capacity capacity) refl e
  where
    go : (b : Bool) → allowed_capacity capacity ≡ b → Err k ≡ cond b (Ok (fresh_head (capacity / 64))) (Err Size)
        → (k ≡ Size) × (allowed_capacity capacity ≡ false)
    go true x y = cc
    go false x y = ((cc), x)

pub set_made : (capacity : ℕ) (h : RangeBitset) → Ok h ≡ set_new capacity → (allowed_capacity capacity ≡ true) × (h ≡ fresh_head (capacity / 64))
unfolding set_new
set_made capacity h e = go (allowed_capacity capacity) refl e
  where
    go : (b : Bool) → allowed_capacity capacity ≡ b → Ok h ≡ cond b (Ok (fresh_head (capacity / 64))) (Err Size)
        → (allowed_capacity capacity ≡ true) × (h ≡ fresh_head (capacity / 64))
    go true x y = (x, (cc))
    go false x y = cc

-- ---- the head of a ledger with nothing in it

fresh_case : (capacity j : ℕ) (b : Bool) → (allowed_capacity capacity && leb j 16384) ≡ b → fresh_of capacity j ≡ cond b (Ok (new_head (capacity / 64) j false)) (Err Size)
unfolding fresh_of
fresh_case capacity j b e = rw e

pub fresh_declined : (capacity j : ℕ) (k : Refusal) → Err k ≡ fresh_of capacity j → (k ≡ Size) × ((allowed_capacity capacity && leb j 16384) ≡ false)
fresh_declined capacity j k e = go (allowed_capacity capacity && leb j 16384) refl
  where
    go : (b : Bool) → (allowed_capacity capacity && leb j 16384) ≡ b → (k ≡ Size) × ((allowed_capacity capacity && leb j 16384) ≡ false)
    go true x = let q = fresh_case capacity j true x in cc
    go false x = let q = fresh_case capacity j false x in ((cc), x)

pub fresh_made : (capacity j : ℕ) (h : Ledger) → Ok h ≡ fresh_of capacity j
    → (allowed_capacity capacity ≡ true) × (j ≤ 16384) × (h ≡ new_head (capacity / 64) j false)
fresh_made capacity j h e = go (allowed_capacity capacity && leb j 16384) refl
  where
    go : (b : Bool) → (allowed_capacity capacity && leb j 16384) ≡ b → (allowed_capacity capacity ≡ true) × (j ≤ 16384) × (h ≡ new_head (capacity / 64) j false)
    go true x =
        let q = fresh_case capacity j true x in
        (and_left (allowed_capacity capacity) (leb j 16384) x, leb-true j 16384 (and_right (allowed_capacity capacity) (leb j 16384) x), (cc))
    go false x = let q = fresh_case capacity j false x in cc

-- its returns
pub fresh_capacity : (capacity j : ℕ) → allowed_capacity capacity ≡ false → Err Size ≡ fresh_of capacity j
unfolding fresh_of
fresh_capacity capacity j e = rw e

pub fresh_journal : (capacity j : ℕ) → allowed_capacity capacity ≡ true → 16384 < j → Err Size ≡ fresh_of capacity j
unfolding fresh_of
fresh_journal capacity j e l = rw (e, lt-leb j 16384 l)

pub fresh_done : (capacity j : ℕ) → allowed_capacity capacity ≡ true → j ≤ 16384 → Ok (new_head (capacity / 64) j false) ≡ fresh_of capacity j
unfolding fresh_of
fresh_done capacity j e l = rw (e, le-leb j 16384 l)

-- what is lent to it is enough exactly where it is not refused
module _ (capacity j n k : ℕ) (h : Ledger) (e : Ok h ≡ fresh_of capacity j) where
  lent_is : lent_refusal h n k ≡ cond (lent_enough (capacity / 64) j n k) 0 3
  lent_is =
      let m = fresh_made capacity j h e in
      ap (λ (x : Ledger). lent_refusal x n k) m.2 ∙ fresh_refusal capacity j n k m.0 m.1

  pub lent_less : (r : Refusal) → number_of r ≡ lent_refusal h n k → (lent_enough (capacity / 64) j n k ≡ false) × (number_of r ≡ 3)
  lent_less r q = go (lent_enough (capacity / 64) j n k) refl (q ∙ lent_is)
    where
      go : (b : Bool) → lent_enough (capacity / 64) j n k ≡ b → number_of r ≡ cond b 0 3 → (lent_enough (capacity / 64) j n k ≡ false) × (number_of r ≡ 3)
      go true x y = absurd (number_some r y)
      go false x y = (x, y)

  pub lent_more : lent_refusal h n k ≡ 0 → lent_enough (capacity / 64) j n k ≡ true
  lent_more q = go (lent_enough (capacity / 64) j n k) refl (sym lent_is ∙ q)
    where
      go : (b : Bool) → lent_enough (capacity / 64) j n k ≡ b → ◌≡◌ {A = ℕ} (cond b 0 3) 0 → lent_enough (capacity / 64) j n k ≡ true
      go true x y = x
      go false x y = absurd (omega arith)

-- ---- `new`

module _ (capacity j n k : ℕ) where
  pub new_size : (r : Refusal) → Err r ≡ fresh_of capacity j → Err r ≡ new_of capacity j n k
  unfolding new_of
  new_size r e = let d = fresh_declined capacity j r e in rw (d.0, d.1)

  module _ (h : Ledger) (e : Ok h ≡ fresh_of capacity j) where
    pub new_lent : (r : Refusal) → number_of r ≡ lent_refusal h n k → Err r ≡ new_of capacity j n k
    unfolding new_of
    new_lent r q =
        let m = fresh_made capacity j h e in
        let d = lent_less capacity j n k h e r q in
        rw (number_short r d.1, m.0, le-leb j 16384 m.1, d.0)

    pub new_done : lent_refusal h n k ≡ 0 → Ok h ≡ new_of capacity j n k
    unfolding new_of
    new_done q =
        let m = fresh_made capacity j h e in
        rw (m.2, m.0, le-leb j 16384 m.1, lent_more capacity j n k h e q)

-- ---- `open`: the refusals

-- a refused call leaves the storage as it is
pub open_declined : (file : List ℕ) (j : ℕ) (st lent : List ℕ) (r : Opened) (k : ℕ) (vs : List ℕ) → of_opened r ≡ refused_with k vs
    → refused_with k vs ≡ open_reply file j (length st) (length lent) → OpenEnsures file j st lent r st
open_declined file j st lent r k vs p e =
    record {
      refuses = p ∙ e;
      unchanged = λ w. refl;
      storage_kept = refl;
      holds = λ h q. absurd (numbers_refusal _ _ _ (sym (ap of_opened q) ∙ p));
      flag = λ h q. absurd (numbers_refusal _ _ _ (sym (ap of_opened q) ∙ p));
    }

-- the tests that a file passes in turn
module _ (file : List ℕ) where
  pub bad_header : (k : Refusal) → refusal (number_of k) ≡ header_reply file → (headed file ≡ false) × (number_of k ≡ 7)
  unfolding header_reply
  bad_header k e = go (headed file) refl e
    where
      go : (b : Bool) → headed file ≡ b → refusal (number_of k) ≡ cond b (numbers (saved_words file ∷ saved_count file ∷ [])) (refusal 7)
          → (headed file ≡ false) × (number_of k ≡ 7)
      go true x y = cc
      go false x y = (x, (cc))

  pub bad_length : (k : Refusal) → refusal (number_of k) ≡ length_reply file → (whole file ≡ false) × (number_of k ≡ 7)
  unfolding length_reply
  bad_length k e = go (whole file) refl e
    where
      go : (b : Bool) → whole file ≡ b → refusal (number_of k) ≡ cond b nothing (refusal 7) → (whole file ≡ false) × (number_of k ≡ 7)
      go true x y = cc
      go false x y = (x, (cc))

module _ (file : List ℕ) (j n k : ℕ) where
  pub refuse_header : headed file ≡ false → refusal 7 ≡ open_reply file j n k
  unfolding open_reply
  refuse_header e = rw e

  module _ (h : Headed file) where
    pub refuse_size : (allowed_capacity (saved_capacity file) && leb j 16384) ≡ false → refusal 1 ≡ open_reply file j n k
    unfolding open_reply
    refuse_size e = rw (yes_headed file h, e)

    module _ (a : allowed_capacity (saved_capacity file) ≡ true) where
      module _ (l : j ≤ 16384) where
        pub refuse_length : whole file ≡ false → refusal 7 ≡ open_reply file j n k
        unfolding open_reply
        refuse_length e = rw (yes_headed file h, a, le-leb j 16384 l, e)

        module _ (w : Whole file) where
          pub refuse_lent : lent_enough (saved_words file) j n k ≡ false → refusal 3 ≡ open_reply file j n k
          unfolding open_reply
          refuse_lent e = rw (yes_headed file h, a, le-leb j 16384 l, yes_whole file w, e)

          module _ (e : lent_enough (saved_words file) j n k ≡ true) where
            pub refuse_run : (i : ℕ) → FirstBad file i → refused_with 8 (i ∷ []) ≡ open_reply file j n k
            unfolding open_reply
            refuse_run i b =
                rw (yes_headed file h, a, le-leb j 16384 l, yes_whole file w, e, b.first, lt-ltb i (saved_count file) b.below)

            pub refuse_none : Ascending 0 (saved_capacity file) (saved_runs file) → number 0 ≡ open_reply file j n k
            unfolding open_reply
            refuse_none c =
                rw (yes_headed file h, a, le-leb j 16384 l, yes_whole file w, e, le-ltb (first_bad_run file) (saved_count file) (omega (arith, ascending_count file c)))

-- ---- `open`: accepted

module _ (file : List ℕ) (j : ℕ) (st lent : List ℕ) (h : Headed file) (a : allowed_capacity (saved_capacity file) ≡ true) (l : j ≤ 16384) (w : Whole file)
    (e : lent_enough (saved_words file) j (length st) (length lent) ≡ true) (c : Ascending 0 (saved_capacity file) (saved_runs file))
    (h' : RangeBitset) (st' : List ℕ) (long : length st' ≡ length st)
    (o : Reassigns (fresh_head (saved_words file)) st (file_runs file (held_count file)) true h' st') where
  abbrev fresh : Ledger
  fresh = new_head (saved_words file) j false

  fresh_lent : LentEnough fresh j (length st) (length lent)
  fresh_lent =
      let p : saved_capacity file / 64 ≡ saved_words file = omega arith in
      lent_accepted fresh j (length st) (length lent)
      ((rw p at (fresh_refusal (saved_capacity file) j (length st) (length lent) a l)) ∙ ap (λ (b : Bool). cond b 0 3) e)

  ok : storage_refusal (fresh_head (saved_words file)) (length st) ≡ 0
  ok = set_accepts fresh j (length st) (length lent) fresh_lent

  in_file : Within (saved_capacity file) (file_runs file (saved_count file))
  unfolding saved_runs
  in_file = ascending_within 0 (saved_capacity file) (saved_capacity file) (saved_runs file) (omega arith) c

  runs_set : Reassigns (fresh_head (saved_words file)) st (file_runs file (saved_count file)) true h' st'
  runs_set = rw (whole_held file w) at o

  holds_file : Represents h' st' (saved_positions file)
  unfolding saved_runs
  holds_file =
      subst (λ (x : Positions). Represents h' st' x) (all_assigned file)
      (runs_set.represents ok none (fresh_represents (saved_words file) st) in_file)

  begun_file : h'.allocated ≡ not (eqb (saved_count file) 0)
  unfolding saved_runs
  begun_file =
      runs_set.flag ok none (fresh_represents (saved_words file) st) in_file
      ∙ ascending_any 0 (saved_capacity file) (saved_runs file) c
      ∙ ap (λ (x : ℕ). not (eqb x 0)) (runs_length file 0 (saved_count file))

  abbrev pub opened_head : Ledger
  opened_head = record { set = h'; journal = j; used = 0 }

  holds_all : Holds (memory opened_head st' lent) (opened_with (saved_capacity file) j (saved_positions file))
  unfolding set_of used saved_positions
  holds_all =
      record {
        reachable = reachable_opened (saved_capacity file) j (saved_positions file) (λ i u. covered_above 0 (saved_capacity file) (saved_runs file) c i u);
        lent = lent_again fresh opened_head (length st) (length lent) (length st') (length lent) st' (saved_positions file) fresh_lent
            o.same_words holds_file refl (omega arith) long refl;
        capacity = ap (λ (x : ℕ). 64 * x) o.same_words;
        journal_length = refl;
        in_use = refl;
        set = holds_file;
        journal = refl;
      }

  pub opened_file : OpenEnsures file j st lent (Ok opened_head) st'
  opened_file =
      record {
        refuses = refuse_none file j (length st) (length lent) h a l w e c;
        unchanged = λ z. absurd (z tt);
        storage_kept = o.storage_kept;
        holds = λ x q. subst (λ (y : Ledger). Holds (memory y st' lent) (opened_with (saved_capacity file) j (saved_positions file))) (same x q) holds_all;
        flag = λ x q. subst (λ (y : Ledger). y.set.allocated ≡ not (eqb (saved_count file) 0)) (same x q) begun_file;
      }
    where
      same : (x : Ledger) → ◌≡◌ {A = Opened} (Ok opened_head) (Ok x) → opened_head ≡ x
      same x q = cc

-- ---- the returns of `open`, from the answers that it has got by then

module _ (file : List ℕ) (j : ℕ) (st lent : List ℕ) where
  pub open_header : (k : Refusal) → of_header (Err k) ≡ header_reply file → OpenEnsures file j st lent (Err (why.Refused k)) st
  open_header k e =
      let p = bad_header file k e in
      open_declined file j st lent (Err (why.Refused k)) (number_of k) [] refl (ap refusal p.1 ∙ refuse_header file j (length st) (length lent) p.0)

  module _ (header : Header) (header_is : of_header (Ok header) ≡ header_reply file) where
    pub read : HeaderRead file header.words header.runs
    read = fields_read file header.words header.runs header_is

    pub open_size : (k : Refusal) → Err k ≡ fresh_of (64 * header.words) j → OpenEnsures file j st lent (Err (why.Refused k)) st
    open_size k e =
        let d = fresh_declined (64 * header.words) j k e in
        open_declined file j st lent (Err (why.Refused k)) (number_of k) [] refl
        (ap (λ (x : Refusal). refusal (number_of x)) d.0 ∙ refuse_size file j (length st) (length lent) read.headed (rw read.words_read at d.1))

    module _ (h : Ledger) (h_is : Ok h ≡ fresh_of (64 * header.words) j) where
      allowed_file : (allowed_capacity (saved_capacity file) ≡ true) × (j ≤ 16384) × (h ≡ new_head (saved_words file) j false)
      allowed_file =
          let m = fresh_made (64 * header.words) j h h_is in
          let w : 64 * header.words / 64 ≡ saved_words file = omega (arith, read.words_read) in
          (rw read.words_read at m.0, m.1, m.2 ∙ ap (λ (x : ℕ). new_head x j false) w)

      pub open_length : (k : Refusal) → of_length_check (Err k) ≡ length_reply file → OpenEnsures file j st lent (Err (why.Refused k)) st
      open_length k e =
          let p = bad_length file k e in
          open_declined file j st lent (Err (why.Refused k)) (number_of k) [] refl
          (ap refusal p.1 ∙ refuse_length file j (length st) (length lent) read.headed allowed_file.0 allowed_file.1 p.0)

      module _ (u : Unit {0}) (long_is : of_length_check (Ok u) ≡ length_reply file) where
        whole_file : Whole file
        whole_file = length_whole file long_is

        words_are : 64 * header.words / 64 ≡ saved_words file
        words_are = omega (arith, read.words_read)

        pub open_lent : (k : Refusal) → number_of k ≡ lent_refusal h (length st) (length lent) → OpenEnsures file j st lent (Err (why.Refused k)) st
        open_lent k e =
            let d = lent_less (64 * header.words) j (length st) (length lent) h h_is k e in
            open_declined file j st lent (Err (why.Refused k)) (number_of k) [] refl
            (ap refusal d.1 ∙ refuse_lent file j (length st) (length lent) read.headed allowed_file.0 allowed_file.1 whole_file (rw words_are at d.0))

        module _ (passed : lent_refusal h (length st) (length lent) ≡ 0) where
          enough : lent_enough (saved_words file) j (length st) (length lent) ≡ true
          enough = rw words_are at (lent_more (64 * header.words) j (length st) (length lent) h h_is passed)

          pub open_run : (bad : BadRun) → of_run_check (Err bad) ≡ runs_reply file → OpenEnsures file j st lent (Err (why.BadRun bad.index)) st
          open_run bad e =
              open_declined file j st lent (Err (why.BadRun bad.index)) 8 (bad.index ∷ []) refl
              (refuse_run file j (length st) (length lent) read.headed allowed_file.0 allowed_file.1 whole_file enough bad.index
              (runs_refused file whole_file bad.index e))

          pub open_done : (v : Unit {0}) → of_run_check (Ok v) ≡ runs_reply file → (h' : RangeBitset) (st' : List ℕ) → length st' ≡ length st
              → Reassigns h.set st (file_runs file (held_count file)) true h' st'
              → OpenEnsures file j st lent (Ok (record { set = h'; journal = h.journal; used = h.used })) st'
          open_done v e h' st' same o =
              let set_is : h.set ≡ fresh_head (saved_words file) = ap (λ (x : Ledger). x.set) allowed_file.2 in
              let journal_is : h.journal ≡ j = ap (λ (x : Ledger). x.journal) allowed_file.2 in
              let used_is : h.used ≡ 0 = ap (λ (x : Ledger). x.used) allowed_file.2 in
              rw (journal_is, used_is)
              (opened_file file j st lent read.headed allowed_file.0 allowed_file.1 whole_file enough (runs_ascending file whole_file e) h' st' same (rw set_is at o))
