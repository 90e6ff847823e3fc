-- What include/kladomyne.h says of klado_list_write on any memory, from the export's promise. Assumes nothing.
use Rattle.capi_ledger.proofs.Kit.{Ok, Err, ◌≡◌, refl, ap, subst, sym, ◌≢◌, ◌⊎◌, inl, inr, List, ℕ, ◌+◌, ◌*◌, ◌≤◌, arith, length, drop}
use Rattle.positions.specs.Replies.{Reply, refusal, refused, Accepted}
use Rattle.positions.proofs.Replies.{accepted_refused}
use Rattle.answers.specs.Refusals.{number_of}
use Rattle.range_bitset.specs.Answers.{Counted, storage_refusal}
use Rattle.list_writer.specs.Entry.{write_refusal, WriteEnsures}
use Rattle.capi_told.specs.declared.KladoSet.{KladoSet}
use Rattle.capi_told.specs.declared.KladoAnswer.{KladoAnswer}
use Rattle.capi_told.specs.Told.{set_of, told_counted}
use Rattle.capi_ledger.specs.LedgerTold.{WriteTold}

pub record ListWritten (h : KladoSet) (st file : List ℕ) (c : KladoAnswer) (file' : List ℕ) : Type 0 where
  -- 2, 3, and 9 where there is no room for the header, are exact; 9 is the only other refusal, and none where every list fits
  pub refusal : write_refusal (set_of h) (length st) (length file) ≢ 0 → c.refused ≡ write_refusal (set_of h) (length st) (length file)
  pub only_9 : write_refusal (set_of h) (length st) (length file) ≡ 0 → (c.refused ≡ 0) ⊎ (c.refused ≡ 9)
  pub long_9 : storage_refusal (set_of h) (length st) ≡ 0 → 11 + 4 * (64 * h.words) ≤ length file → c.refused ≡ 0
  -- a refused call has the value 0 and writes nothing; an accepted one nothing at or past its value, which lies in the buffer
  pub value : c.refused ≢ 0 → c.value ≡ 0
  pub file_same : c.refused ≢ 0 → file' ≡ file
  pub inside : c.refused ≡ 0 → c.value ≤ length file
  pub past : c.refused ≡ 0 → drop c.value file' ≡ drop c.value file

nine : (r : Reply) → Accepted r ⊎ (r ≡ refusal 9) → (refused r ≡ 0) ⊎ (refused r ≡ 9)
nine r (inl z) = inl (accepted_refused r z)
nine r (inr e) = inr (ap refused e)

of_answer : (h : KladoSet) (st file file' : List ℕ) (r : Counted) → WriteEnsures (set_of h) st file r file' → ListWritten h st file (told_counted r) file'
of_answer h st file file' (Ok n) p =
    record {
      refusal = λ z. ap refused (p.refuses z);
      only_9 = λ z. inl refl;
      long_9 = λ z l. refl;
      value = λ z. absurd (z refl);
      file_same = λ z. absurd (z refl);
      inside = λ z. p.inside n refl;
      past = λ z. p.file_kept n refl;
    }
of_answer h st file file' (Err k) p =
    record {
      refusal = λ z. ap refused (p.refuses z);
      only_9 = λ z. nine (refusal (number_of k)) (p.only_9 z);
      long_9 = λ z l. absurd (p.long_9 z l);
      value = λ z. refl;
      file_same = λ z. p.unchanged (λ y. y);
      inside = λ z. omega arith;
      past = λ z. p.unchanged (λ y. y);
    }

pub list_written : (h : KladoSet) (st file : List ℕ) (c : KladoAnswer) (file' : List ℕ) → WriteTold h st file c file' → ListWritten h st file c file'
list_written h st file c file' t =
    subst (λ (x : KladoAnswer). ListWritten h st file x file') (sym t.told) (of_answer h st file file' t.answer t.promised)
