-- What include/kladomyne.h says of every answer of a ledger's call, on any memory, from the exports' promises: the refusal's
-- number, the bad run's index, what a refused answer has beside it, that a refused call changes nothing, and what of the head
-- holds in any case.
-- Assumes nothing.
use Rattle.capi_ledger.proofs.Kit.{Ok, Err, ◌≡◌, refl, sym, ap, ◌∙◌, ◌≢◌, ◌⊎◌, inl, inr, Bool, true, false, List, [], ◌∷◌, ℕ, ◌-◌, ◌≤◌, arith, eqb-true, eqb-false, eqb, length}
use Rattle.positions.proofs.Replies.{accepted_refused}
use Rattle.positions.specs.Replies.{Reply, numbers, refused_with, refusal, refused, Accepted}
use Rattle.range_bitset.specs.Answers.{of_counted}
use Rattle.ledger.specs.Machine.{Call, wipe}
use Rattle.ledger.specs.Memory.{Memory, memory, call_refusal}
use Rattle.answers.specs.Refusals.{answer_in, head_after}
use Rattle.ledger.specs.Entries.{Called, Opened, CallEnsures, CalledEnsures, ranges, most_need, of_opened, open_reply}
use Rattle.ledger.specs.declared.NotOpened.TheVariants as why
use Rattle.capi_ledger.specs.declared.KladoLedger.{KladoLedger}
use Rattle.capi_ledger.specs.declared.KladoLedgerAnswer.{KladoLedgerAnswer}
use Rattle.capi_ledger.specs.declared.KladoOpened.{KladoOpened}
use Rattle.capi_ledger.specs.LedgerTold.{ledger_of, ledger_head, unopened, told_opened, told_called, CallTold, WipeTold, OpenTold}
use Rattle.capi_told.proofs.Numbers.{counted_refused, counted_bare}

-- ---- new and open

-- a refused answer has the head of zeros
pub opened_bare : (a : Opened) → (told_opened a).refused ≢ 0 → (told_opened a).head ≡ (unopened 0 0).head
opened_bare (Ok h) z = absurd (z refl)
opened_bare (Err (why.Refused k)) z = refl
opened_bare (Err (why.BadRun i)) z = refl

-- an index comes with 8 alone
pub opened_run : (a : Opened) → (told_opened a).refused ≢ 8 → (told_opened a).run ≡ 0
opened_run (Ok h) z = refl
opened_run (Err (why.Refused k)) z = refl
opened_run (Err (why.BadRun i)) z = absurd (z refl)

-- the value beside a refusal, 0 where there is none
abbrev pub beside : Reply → ℕ
beside (numbers ns) = 0
beside (refused_with k []) = 0
beside (refused_with k (i ∷ vs)) = i

opened_number : (a : Opened) → (told_opened a).refused ≡ refused (of_opened a)
opened_number (Ok h) = refl
opened_number (Err (why.Refused k)) = refl
opened_number (Err (why.BadRun i)) = refl

opened_index : (a : Opened) → (told_opened a).run ≡ beside (of_opened a)
opened_index (Ok h) = refl
opened_index (Err (why.Refused k)) = refl
opened_index (Err (why.BadRun i)) = refl

-- open: both numbers, and a refused call leaves the storage
pub record Unopened (file : List ℕ) (j : ℕ) (st journal : List ℕ) (c : KladoOpened) (st' : List ℕ) : Type 0 where
  pub refusal : c.refused ≡ refused (open_reply file j (length st) (length journal))
  pub run : c.run ≡ beside (open_reply file j (length st) (length journal))
  pub storage : c.refused ≢ 0 → st' ≡ st

pub open_declines : (file : List ℕ) → (j : ℕ) → (st journal : List ℕ) → (c : KladoOpened) → (st' : List ℕ)
    → OpenTold file j st journal c st' → Unopened file j st journal c st'
open_declines file j st journal c st' t =
    let told_number : c.refused ≡ refused (of_opened t.answer) = ap (λ (x : KladoOpened). x.refused) t.told ∙ opened_number t.answer in
    record {
      refusal = told_number ∙ ap refused t.promised.refuses;
      run = ap (λ (x : KladoOpened). x.run) t.told ∙ opened_index t.answer ∙ ap beside t.promised.refuses;
      storage = λ z. t.promised.unchanged (λ e. z (told_number ∙ accepted_refused (of_opened t.answer) e));
    }

-- ---- marking, clearing, take-back and wipe: the refusal k that the table has on any memory, what a refused call leaves, and
-- what of the head holds in any case

pub record Declines (k most : ℕ) (h : KladoLedger) (st j : List ℕ) (c : KladoLedgerAnswer) (st' j' : List ℕ) : Type 0 where
  pub refusal : k ≢ 0 → c.refused ≡ k
  pub only_6 : k ≡ 0 → (c.refused ≡ 0) ⊎ (c.refused ≡ 6)
  pub short_6 : k ≡ 0 → most ≤ h.journal - h.used → c.refused ≡ 0
  pub value : c.refused ≢ 0 → c.value ≡ 0
  pub head : c.refused ≢ 0 → c.head ≡ h
  pub storage : c.refused ≢ 0 → st' ≡ st
  pub journal : c.refused ≢ 0 → j' ≡ j
  pub words : c.head.set.words ≡ h.set.words
  pub limit : c.head.journal ≡ h.journal
  pub used_most : c.refused ≡ 0 → c.head.used ≤ h.journal

six : (n : ℕ) → (r : Reply) → (Q : Type 0) → n ≡ refused r → Accepted r ⊎ ((r ≡ refusal 6) × Q) → (n ≡ 0) ⊎ (n ≡ 6)
six n r Q e (inl z) = inl (e ∙ accepted_refused r z)
six n r Q e (inr s) = inr (e ∙ ap refused s.0)

-- no number beside 0 is an acceptance: a refusal is 6 or the table's
accepts : (k : Call) (x : Memory) (r : Reply) (y : Memory) → CallEnsures k x r y → refused r ≡ 0 → Accepted r
accepts k x r y p z = by (eqb (call_refusal k x) 0) refl
  where
    of_six : Accepted r ⊎ ((r ≡ refusal 6) × (ranges k ≡ true)) → Accepted r
    of_six (inl a) = a
    of_six (inr s) = absurd (let w : ◌≡◌ {A = ℕ} 6 0 = sym (ap refused s.0) ∙ z in omega arith)

    by : (b : Bool) → eqb (call_refusal k x) 0 ≡ b → Accepted r
    by true e = of_six (p.only_6 (eqb-true (call_refusal k x) 0 e))
    by false e = absurd (eqb-false (call_refusal k x) 0 e (sym (ap refused (p.refuses (eqb-false (call_refusal k x) 0 e))) ∙ z))

declines : (k : Call) → (h : KladoLedger) → (st j st' j' : List ℕ) → (r : Called) → CalledEnsures k (ledger_of h) st j st' j' r
    → (c : KladoLedgerAnswer) → c ≡ told_called h r → Declines (call_refusal k (memory (ledger_of h) st j)) (most_need k) h st j c st' j'
declines k h st j st' j' r p c t =
    let same : c.refused ≡ refused (of_counted (answer_in r)) = ap (λ (x : KladoLedgerAnswer). x.refused) t ∙ counted_refused (answer_in r) in
    let kept : c.refused ≢ 0 → memory (head_after (ledger_of h) r) st' j' ≡ memory (ledger_of h) st j = λ z. p.unchanged (λ e. z (same ∙ accepted_refused (of_counted (answer_in r)) e)) in
    record {
      refusal = λ z. same ∙ ap refused (p.refuses z);
      only_6 = λ z. six _ _ _ same (p.only_6 z);
      short_6 = λ z m. same ∙ accepted_refused (of_counted (answer_in r)) (p.short_6 z m);
      value = λ z. ap (λ (x : KladoLedgerAnswer). x.value) t
          ∙ counted_bare (answer_in r) (λ e. z (ap (λ (x : KladoLedgerAnswer). x.refused) t ∙ e));
      head = λ z. ap (λ (x : KladoLedgerAnswer). x.head) t ∙ ap (λ (x : Memory). ledger_head x.head) (kept z);
      storage = λ z. ap (λ (x : Memory). x.storage) (kept z);
      journal = λ z. ap (λ (x : Memory). x.journal) (kept z);
      words = ap (λ (x : KladoLedgerAnswer). x.head.set.words) t ∙ p.same_words;
      limit = ap (λ (x : KladoLedgerAnswer). x.head.journal) t ∙ p.same_limit;
      used_most = λ z.
          omega
          (arith, ap (λ (x : KladoLedgerAnswer). x.head.used) t, p.same_limit, p.used_most (accepts k _ _ _ p (sym same ∙ z)));
    }

pub call_declines : (k : Call) → (h : KladoLedger) → (st j : List ℕ) → (c : KladoLedgerAnswer) → (st' j' : List ℕ)
    → CallTold k h st j c st' j' → Declines (call_refusal k (memory (ledger_of h) st j)) (most_need k) h st j c st' j'
call_declines k h st j c st' j' t = declines k h st j st' j' t.answer t.promised c t.told

pub wipe_declines : (h : KladoLedger) → (st : List ℕ) → (c : KladoLedgerAnswer) → (st' : List ℕ) → WipeTold h st c st'
    → (j : List ℕ) → Declines (call_refusal wipe (memory (ledger_of h) st j)) 0 h st j c st' j
wipe_declines h st c st' t j = declines wipe h st j st' j t.answer (t.promised j) c t.told
