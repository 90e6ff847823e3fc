-- What include/kladomyne.h says of every answer, on any memory, from the exports' promises: the refusal's number, what a
-- refused answer has beside it, that a refused call changes nothing, and which numbers an accepted one can have.
-- Assumes nothing.
use Rattle.capi.proofs.Kit.{◌≡◌, refl, ap, sym, ◌∙◌, ◌≢◌, Bool, true, false, cond, List, ℕ, ◌≤◌, ◌<◌, length}
use Rattle.positions.specs.Positions.{Positions}
use Rattle.positions.specs.Replies.{Reply, number, refusal, refused}
use Rattle.answers.specs.Refusals.{answer_in, refused_by}
use Rattle.range_bitset.specs.Answers.{Counted, of_counted, good_head, head_refusal, storage_refusal, range_refusal, point_refusal}
use Rattle.range_bitset.specs.Entries.{Changes, of_head}
use Rattle.range_bitset.specs.declared.RangeBitset.{RangeBitset}
use Rattle.combine.specs.Rules.{Rule}
use Rattle.combine.specs.Entry.{combine_refusal, CombineEnsures}
use Rattle.capi_told.specs.declared.KladoSet.{KladoSet}
use Rattle.capi_told.specs.declared.KladoSetAnswer.{KladoSetAnswer}
use Rattle.capi_told.specs.declared.KladoAnswer.{KladoAnswer}
use Rattle.capi_told.specs.declared.KladoFound.{KladoFound}
use Rattle.capi_told.specs.declared.KladoPlace.{KladoPlace}
use Rattle.capi_told.proofs.Numbers.{counted_refused, tested_refused, found_refused, placed_refused, found_lies, counted_bare, tested_bare, made_refused, made_value, made_bare}
use Rattle.capi_told.specs.Told.{set_of, head_of, with_head, told_counted}
use Rattle.capi.specs.Exports.{CapacityTold, LenTold, GetTold, SetTold, AssignTold, CountTold, NextTold, SelectTold, ClearTold, AuditTold, CombineTold}

-- ---- the calls that ask: the refusal

-- of a head alone
bare_head : (g : Bool) (n : ℕ) → refused (cond g (number n) (refusal 2)) ≡ cond g 0 2
bare_head true n = refl
bare_head false n = refl

head_refuses : (h : RangeBitset) (n : ℕ) (a : Counted) (c : KladoAnswer) → of_counted a ≡ of_head h n → c ≡ told_counted a
    → c.refused ≡ head_refusal h
unfolding of_head head_refusal
head_refuses h n a c p t =
    ap (λ (x : KladoAnswer). x.refused) t ∙ counted_refused a ∙ ap refused p ∙ bare_head (good_head h) n

pub capacity_refuses : (h : KladoSet) → (c : KladoAnswer) → CapacityTold h c → c.refused ≡ head_refusal (set_of h)
capacity_refuses h c t = head_refuses (set_of h) _ t.answer c t.promised t.told

pub len_refuses : (h : KladoSet) → (c : KladoAnswer) → LenTold h c → c.refused ≡ head_refusal (set_of h)
len_refuses h c t = head_refuses (set_of h) _ t.answer c t.promised t.told

pub get_refuses : (h : KladoSet) → (st : List ℕ) → (i : ℕ) → (c : KladoAnswer) → GetTold h st i c
    → c.refused ≡ point_refusal (set_of h) (length st) i
get_refuses h st i c t = ap (λ (x : KladoAnswer). x.refused) t.told ∙ tested_refused t.answer ∙ t.promised.refuses

pub count_refuses : (h : KladoSet) → (st : List ℕ) → (a e : ℕ) → (c : KladoAnswer) → CountTold h st a e c
    → c.refused ≡ range_refusal (set_of h) (length st) e
count_refuses h st a e c t = ap (λ (x : KladoAnswer). x.refused) t.told ∙ counted_refused t.answer ∙ t.promised.refuses

pub next_refuses : (v : Bool) → (h : KladoSet) → (st : List ℕ) → (a e : ℕ) → (c : KladoFound) → NextTold v h st a e c
    → c.refused ≡ range_refusal (set_of h) (length st) e
next_refuses v h st a e c t = ap (λ (x : KladoFound). x.refused) t.told ∙ found_refused t.answer ∙ t.promised.query.refuses

-- a run that is found, on any memory
pub next_lies : (v : Bool) → (h : KladoSet) → (st : List ℕ) → (a e : ℕ) → (c : KladoFound) → NextTold v h st a e c → c.found ≡ 1
    → (a ≤ c.at) × (c.at < c.end) × (c.end ≤ e)
next_lies v h st a e c t z = rw t.told (found_lies a e t.answer t.promised.lies (rw t.told at z))

pub select_refuses : (h : KladoSet) → (st : List ℕ) → (n : ℕ) → (c : KladoPlace) → SelectTold h st n c
    → c.refused ≡ storage_refusal (set_of h) (length st)
select_refuses h st n c t = ap (λ (x : KladoPlace). x.refused) t.told ∙ placed_refused t.answer ∙ t.promised.refuses

pub audit_refuses : (h : KladoSet) → (st : List ℕ) → (c : KladoAnswer) → AuditTold h st c
    → c.refused ≡ storage_refusal (set_of h) (length st)
audit_refuses h st c t = ap (λ (x : KladoAnswer). x.refused) t.told ∙ tested_refused t.answer ∙ t.promised.refuses

-- ---- the calls that change a set: the refusal k, and what a refused call leaves

pub record Declines (k : ℕ) (h : KladoSet) (st : List ℕ) (c : KladoSetAnswer) (st' : List ℕ) : Type 0 where
  pub number : c.refused ≡ k
  pub value : k ≢ 0 → c.value ≡ 0
  pub head : k ≢ 0 → c.head ≡ h
  pub storage : k ≢ 0 → st' ≡ st

-- `n` has the answer's numbers
declines : (k : ℕ) → (h : KladoSet) → (st : List ℕ) → (f : Positions → Reply) → (g : Positions → Positions) → (b i : Bool)
    → (r : Reply) → (h' : RangeBitset) → (st' : List ℕ) → Changes k (set_of h) st f g b i r h' st' → (n : KladoAnswer)
    → n.refused ≡ refused r → (n.refused ≢ 0 → n.value ≡ 0) → (c : KladoSetAnswer) → c ≡ with_head n h' → Declines k h st c st'
declines k h st f g b i r h' st' p n q z c w =
    record {
      number = ap (λ (x : KladoSetAnswer). x.refused) w ∙ q ∙ p.refuses;
      value = λ y. ap (λ (x : KladoSetAnswer). x.value) w ∙ z (λ e. y (sym p.refuses ∙ sym q ∙ e));
      head = λ y. ap (λ (x : KladoSetAnswer). x.head) w ∙ ap head_of (p.unchanged y).0;
      storage = λ y. (p.unchanged y).1;
    }

pub assign_declines : (h : KladoSet) → (st : List ℕ) → (a e : ℕ) → (v : Bool) → (c : KladoSetAnswer) → (st' : List ℕ)
    → AssignTold h st a e v c st' → Declines (range_refusal (set_of h) (length st) e) h st c st'
assign_declines h st a e v c st' t =
    declines _ h st _ _ _ _ _ _ st' t.promised _ (counted_refused (answer_in t.answer)) (counted_bare (answer_in t.answer)) c t.told

pub set_declines : (h : KladoSet) → (st : List ℕ) → (i : ℕ) → (v : Bool) → (c : KladoSetAnswer) → (st' : List ℕ)
    → SetTold h st i v c st' → Declines (point_refusal (set_of h) (length st) i) h st c st'
set_declines h st i v c st' t =
    declines _ h st _ _ _ _ _ _ st' t.promised _ (tested_refused (answer_in t.answer)) (tested_bare (answer_in t.answer)) c t.told

pub clear_declines : (h : KladoSet) → (st : List ℕ) → (c : KladoSetAnswer) → (st' : List ℕ) → ClearTold h st c st'
    → Declines (storage_refusal (set_of h) (length st)) h st c st'
clear_declines h st c st' t =
    declines _ h st _ _ _ _ _ _ st' t.promised _ (counted_refused (answer_in t.answer)) (counted_bare (answer_in t.answer)) c t.told

-- ---- the combinations: the refusal k, and what a refused call leaves

pub record Uncombined (k : ℕ) (third scratch : List ℕ) (c : KladoSetAnswer) (third' scratch' : List ℕ) : Type 0 where
  pub number : c.refused ≡ k
  pub value : c.value ≡ 0
  pub head : k ≢ 0 → c.head ≡ record { words = 0; len = 0; allocated = false }
  pub third_kept : k ≢ 0 → third' ≡ third
  pub scratch_kept : k ≢ 0 → scratch' ≡ scratch

pub combine_declines : (f : Rule) → (h : KladoSet) → (st : List ℕ) → (k : KladoSet) → (su third scratch : List ℕ) → (c : KladoSetAnswer)
    → (third' scratch' : List ℕ) → CombineTold f h st k su third scratch c third' scratch'
    → Uncombined (combine_refusal (set_of h) (set_of k) (length st) (length su) (length third) (length scratch)) third scratch c third' scratch'
combine_declines f h st k su third scratch c third' scratch' t =
    record {
      number = ap (λ (x : KladoSetAnswer). x.refused) t.told ∙ made_refused t.answer ∙ p.refuses;
      value = ap (λ (x : KladoSetAnswer). x.value) t.told ∙ made_value t.answer;
      head = λ n. ap (λ (x : KladoSetAnswer). x.head) t.told ∙ made_bare t.answer (λ e. some n (sym (made_refused t.answer) ∙ e));
      third_kept = λ n. (p.unchanged (some n)).0;
      scratch_kept = λ n. (p.unchanged (some n)).1;
    }
  where
    p : CombineEnsures f (set_of h) st (set_of k) su third scratch t.answer third' scratch'
    p = t.promised

    some : combine_refusal (set_of h) (set_of k) (length st) (length su) (length third) (length scratch) ≢ 0 → refused_by t.answer ≢ 0
    some n e = n (sym p.refuses ∙ e)
