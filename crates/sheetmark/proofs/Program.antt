-- A run of the program is the plain program's: one command, lines, the parts of an input. Assumes nothing.
use Rattle.sheetmark.proofs.Kit.{◌≡◌, refl, sym, ap, ◌∙◌, subst, ap₂, Bool, true, false, ◌&&◌, cond, Option, Some, None, Ok, Err, List, [], ◌∷◌, ◌++◌, append_assoc, append-nil, ℕ, ◌+◌, ◌-◌, ◌/◌, ◌%◌, ◌^◌, ◌≤◌, ◌<◌, arith, eqb, leb, length, length-append, le-leb, leb-true}
use Rattle.positions.specs.Positions.{Positions, Place, found_at, not_found, count, first}
use Rattle.positions.specs.Runs.{run_at, run_end, next_run}
use Rattle.positions.proofs.Bools.{and_left, and_right}
use Rattle.range_bitset.specs.Layout.{allowed, needed}
use Rattle.positions.specs.Replies.{Reply, numbers, refused_with, number, refusal, refused, of_place, of_run}
use Rattle.range_bitset.specs.Answers.{allowed_capacity, range_refusal}
use Rattle.ledger.specs.Machine.{Machine, fresh, set_of, Call, range, back, wipe}
use Rattle.ledger.specs.Memory.{Memory, memory, lent_enough, Holds}
use Rattle.ledger.specs.declared.Ledger.{Ledger}
use Rattle.ledger.specs.Entries.{new_head, new_of}
use Rattle.answers.specs.declared.Refusal.TheVariants.{Size, Short}
use Rattle.range_bitset.proofs.AcceptedHeads.{allowed_bounds}
use Rattle.ledger.proofs.Histories.{holds_fresh, accepted}
use Rattle.command_lines.specs.declared.Command.{Command}
use Rattle.command_lines.specs.declared.Command.TheVariants as command
use Rattle.command_lines.specs.declared.Answer.{Answer}
use Rattle.command_lines.specs.declared.Answer.TheVariants as answer
use Rattle.command_lines.specs.Lines.{meaning}
use Rattle.command_lines.specs.Input.{lines, lines_from, unended}
use Rattle.command_lines.proofs.Buffers.{pushes_none}
use Rattle.sheetmark.specs.Performing.{IsBad, Starts, Calls, Asks, Performs}
use Rattle.command_lines.specs.Answers.{answer_of}
use Rattle.sheetmark.specs.Answering.{State, AnswersLine, Serves, none, line, texts, Kept, ReadAnswered}
use Rattle.sheetmark.specs.Program.{Present, no_ledger, with_machine, Response, started, called, asked, respond, responses, present_after, Follows, Lent, Reading, part, Run, end, joined, output_for, Answered, RunsAsPlain, AnswersAtOnce, Served, ended, too_long}
use Rattle.sheetmark.specs.Program as program
use Rattle.sheetmark.proofs.Answering.{texts_append}

-- ---- one command

-- what a command comes to, where the plain program responds by r
abbrev Comes : Response → Answer → Bool → Memory → Type 0
Comes r a live y = (a ≡ r.answer) × Follows r.next live y

follows_same : (p : Present) (live live' : Bool) (x y : Memory) → live' ≡ live → y ≡ x → Follows p live x → Follows p live' y
follows_same no_ledger live live' x y e q f = e ∙ f
follows_same (with_machine m) live live' x y e q f = (e ∙ f.0, subst (λ (z : Memory). Holds z m) (sym q) f.1)

-- where enough is lent, `new` is refused by 1 alone
enough_lent : (capacity j n k : ℕ) → (allowed_capacity capacity && leb j 16384) ≡ true → 4290 ≤ n → 16384 ≤ k → lent_enough (capacity / 64) j n k ≡ true
unfolding lent_enough allowed_capacity
enough_lent capacity j n k e hn hk =
    let good : allowed_capacity capacity ≡ true = and_left (allowed_capacity capacity) (leb j 16384) e in
    let most = (allowed_bounds (capacity / 64) (and_right (eqb (capacity % 64) 0) (allowed (capacity / 64)) good)).1 in
    let short = leb-true j 16384 (and_right (allowed_capacity capacity) (leb j 16384) e) in
    rw (le-leb (needed (capacity / 64)) n (omega arith), le-leb j k (omega arith))

started_as : (p : Present) (capacity j : ℕ) (live live' : Bool) (x y : Memory) (a : Answer) → Follows p live x → Lent x
    → Starts (new_of capacity j (length x.storage) (length x.journal)) live x a live' y → Comes (started p capacity j) a live' y
unfolding new_of
started_as p capacity j live live' x y a f e q = go (allowed_capacity capacity && leb j 16384) refl q
  where
    go : (b : Bool) → (allowed_capacity capacity && leb j 16384) ≡ b
        → Starts (cond b (cond (lent_enough (capacity / 64) j (length x.storage) (length x.journal)) (Ok (new_head (capacity / 64) j false)) (Err Short)) (Err Size)) live x a live' y
        → Comes (cond b (record { answer = answer.Number 0; next = with_machine (fresh capacity j) }) (record { answer = answer.Refused 1; next = p })) a live' y
    go false d s = (s.0, follows_same p live live' x y s.1 s.2 f)
    go true d s =
        let l = enough_lent capacity j (length x.storage) (length x.journal) d e.storage e.journal in
        let r : Starts (Ok (new_head (capacity / 64) j false)) live x a live' y =
        subst (λ (b : Bool). Starts (cond b (Ok (new_head (capacity / 64) j false)) (Err Short)) live x a live' y) l s in
        (r.0, (r.1, subst (λ (z : Memory). Holds z (fresh capacity j)) (sym r.2) (holds_fresh capacity j x.storage x.journal d l)))

-- the calls and questions of the present ledger
refusal_printed : (r : Reply) → refused r ≡ 4 → answer_of r ≡ answer.Refused 4
refusal_printed (numbers ns) e = absurd (omega (arith, e))
refusal_printed (refused_with k vs) e = ap answer.Refused e

-- of a run the start is printed, which is the first position
start_printed : (b : Bool) (s : Positions) (v : Bool) (t e : ℕ)
    → answer_of (cond b (of_run (next_run s v t e)) (refusal 4)) ≡ answer_of (cond b (of_place (first s v t e)) (refusal 4))
unfolding next_run
start_printed false s v t e = refl
start_printed true s v t e = by (first s v t e)
  where
    by : (f : Place) → answer_of (of_run (run_at (λ p. run_end s v p e) f)) ≡ answer_of (of_place f)
    by (found_at p) = refl
    by not_found = refl

module _ (m : Machine) (x y : Memory) (a : Answer) (live' : Bool) (h : Holds x m) where
  calls_as : (c : Call) → Calls c x a live' y → Comes (called c m) a live' y
  calls_as c k = (k.told ∙ ap answer_of (k.called.answers m h), (k.same_live, k.called.holds m h))

  range_as : (e : ℕ) → range_refusal x.head.set (length x.storage) e ≡ cond (leb e m.capacity) 0 4
  unfolding range_refusal
  range_as e = rw (accepted x m h, h.capacity)

  module _ (e : ℕ) (f : Positions → Reply) where
    asks_as : Asks (range_refusal x.head.set (length x.storage) e) x f a live' y → Comes (asked e (f (set_of m)) m) a live' y
    asks_as k = (go (leb e m.capacity) (range_as e), (k.same_live, subst (λ (z : Memory). Holds z m) (sym k.same) h))
      where
        go : (b : Bool) → range_refusal x.head.set (length x.storage) e ≡ cond b 0 4 → a ≡ answer_of (cond b (f (set_of m)) (refusal 4))
        go true z = k.told ∙ ap answer_of (k.answers.answers z (set_of m) h.set)
        go false z = k.told ∙ refusal_printed k.reply (k.answers.refuses ∙ z)

  searches_as : (v : Bool) (t e : ℕ) → Asks (range_refusal x.head.set (length x.storage) e) x (λ s. of_run (next_run s v t e)) a live' y
      → Comes (asked e (of_place (first (set_of m) v t e)) m) a live' y
  searches_as v t e k =
      let c = asks_as e (λ s. of_run (next_run s v t e)) k in
      (c.0 ∙ start_printed (leb e m.capacity) (set_of m) v t e, c.1)

module _ (live live' : Bool) (x y : Memory) (a : Answer) where
  before : IsBad false x a live' y → Comes (record { answer = answer.BadLine; next = no_ledger }) a live' y
  before k = (k.bad, k.same_live)

  -- Performs, where `live` is known
  known : (c : Option Command) (b : Bool) → live ≡ b → Performs c live x a live' y → Performs c b x a live' y
  known c b e q = subst (λ (l : Bool). Performs c l x a live' y) e q

  pub performs_follows : (c : Option Command) (p : Present) → Follows p live x → Lent x → Performs c live x a live' y → Comes (respond c p) a live' y
  performs_follows (Some (command.New capacity j)) p f e q = started_as p capacity j live live' x y a f e q
  performs_follows (Some (command.Mark s t)) no_ledger f e q = before (known (Some (command.Mark s t)) false f q)
  performs_follows (Some (command.Mark s t)) (with_machine m) f e q = calls_as m x y a live' f.1 (range s t true) (known (Some (command.Mark s t)) true f.0 q)
  performs_follows (Some (command.Clear s t)) no_ledger f e q = before (known (Some (command.Clear s t)) false f q)
  performs_follows (Some (command.Clear s t)) (with_machine m) f e q = calls_as m x y a live' f.1 (range s t false) (known (Some (command.Clear s t)) true f.0 q)
  performs_follows (Some (command.Count s t)) no_ledger f e q = before (known (Some (command.Count s t)) false f q)
  performs_follows (Some (command.Count s t)) (with_machine m) f e q =
      asks_as m x y a live' f.1 t (λ (o : Positions). number (count o s t)) (known (Some (command.Count s t)) true f.0 q)
  performs_follows (Some (command.One s t)) no_ledger f e q = before (known (Some (command.One s t)) false f q)
  performs_follows (Some (command.One s t)) (with_machine m) f e q =
      searches_as m x y a live' f.1 true s t (known (Some (command.One s t)) true f.0 q)
  performs_follows (Some (command.Zero s t)) no_ledger f e q = before (known (Some (command.Zero s t)) false f q)
  performs_follows (Some (command.Zero s t)) (with_machine m) f e q =
      searches_as m x y a live' f.1 false s t (known (Some (command.Zero s t)) true f.0 q)
  performs_follows (Some command.Back) no_ledger f e q = before (known (Some command.Back) false f q)
  performs_follows (Some command.Back) (with_machine m) f e q = calls_as m x y a live' f.1 back (known (Some command.Back) true f.0 q)
  performs_follows (Some command.Wipe) no_ledger f e q = before (known (Some command.Wipe) false f q)
  performs_follows (Some command.Wipe) (with_machine m) f e q = calls_as m x y a live' f.1 wipe (known (Some command.Wipe) true f.0 q)
  performs_follows None no_ledger f e q = before (known None false f q)
  performs_follows None (with_machine m) f e q =
      let k = known None true f.0 q in
      (k.bad, (k.same_live, subst (λ (z : Memory). Holds z m) (sym k.same) f.1))

-- ---- lines

lent_next : (l : List ℕ) (s : State) (a : Answer) (t : State) → AnswersLine l s a t → Lent s.ledger → Lent t.ledger
lent_next l s a t p e = record { storage = omega (arith, p.same_storage, e.storage); journal = omega (arith, p.same_journal, e.journal) }

serves_follows : {s t : State} {ls : List (List ℕ)} {rs : List Answer} → Serves s ls rs t → (p : Present) → Follows p s.live s.ledger → Lent s.ledger
    → (rs ≡ responses p ls) × Follows (present_after p ls) t.live t.ledger × Lent t.ledger
serves_follows none p f e = (refl, f, e)
serves_follows {s = s} (line {t = t} {l = l} {a = a} q r) p f e =
    let c = performs_follows s.live t.live s.ledger t.ledger a (meaning l) p f e q.performs in
    let i = serves_follows r (respond (meaning l) p).next c.1 (lent_next l s a t q e) in
    (ap₂ ◌∷◌ c.0 i.0, i.1, i.2)

responses_append : (p : Present) (ls ms : List (List ℕ)) → responses p (ls ++ ms) ≡ responses p ls ++ responses (present_after p ls) ms
responses_append p [] ms = refl
responses_append p (l ∷ ls) ms = ap (λ (rs : List Answer). (respond (meaning l) p).answer ∷ rs) (responses_append (respond (meaning l) p).next ls ms)

present_append : (p : Present) (ls ms : List (List ℕ)) → present_after p (ls ++ ms) ≡ present_after (present_after p ls) ms
present_append p [] ms = refl
present_append p (l ∷ ls) ms = present_append (respond (meaning l) p).next ls ms

-- ---- parts of an input

joined_more : (ts : List (List ℕ)) (t : List ℕ) → joined (ts ++ (t ∷ [])) ≡ joined ts ++ t
joined_more [] t = append-nil t
joined_more (u ∷ ts) t = ap (λ (x : List ℕ). u ++ x) (joined_more ts t) ∙ sym (append_assoc u (joined ts) t)

-- the texts of more answers behind those before
outputs_more : (ls ms outs : List (List ℕ)) (out : List ℕ) (rs : List Answer) → joined outs ≡ texts (responses no_ledger ls) → out ≡ texts rs
    → rs ≡ responses (present_after no_ledger ls) ms → joined (outs ++ (out ∷ [])) ≡ texts (responses no_ledger (ls ++ ms))
outputs_more ls ms outs out rs p q r =
    joined_more outs out ∙ ap₂ ◌++◌ p (q ∙ ap texts r)
    ∙ sym (ap texts (responses_append no_ledger ls ms) ∙ texts_append (responses no_ledger ls) (responses (present_after no_ledger ls) ms))

-- after some parts: what is answered, and the program's state is the plain program's
record Followed (parts outs : List (List ℕ)) (t : State) (l : List ℕ) : Type 0 where
  answered : Answered parts outs l
  follows : Follows (present_after no_ledger answered.finished) t.live t.ledger
  lent : Lent t.ledger

reading_follows : {s t : State} {parts outs : List (List ℕ)} {l : List ℕ} → Reading s parts outs t l → s.live ≡ false → Lent s.ledger
    → Followed parts outs t l
reading_follows program.none v e =
    record { answered = record { finished = []; cut = λ more. refl; output = refl }; follows = v; lent = e }
reading_follows (part {parts = parts} {outs = outs} {l = l} {text = text} {out = out} {rest = rest} r some p) v e =
    let i = reading_follows r v e in
    let ls = i.answered.finished in
    let n = serves_follows p.serves (present_after no_ledger ls) i.follows i.lent in
    record {
      answered = record {
        finished = ls ++ p.finished;
        cut = λ more.
            ap (λ (x : List ℕ). lines (x ++ more)) (joined_more parts text) ∙ ap lines (append_assoc (joined parts) text more)
            ∙ i.answered.cut (text ++ more)
            ∙ ap (λ (x : List (List ℕ)). ls ++ x) (p.cut more)
            ∙ sym (append_assoc ls p.finished (lines_from rest more));
        output = outputs_more ls p.finished outs out p.answers i.answered.output p.output n.0;
      };
      follows = rw (present_append no_ledger ls p.finished) n.1;
      lent = n.2;
    }

pub answers_at_once : AnswersAtOnce
answers_at_once s t parts outs l v e r = (reading_follows r v e).answered

run_follows : {s t : State} {parts outs : List (List ℕ)} → Run s parts outs t → s.live ≡ false → Lent s.ledger
    → joined outs ≡ output_for (joined parts)
unfolding lines_from
run_follows (end {parts = parts} {outs = outs} {l = l} {out = out} r q) v e =
    let i = reading_follows r v e in
    let ls = i.answered.finished in
    let n = serves_follows q.serves (present_after no_ledger ls) i.follows i.lent in
    outputs_more ls (unended l) outs out q.answers i.answered.output q.output n.0
    ∙ ap (λ (x : List (List ℕ)). texts (responses no_ledger x)) (sym (i.answered.cut []) ∙ ap lines (append-nil (joined parts)))

pub runs_as_plain : RunsAsPlain
runs_as_plain s t parts outs v e r = run_follows r v e

-- ---- reads

-- one read more: it gave a byte at least
joined_longer : (n : ℕ) (parts : List (List ℕ)) (text : List ℕ) → n ≤ length (joined parts) → 0 < length text
    → n + 1 ≤ length (joined (parts ++ (text ∷ [])))
joined_longer n parts text h some = omega (arith, ap length (joined_more parts text), length-append (joined parts) text)

-- n parts, each a byte at least, are read and answered; the line buffer has what is left of a line
pub record ReadSoFar (s t : State) (n : ℕ) (held : List ℕ) : Type 0 where
  pub parts : List (List ℕ)
  pub outs : List (List ℕ)
  pub rest : List ℕ
  pub reading : Reading s parts outs t rest
  pub long : n ≤ length (joined parts)
  pub holds : Kept held rest

pub read_none : (s : State) (held : List ℕ) → held ≡ [] → ReadSoFar s s 0 held
read_none s held z =
    record { parts = []; outs = []; rest = []; reading = program.none; long = omega arith; holds = rw z (pushes_none 32) }

module _ (s t u : State) (n : ℕ) (held text out held' : List ℕ) (f : ReadSoFar s t n held)
    (a : (l : List ℕ) → Kept held l → ReadAnswered text l t u out held') where
  pub read_more : 0 < length text → ReadSoFar s u (n + 1) held'
  read_more some =
      let p = (a f.rest f.holds).some some in
      record {
        parts = f.parts ++ (text ∷ []);
        outs = f.outs ++ (out ∷ []);
        rest = p.rest;
        reading = part f.reading some p.part;
        long = joined_longer n f.parts text f.long some;
        holds = p.holds;
      }

  pub read_end : length text ≡ 0 → Run s f.parts (f.outs ++ (out ∷ [])) u
  read_end z = end f.reading ((a f.rest f.holds).nothing z)

-- ---- what `serve` has done, where v is whether there is a ledger at first

module _ (h : Ledger) (v : Bool) (st j : List ℕ) (z : v ≡ false) where
  pub served_whole : (t : State) (parts outs : List (List ℕ)) → Run (record { live = v; ledger = memory h st j }) parts outs t → Served st j t
  served_whole t parts outs r = ended (rw z at r)

  pub served_part : (t : State) (n : ℕ) (held : List ℕ) → 2 ^ 64 - 1 ≤ n → ReadSoFar (record { live = v; ledger = memory h st j }) t n held
      → Served st j t
  served_part t n held m f = too_long (rw z at f.reading) (omega (arith, f.long))
