-- Laws of answering lines: one line more, and a part of the input from its start to its end. Assumes nothing.
use Rattle.sheetmark.proofs.Kit.{◌≡◌, refl, sym, ap, ◌∙◌, Some, None, List, [], ◌∷◌, ◌++◌, append_assoc, append-nil, ℕ, arith, length, take, length-append, length-take}
use Rattle.command_lines.specs.declared.Answer.{Answer}
use Rattle.command_lines.specs.Lines.{meaning}
use Rattle.command_lines.specs.Answers.{printed}
use Rattle.command_lines.specs.Input.{lines_from, up_to, Pushes}
use Rattle.command_lines.proofs.Buffers.{pushes_none, pushes_holds, pushed_means, lines_ended, lines_open}
use Rattle.command_lines.proofs.Gathering.{pushes_ended, pushes_open}
use Rattle.sheetmark.specs.Answering.{State, AnswersLine, Serves, none, line, texts, End, Kept, PartAnswered}
use Rattle.sheetmark.specs.Inner.{LineAnswered}

-- ---- one line more

serves_more : {s t u : State} {l : List ℕ} {ls : List (List ℕ)} {a : Answer} {rs : List Answer} → Serves s ls rs t → AnswersLine l t a u
    → Serves s (ls ++ (l ∷ [])) (rs ++ (a ∷ [])) u
serves_more none a = line a none
serves_more (line b r) a = line b (serves_more r a)

-- a line that means the same is answered the same
answers_same : (l k : List ℕ) (s : State) (a : Answer) (t : State) → meaning l ≡ meaning k → AnswersLine l s a t → AnswersLine k s a t
answers_same l k s a t e p =
    record { performs = rw e at p.performs; same_storage = p.same_storage; same_journal = p.same_journal }

pub texts_append : (rs qs : List Answer) → texts (rs ++ qs) ≡ texts rs ++ texts qs
texts_append [] qs = refl
texts_append (r ∷ rs) qs = ap (λ (x : List ℕ). printed r ++ x) (texts_append rs qs) ∙ sym (append_assoc (printed r) (texts rs) (texts qs))

texts_more : (rs : List Answer) (a : Answer) → texts (rs ++ (a ∷ [])) ≡ texts rs ++ printed a
texts_more rs a = texts_append rs (a ∷ []) ∙ ap (λ (x : List ℕ). texts rs ++ x) (append-nil (printed a))

-- ---- a part of the input, of which `left` is still to be answered

pub record SoFar (text l left : List ℕ) (s t : State) (out held : List ℕ) : Type 0 where
  pub finished : List (List ℕ)
  pub rest : List ℕ
  pub answers : List Answer
  pub cut : (more : List ℕ) → lines_from l (text ++ more) ≡ finished ++ lines_from rest (left ++ more)
  pub serves : Serves s finished answers t
  pub output : out ≡ texts answers
  pub holds : Kept held rest

pub so_far_none : {text l : List ℕ} {s : State} {out held : List ℕ} → out ≡ [] → Kept held l → SoFar text l text s s out held
so_far_none {l = l} e h =
    record { finished = []; rest = l; answers = []; cut = λ more. refl; serves = none; output = e; holds = h }

module _ {text l left : List ℕ} {s t : State} {out held after : List ℕ} (f : SoFar text l left s t out held) where
  -- a line ended, and is answered
  pub so_far_line : {next : List ℕ} {u : State} {out' : List ℕ} → Pushes 32 left held after (Some next) → LineAnswered after t u out out'
      → SoFar text l next s u out' []
  so_far_line {next} {u} g a =
      let (e, n) = pushes_ended g in
      let whole : List ℕ = f.rest ++ up_to left in
      record {
        finished = f.finished ++ (whole ∷ []);
        rest = [];
        answers = f.answers ++ (a.answer ∷ []);
        cut = λ more.
            f.cut more
            ∙ ap (λ (x : List (List ℕ)). f.finished ++ x) (lines_ended f.rest left more e ∙ ap (λ (d : List ℕ). whole ∷ lines_from [] (d ++ more)) (sym n))
            ∙ sym (append_assoc f.finished (whole ∷ []) (lines_from [] (next ++ more)));
        serves = serves_more f.serves (answers_same after whole t a.answer u (pushed_means 32 after whole (omega arith) (pushes_holds g f.holds)) a.answers);
        output = a.output ∙ ap (λ (x : List ℕ). x ++ printed a.answer) f.output ∙ sym (texts_more f.answers a.answer);
        holds = pushes_none 32;
      }

  -- the text ended before the line
  pub so_far_all : Pushes 32 left held after None → PartAnswered text l s t out after
  so_far_all g =
      let e = pushes_open g in
      record {
        rest = f.rest ++ up_to left;
        part = record {
          finished = f.finished;
          answers = f.answers;
          cut = λ more. f.cut more ∙ ap (λ (x : List (List ℕ)). f.finished ++ x) (lines_open f.rest left more e);
          serves = f.serves;
          output = f.output;
        };
        holds = pushes_holds g f.holds;
      }

-- ---- the input's end

-- nothing is kept of nothing alone
pub end_none : {held l out : List ℕ} {s : State} → Kept held l → length held ≡ 0 → out ≡ [] → End l s s out
end_none {held} {l} {out} {s} h z o = go l (omega (arith, ap length h.bytes, length-take 32 l)) where
  go : (k : List ℕ) → length k ≡ 0 → End k s s out
  go [] e = record { answers = []; serves = none; output = o }
  go (b ∷ k) e = absurd (omega (arith, e))

-- of one newline the bytes kept are the only line
only_line : (l r : List ℕ) (e : List (List ℕ)) (rs : List Answer) (s t : State) → ◌≡◌ {A = List (List ℕ)} (l ∷ [] ∷ []) (e ++ (r ∷ [])) → Serves s e rs t
    → Serves s (l ∷ []) rs t
only_line l r [] rs s t p q = absurd (omega (arith, ap length p))
only_line l r (x ∷ []) rs s t p q =
    let y : x ≡ l = cc in
    rw y at q
only_line l r (x ∷ y ∷ e) rs s t p q = absurd (omega (arith, ap length p, length-append e (r ∷ [])))

pub end_line : {held l : List ℕ} {s t : State} {out after : List ℕ} → Kept held l → (length held ≡ 0 → ⊥) → PartAnswered (10 ∷ []) l s t out after → End l s t out
unfolding lines_from
end_line {held} {l} {s} {t} {out} h some a = go l h.bytes (only_line l a.rest a.part.finished a.part.answers s t (a.part.cut (10 ∷ [])) a.part.serves) where
  go : (k : List ℕ) → held ≡ take 32 k → Serves s (k ∷ []) a.part.answers t → End k s t out
  go [] z q = absurd (some (omega (arith, ap length z, length-take {A = ℕ} 32 [])))
  go (b ∷ k) z q = record { answers = a.part.answers; serves = q; output = a.part.output }
