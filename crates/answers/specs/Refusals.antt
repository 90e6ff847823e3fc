-- The specification's number of each refusal, and the reply of an answer. Assumes nothing.
use Rattle.std.specs.Prelude.{ℕ, [], ◌∷◌, Option, Some, None, Result, Ok, Err}
use Rattle.std.specs.declared.ops.Range.{Range}
use Rattle.positions.specs.Replies.{Reply, numbers, number, nothing, refusal}
use Rattle.answers.specs.declared.Refusal.{Refusal}
use Rattle.answers.specs.declared.Refusal.TheVariants.{Size, Head, Short, Outside, NoCall, JournalFull, BadFile, NoRoom, OtherCapacity, ShortScratch, FewEdges}
use Rattle.answers.specs.declared.Changed.{Changed}

abbrev pub number_of : Refusal → ℕ
number_of Size = 1
number_of Head = 2
number_of Short = 3
number_of Outside = 4
number_of NoCall = 5
number_of JournalFull = 6
number_of BadFile = 7
number_of NoRoom = 9
number_of OtherCapacity = 10
number_of ShortScratch = 11
number_of FewEdges = 12

-- the number by which an answer refuses, or 0
abbrev pub refused_by : {A : Type 0} → Result A Refusal → ℕ
refused_by (Ok x) = 0
refused_by (Err k) = number_of k

-- the reply of an accepted call's value, or of its refusal
abbrev pub of_result : {A : Type 0} → (A → Reply) → Result A Refusal → Reply
of_result f (Ok x) = f x
of_result f (Err k) = refusal (number_of k)

-- the reply of a position, or none
abbrev pub of_position : Option ℕ → Reply
of_position (Some i) = number i
of_position None = nothing

-- the reply of a run, or none
abbrev pub of_range : Option (Range ℕ) → Reply
of_range (Some r) = numbers (r.start ∷ r.end ∷ [])
of_range None = nothing

-- the answer of a call that changes something, without the head
abbrev pub answer_in : {A H : Type 0} → Result (Changed A H) Refusal → Result A Refusal
answer_in (Ok c) = Ok c.answer
answer_in (Err k) = Err k

-- the head after a call: the one that it gives back, or the old one
abbrev pub head_after : {A H : Type 0} → H → Result (Changed A H) Refusal → H
head_after h (Ok c) = c.head
head_after h (Err k) = h
