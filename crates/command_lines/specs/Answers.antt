-- What `sheetmark` prints for a reply and for an answer, and where it stands in the output. Assumes nothing.
use Rattle.std.specs.Prelude.{Bool, cond, List, [], ◌∷◌, ◌++◌, map, ℕ, zero, suc, ◌+◌, ◌/◌, ◌%◌, ◌^◌, length, leb, ltb, codes}
use Rattle.std.proofs.lemmas.List.Edits.{sets}
use Rattle.positions.specs.Replies.{Reply, numbers, refused_with}
use Rattle.command_lines.specs.declared.Answer.{Answer}
use Rattle.command_lines.specs.declared.Answer.TheVariants.{Number, Nothing, Refused, BadLine}

-- what is printed for a reply: its first number, or `none`; never `bad line`
abbrev pub answer_of : Reply → Answer
answer_of (numbers []) = Nothing
answer_of (numbers (n ∷ ns)) = Number n
answer_of (refused_with k vs) = Refused k

-- the numbers in 32 bits
abbrev pub low32 : Reply → Reply
low32 (numbers ns) = numbers (map (λ n. n % 2 ^ 32) ns)
low32 (refused_with k vs) = refused_with k vs

-- ---- the text

-- the decimal digits of n, by at most `steps` of them
unfoldable pub digits_within : ℕ → ℕ → List ℕ
digits_within zero n = []
digits_within (suc steps) n = cond (ltb n 10) ((48 + n) ∷ []) (digits_within steps (n / 10) ++ ((48 + n % 10) ∷ []))

-- the decimal digits of n, with no leading zero; n + 1 steps are always enough
unfoldable pub digits : ℕ → List ℕ
digits n = digits_within (suc n) n

-- an answer's text: a number, `none`, `refused` and a number, or `bad line`
abbrev pub text : Answer → List ℕ
text (Number n) = digits n
text Nothing = codes "none"
text (Refused k) = codes "refused " ++ digits k
text BadLine = codes "bad line"

-- the line that is printed: the text and a newline
abbrev pub printed : Answer → List ℕ
printed a = text a ++ (10 ∷ [])

-- ---- put into the output

-- the output `out`, filled up to `used`, has room for any answer's line: `refused 255` and a newline are the longest, 12 bytes
abbrev pub has_room : List ℕ → ℕ → Bool
has_room out used = leb (used + 12) (length out)

-- the output, filled up to `used`, once the answer is put there: `sets l i bs` is l with the bytes bs stored from index i on.
-- Where there is no room, nothing is stored
abbrev pub out_after : List ℕ → ℕ → Answer → List ℕ
out_after out used a = cond (has_room out used) (sets out used (printed a)) out

-- up to where the output is filled then
abbrev pub used_after : List ℕ → ℕ → Answer → ℕ
used_after out used a = cond (has_room out used) (used + length (printed a)) used

-- ---- the same where the output is an `ArrayVec` for `size` bytes that holds `held`

-- it has room for any answer's line
abbrev pub vec_has_room : ℕ → List ℕ → Bool
vec_has_room size held = leb (length held + 12) size

-- what it holds once the answer is put there. Where there is no room, nothing is put
abbrev pub pushed : ℕ → List ℕ → Answer → List ℕ
pushed size held a = cond (vec_has_room size held) (held ++ printed a) held
