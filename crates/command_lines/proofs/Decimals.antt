-- Laws of the decimal digits of a number: they are what the kit prints, how many there are, and that reading them gives the number
-- back. Assumes nothing.
use Rattle.command_lines.proofs.Kit.{◌≡◌, refl, ap, ◌∙◌, Bool, true, false, cond, List, [], ◌∷◌, ◌++◌, ℕ, zero, suc, ◌+◌, ◌*◌, ◌-◌, ◌/◌, ◌%◌, ◌^◌, ◌≤◌, ◌<◌, arith, length, ltb, ltb-true, ltb-false, lt-ltb, le-ltb, le-leb, decimal, AppendsLastDigit, decimal_from_appends, decimal_nonempty, length-decimal-le, length-decimal-le_succ}
use Rattle.positions.proofs.Bools.{and_left, and_right}
use Rattle.command_lines.specs.Lines.{digit, all_digits, value_from, value, is_number}
use Rattle.command_lines.specs.Answers.{digits_within, digits}

-- ---- what the kit prints

appends : AppendsLastDigit digits_within
unfolding digits_within
appends = record { one = λ k n h. simp (lt-ltb n 10 h); more = λ k n h. simp (le-ltb n 10 h) }

pub digits_decimal : (n : ℕ) → n < 2 ^ 64 → digits n ≡ decimal n
unfolding digits
digits_decimal n h = decimal_from_appends digits_within appends (suc n) n h (omega (arith, length-decimal-le_succ n h))

length_ten : (n : ℕ) → n < 2 ^ 32 → length (digits n) ≤ 10
length_ten n h = let k : n < 2 ^ 64 = omega arith in rw (digits_decimal n k) (length-decimal-le 10 n (omega arith) (omega arith) k)

length_pos : (n : ℕ) → n < 2 ^ 32 → 1 ≤ length (digits n)
length_pos n h = let k : n < 2 ^ 64 = omega arith in rw (digits_decimal n k) (decimal_nonempty n k)

-- ---- reading them back

value_last : (v d : ℕ) (f : List ℕ) → value_from v (f ++ (d ∷ [])) ≡ value_from v f * 10 + (d - 48)
value_last v d [] = refl
value_last v d (b ∷ f) = value_last (v * 10 + (b - 48)) d f

all_last : (d : ℕ) (f : List ℕ) → all_digits f ≡ true → digit d ≡ true → all_digits (f ++ (d ∷ [])) ≡ true
all_last d [] p q = simp q
all_last d (b ∷ f) p q = simp (and_left (digit b) (all_digits f) p, all_last d f (and_right (digit b) (all_digits f) p) q)

-- the byte of a digit
is_digit : (k : ℕ) → k < 10 → digit (48 + k) ≡ true
is_digit k h = simp (le-leb 48 (48 + k) (omega arith), le-leb (48 + k) 57 (omega arith))

-- the digits of n are digits, and their value is n
record Reads (n : ℕ) (f : List ℕ) : Type 0 where
  all : all_digits f ≡ true
  worth : value f ≡ n

reads_within : (f n : ℕ) → n < f → Reads n (digits_within f n)
unfolding digits_within
reads_within zero n h = absurd (omega arith)
reads_within (suc f) n h = go (ltb n 10) refl (λ a. reads_within f (n / 10) a) where
  go : (s : Bool) → ltb n 10 ≡ s → (n / 10 < f → Reads (n / 10) (digits_within f (n / 10)))
      → Reads n (cond s ((48 + n) ∷ []) (digits_within f (n / 10) ++ ((48 + n % 10) ∷ [])))
  go true e r =
      let k : n < 10 = ltb-true n 10 e in
      record { all = simp (is_digit n k); worth = omega arith }
  go false e r =
      let k : 10 ≤ n = ltb-false n 10 e in
      let i : Reads (n / 10) (digits_within f (n / 10)) = r (omega arith) in
      record {
        all = all_last (48 + n % 10) (digits_within f (n / 10)) i.all (is_digit (n % 10) (omega arith));
        worth = value_last 0 (48 + n % 10) (digits_within f (n / 10)) ∙ ap (λ (x : ℕ). x * 10 + (48 + n % 10 - 48)) i.worth ∙ omega arith;
      }

digits_all : (n : ℕ) → all_digits (digits n) ≡ true
unfolding digits
digits_all n = (reads_within (suc n) n (omega arith)).all

pub digits_value : (n : ℕ) → value (digits n) ≡ n
unfolding digits
digits_value n = (reads_within (suc n) n (omega arith)).worth

-- a printed number below 2^32 is a number of a command line
pub digits_number : (n : ℕ) → n < 2 ^ 32 → is_number (digits n) ≡ true
digits_number n h = simp (digits_all n, le-leb 1 (length (digits n)) (length_pos n h), le-leb (length (digits n)) 10 (length_ten n h), digits_value n, lt-ltb n (2 ^ 32) h)
