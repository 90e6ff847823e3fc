-- The usual laws of both, either and without. Each kind of law is proved once, for any rule, from the rule's table; the laws by name are its values.
-- Assumes nothing.
use Rattle.combine.proofs.Kit.{◌≡◌, fun_ext, Bool, true, false, not, T}
use Rattle.positions.specs.Positions.{Positions, none}
use Rattle.positions.proofs.Bools.{agree₁, agree₂, agree₃, same₁, same₂, same₃}
use Rattle.combine.specs.Rules.{Rule, both, either, without, combined, every, complement}

-- ---- from the tables of rules to sets

-- order does not matter
commutes : (f : Rule) → T (agree₂ f (λ a b. f b a)) → (s t : Positions) → combined f s t ≡ combined f t s
commutes f p s t = fun_ext (λ i. same₂ f (λ a b. f b a) p (s i) (t i))

-- grouping does not matter
associates : (f : Rule) → T (agree₃ (λ a b c. f (f a b) c) (λ a b c. f a (f b c))) → (s t u : Positions)
    → combined f (combined f s t) u ≡ combined f s (combined f t u)
associates f p s t u = fun_ext (λ i. same₃ (λ a b c. f (f a b) c) (λ a b c. f a (f b c)) p (s i) (t i) (u i))

-- f spreads over g
distributes : (f g : Rule) → T (agree₃ (λ a b c. f a (g b c)) (λ a b c. g (f a b) (f a c))) → (s t u : Positions)
    → combined f s (combined g t u) ≡ combined g (combined f s t) (combined f s u)
distributes f g p s t u = fun_ext (λ i. same₃ (λ a b c. f a (g b c)) (λ a b c. g (f a b) (f a c)) p (s i) (t i) (u i))

-- what f makes of one set, with itself or with a set that has no position or every one
alone : (f g : Bool → Bool) → T (agree₁ f g) → (s : Positions) → ◌≡◌ {A = Positions} (λ i. f (s i)) (λ i. g (s i))
alone f g p s = fun_ext (λ i. same₁ f g p (s i))

-- ---- both

pub both_commutes : (s t : Positions) → combined both s t ≡ combined both t s
both_commutes = commutes both tt

pub both_associates : (s t u : Positions) → combined both (combined both s t) u ≡ combined both s (combined both t u)
both_associates = associates both tt

pub both_distributes_over_either : (s t u : Positions) → combined both s (combined either t u) ≡ combined either (combined both s t) (combined both s u)
both_distributes_over_either = distributes both either tt

pub both_idempotent : (s : Positions) → combined both s s ≡ s
both_idempotent = alone (λ a. both a a) (λ a. a) tt

pub both_with_none : (s : Positions) → combined both s none ≡ none
both_with_none = alone (λ a. both a false) (λ a. false) tt

pub both_with_every : (s : Positions) → combined both s every ≡ s
both_with_every = alone (λ a. both a true) (λ a. a) tt

-- ---- either

pub either_commutes : (s t : Positions) → combined either s t ≡ combined either t s
either_commutes = commutes either tt

pub either_associates : (s t u : Positions) → combined either (combined either s t) u ≡ combined either s (combined either t u)
either_associates = associates either tt

pub either_distributes_over_both : (s t u : Positions) → combined either s (combined both t u) ≡ combined both (combined either s t) (combined either s u)
either_distributes_over_both = distributes either both tt

pub either_idempotent : (s : Positions) → combined either s s ≡ s
either_idempotent = alone (λ a. either a a) (λ a. a) tt

pub either_with_none : (s : Positions) → combined either s none ≡ s
either_with_none = alone (λ a. either a false) (λ a. a) tt

pub either_with_every : (s : Positions) → combined either s every ≡ every
either_with_every = alone (λ a. either a true) (λ a. true) tt

-- ---- without

pub without_is_both_with_complement : (s t : Positions) → combined without s t ≡ combined both s (complement t)
without_is_both_with_complement s t = fun_ext (λ i. same₂ without (λ a b. both a (not b)) tt (s i) (t i))

pub without_itself : (s : Positions) → combined without s s ≡ none
without_itself = alone (λ a. without a a) (λ a. false) tt

pub without_none : (s : Positions) → combined without s none ≡ s
without_none = alone (λ a. without a false) (λ a. a) tt

pub without_every : (s : Positions) → combined without s every ≡ none
without_every = alone (λ a. without a true) (λ a. false) tt

-- what is in the first of two sets is in both, or in the first without the second
pub both_or_without : (s t : Positions) → combined either (combined both s t) (combined without s t) ≡ s
both_or_without s t = fun_ext (λ i. same₂ (λ a b. either (both a b) (without a b)) (λ a b. a) tt (s i) (t i))
