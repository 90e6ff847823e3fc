-- Laws of replies. Assumes nothing.
use Rattle.positions.proofs.Kit.{◌≡◌, refl, List, ℕ, arith}
use Rattle.positions.specs.Replies.{Reply, numbers, refused_with, number, refused, Accepted}

pub accepted_refused : (r : Reply) → Accepted r → refused r ≡ 0
accepted_refused (numbers ns) y = refl
accepted_refused (refused_with k vs) y = absurd y

pub numbers_refusal : (xs ys : List ℕ) (n : ℕ) → numbers xs ≡ refused_with n ys → ⊥
numbers_refusal xs ys n e = let z : ◌≡◌ {A = ℕ} 0 1 = cc in omega arith

pub number_is : (n k : ℕ) → number n ≡ number k → n ≡ k
number_is n k e = cc
