-- Laws of the plain sum of a list's words, by its shape.
use Rattle.std.proofs.Common.{◌≡◌, ℕ, ◌+◌, ◌*◌, ◌≤◌, List, [], ◌∷◌, refl, arith}
use Rattle.sums.specs.Words.{byte_at, word_sum}

pub sum_none : word_sum [] ≡ 0
unfolding word_sum
sum_none = refl

pub sum_odd : (a : ℕ) → word_sum (a ∷ []) ≡ a * 256
unfolding word_sum
sum_odd a = refl

pub sum_pair : (a b : ℕ) (bs : List ℕ) → word_sum (a ∷ (b ∷ bs)) ≡ a * 256 + b + word_sum bs
unfolding word_sum
sum_pair a b bs = refl

-- the first word is part of the sum
pub sum_first : (bs : List ℕ) → byte_at bs 0 ≤ word_sum bs
sum_first [] = omega arith
sum_first (a ∷ []) = omega (arith, sum_odd a)
sum_first (a ∷ (b ∷ bs)) = omega (arith, sum_pair a b bs)
