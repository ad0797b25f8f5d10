-- The words of some bytes add up to nothing where no byte is other than 0.
use Rattle.std.proofs.Common.{◌≡◌, ℕ, suc, List, [], ◌∷◌, All, arith}
use Rattle.sums.specs.Words.{word_sum}
use Rattle.sums.proofs.WordSums.{sum_none, sum_odd, sum_pair}

pub blank_sum : (bs : List ℕ) → All (λ b. b ≡ 0) bs → word_sum bs ≡ 0
blank_sum [] all = sum_none
blank_sum (a ∷ []) all = omega (arith, sum_odd a, all 0 0 (omega arith))
blank_sum (a ∷ (b ∷ bs)) all =
    omega (arith, sum_pair a b bs, all 0 0 (omega arith), all 1 0 (omega arith), blank_sum bs (λ k d h. all (suc (suc k)) d (omega arith)))

pub sum_blank : (bs : List ℕ) → word_sum bs ≡ 0 → All (λ b. b ≡ 0) bs
sum_blank [] none = grind arith
sum_blank (a ∷ []) none = grind (arith, sum_odd a)
sum_blank (a ∷ (b ∷ bs)) none = grind (arith, sum_pair a b bs, sum_blank bs)
