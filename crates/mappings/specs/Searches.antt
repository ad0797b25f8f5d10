-- Looking through numbers in order for the first that passes a test.
use Rattle.std.specs.Prelude.{ℕ, zero, suc, Bool, cond, List, [], ◌∷◌, Some, None, Option}

-- n numbers from a on
unfoldable pub range : ℕ → ℕ → List ℕ
range a zero = []
range a (suc n) = a ∷ range (suc a) n

unfoldable pub first : (ℕ → Bool) → List ℕ → Option ℕ
first f [] = None
first f (x ∷ xs) = let later = first f xs in cond (f x) (Some x) later
