-- Addresses in four parts.
use Rattle.std.proofs.Common.{◌≡◌, ℕ, ◌/◌, ◌%◌, ◌^◌, ◌<◌, List, ◌∷◌, ◌++◌, decimal, sym, ◌∙◌, arith}
use Rattle.std.proofs.lemmas.Fmt.{decimal_injective}
use Rattle.text.specs.Reading.{dotted}
use Rattle.text.proofs.Decimal.{no_other}
use Rattle.text.proofs.Separated.{Lacks, lacks_append, lacks_cons, split_once_only}

-- a number and a separator, said twice of one text, are the same
pub part : (sep : ℕ) → sep < 48 → (m n : ℕ) {xs ys text : List ℕ} → m < 2 ^ 64 → n < 2 ^ 64 → text ≡ decimal m ++ (sep ∷ xs) → text ≡ decimal n ++ (sep ∷ ys) → (m ≡ n) × (xs ≡ ys)
part sep low m n {xs} {ys} p q e f =
    let once = split_once_only sep (decimal m) (decimal n) xs ys (no_other m sep p low) (no_other n sep q low) (sym e ∙ f) in
    (decimal_injective m n p q once.0, once.1)

dot_number : (n : ℕ) (xs : List ℕ) → n < 2 ^ 64 → Lacks 32 xs → Lacks 32 (decimal n ++ (46 ∷ xs))
dot_number n xs small h = lacks_append 32 (decimal n) (46 ∷ xs) (no_other n 32 small (omega arith)) (lacks_cons 32 46 xs (λ e. omega (arith, e)) h)

-- an address holds no space
pub dotted_lacks : (a : ℕ) → a < 2 ^ 32 → Lacks 32 (dotted a)
dotted_lacks a small =
    dot_number (a / 16777216) _ (omega arith) (dot_number (a / 65536 % 256) _ (omega arith) (dot_number (a / 256 % 256) _ (omega arith) (no_other (a % 256) 32 (omega arith) (omega arith))))
