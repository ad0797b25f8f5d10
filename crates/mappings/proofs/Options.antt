-- What there is and what there is not: values of Option told apart.
use Rattle.std.proofs.Common.{◌≡◌, ℕ, true, false, is_some as option_is_some, Some, None, Option, sym, refl, arith}

pub none_not_some : {A : Type 0} {x : A} {P : Type 0} → None ≡ Some x → P
none_not_some {A} {x} {P} e = let z : ◌≡◌ {A = ℕ} 0 1 = cc in absurd (omega arith)

pub same_some : {A : Type 0} {x y : A} → Some x ≡ Some y → x ≡ y
same_some e = cc

pub true_not_false : {P : Type 0} → true ≡ false → P
true_not_false {P} e = let z : ◌≡◌ {A = ℕ} 0 1 = cc in absurd (omega arith)

pub not_some : {A : Type 0} (o : Option A) → option_is_some o ≡ false → o ≡ None
not_some None e = refl
not_some (Some x) e = true_not_false e

pub is_some : {A : Type 0} (o : Option A) → option_is_some o ≡ true → (x : A) × (o ≡ Some x)
is_some None e = true_not_false (sym e)
is_some (Some x) e = (x, refl)
