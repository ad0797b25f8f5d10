-- Laws of ones' complement sums: carrying around, the one spelling of a sum, and a sum moved by what changed.
use Rattle.std.proofs.Common.{◌≡◌, ℕ, zero, suc, ◌+◌, ◌-◌, ◌%◌, ◌<◌, true, eqb, ◌⊎◌, refl, ap, inl, inr, arith}
use Rattle.std.proofs.lemmas.Bool.{cases_order, cond_both, eqb-true, eq-eqb}
use Rattle.sums.specs.Laws.{OneIsRight}
use Rattle.sums.specs.Sums.{ones, fresh, right, moved, nonzero}

-- what `ones` is, in one line for 0 and in one for the others
pub ones_none : ones 0 ≡ 0
unfolding ones
ones_none = refl

pub ones_some : (n : ℕ) → 0 < n → ones n ≡ 1 + (n - 1) % 65535
unfolding ones
ones_some zero h = omega arith
ones_some (suc n) h = ap (λ m. 1 + m % 65535) (omega arith)

pub ones_cases : (n : ℕ) → ((n ≡ 0) × (ones n ≡ 0)) ⊎ ((0 < n) × (ones n ≡ 1 + (n - 1) % 65535))
ones_cases zero = inl (refl, ones_none)
ones_cases (suc n) = inr (omega arith, ones_some (suc n) (omega arith))

-- MOVED. A right sum, moved by what changed, is the fresh sum of the words after, unless these are all 0.
pub moved_fresh : (before after c gone new : ℕ) → right (before + c) ≡ true → after + gone ≡ before + new → 0 < after → moved c gone new ≡ fresh after
moved_fresh before after c gone new r e pos =
    let o : ones (before + c) ≡ 65535 = eqb-true (ones (before + c)) 65535 r in
    omega (arith, ones_cases (before + c), ones_cases after)

-- where they are all 0, it is 0
pub moved_zero : (before c gone new : ℕ) → right (before + c) ≡ true → gone ≡ before + new → moved c gone new ≡ 0
moved_zero before c gone new r e =
    let o : ones (before + c) ≡ 65535 = eqb-true (ones (before + c)) 65535 r in
    omega (arith, ones_cases (before + c))

-- right or wrong, a moved sum is off by as much as it was
pub moved_off : (before after c gone new : ℕ) → after + gone ≡ before + new → (after + moved c gone new) % 65535 ≡ (before + c) % 65535
moved_off before after c gone new e = omega arith

-- a fresh sum is right
pub fresh_right : (s : ℕ) → right (s + fresh s) ≡ true
fresh_right s = eq-eqb (ones (s + fresh s)) 65535 (omega (arith, ones_cases s, ones_cases (s + fresh s)))

-- a right sum stays right in its other spelling
pub nonzero_right : (s c : ℕ) → right (s + c) ≡ true → right (s + nonzero c) ≡ true
nonzero_right s c r =
    cond_both (eqb c 0) 65535 c (λ n. right (s + n) ≡ true)
    (λ z. eq-eqb (ones (s + 65535)) 65535 (omega (arith, eqb-true c 0 z, eqb-true (ones (s + c)) 65535 r, ones_cases (s + c), ones_cases (s + 65535))))
    (λ _. r)

-- two right sums for the same words are one, or the two spellings of 0
pub one_is_right : OneIsRight
one_is_right s c d hc hd rc rd =
    let oc : ones (s + c) ≡ 65535 = eqb-true (ones (s + c)) 65535 rc in
    let od : ones (s + d) ≡ 65535 = eqb-true (ones (s + d)) 65535 rd in
    elim (cases_order c d) [
      | inl same ↦ inl same
      | inr (inl less) ↦ inr (inl (omega (arith, ones_cases (s + c), ones_cases (s + d))))
      | inr (inr more) ↦ inr (inr (omega (arith, ones_cases (s + c), ones_cases (s + d))))
    ]
