-- Looking through ports one by one: what is left to look through tells, one step on and at the end.
use Rattle.std.proofs.Common.{◌≡◌, ℕ, zero, suc, ◌+◌, ◌-◌, ◌<◌, ◌≤◌, Bool, true, false, cond, ◌||◌, List, [], ◌∷◌, ◌++◌, length, get_or, is_some, Some, None, Option, MatchOption, sym, refl, ap, ◌∙◌, add-one, ⊎_elim, arith}
use mathlib.Core.List.{Memᴰ}
use Rattle.std.specs.List.{list_any}
use Rattle.std.proofs.lemmas.Bool.{cases_eq, cond-true, cond-false}
use Rattle.mappings.specs.Searches.{range, first}
use Rattle.mappings.proofs.Firsts.{first_some}
use Rattle.mappings.proofs.Options.{none_not_some, true_not_false}

pub first_nothing : (f : ℕ → Bool) → first f [] ≡ None
unfolding first
first_nothing f = refl

-- the first of two lists is the first of the one, or else of the other
pub first_or_else : (f : ℕ → Bool) (xs ys : List ℕ) (o r : Option ℕ) (P : Type 0) → (P → r ≡ first f ys) → o ≡ first f xs → MatchOption o P (λ x. r ≡ Some x) → r ≡ first f (xs ++ ys)
unfolding first
first_or_else f xs ys o r P else e m = look xs o e m
  where
    look : (xs : List ℕ) (o : Option ℕ) → o ≡ first f xs → MatchOption o P (λ x. r ≡ Some x) → r ≡ first f (xs ++ ys)
    look [] None e m = else m
    look [] (Some x) e m = none_not_some (sym e)
    look (x ∷ xs) o e m = go (f x) o (look xs) e m
      where
        go : (b : Bool) (o : Option ℕ) → ((o : Option ℕ) → o ≡ first f xs → MatchOption o P (λ x. r ≡ Some x) → r ≡ first f (xs ++ ys)) → o ≡ cond b (Some x) (first f xs) → MatchOption o P (λ x. r ≡ Some x)
            → r ≡ cond b (Some x) (first f (xs ++ ys))
        go true None later e m = none_not_some e
        go true (Some y) later e m = m ∙ e
        go false o later e m = later o e m

-- whether there is one among as many numbers as a list has elements, where the test tells of each element
pub any_is : {A : Type 0} (f : ℕ → Bool) (g : A → Bool) (d : A) (a : ℕ) (ys : List A) → ((k : ℕ) → k < length ys → f (a + k) ≡ g (get_or ys k d)) → list_any g ys ≡ is_some (first f (range a (length ys)))
unfolding first range
any_is f g d a [] tells = refl
any_is f g d a (y ∷ ys) tells = go (f a) (g y) here (any_is f g d (suc a) ys (λ k low. ap f (omega arith) ∙ tells (suc k) (omega (arith, low))))
  where
    here : f a ≡ g y
    here = let same : a ≡ a + 0 = omega arith in ap f same ∙ tells 0 (omega arith)

    go : (b u : Bool) → b ≡ u → list_any g ys ≡ is_some (first f (range (suc a) (length ys))) → (u || list_any g ys) ≡ is_some (cond b (Some a) (first f (range (suc a) (length ys))))
    go true true e later = refl
    go true false e later = true_not_false e
    go false true e later = true_not_false (sym e)
    go false false e later = later

pub none_of : (f : ℕ → Bool) (xs : List ℕ) → ((x : ℕ) → Memᴰ x xs → f x ≡ false) → first f xs ≡ None
none_of f xs never = go (first f xs) refl
  where
    go : (r : Option ℕ) → first f xs ≡ r → r ≡ None
    go None e = refl
    go (Some y) e = let found = first_some f xs y e in true_not_false (sym found.1 ∙ never y found.0)

-- what is the first of the numbers from a to before e
pub first_found : (f : ℕ → Bool) (a n e : ℕ) (r : Option ℕ) → n ≡ e - a
    → MatchOption r ((k : ℕ) → a ≤ k → k < e → f k ≡ false) (λ i. (a ≤ i) × (i < e) × (f i ≡ true) × ((k : ℕ) → a ≤ k → k < i → f k ≡ false))
    → r ≡ first f (range a n)
unfolding first range
first_found f a zero e None q m = refl
first_found f a zero e (Some i) q m = absurd (omega (arith, q, m.0, m.1))
first_found f a (suc n) e r q m = go r (f a) refl m (first_found f (suc a) n e r (omega (arith, q)))
  where
    later : Option ℕ
    later = first f (range (suc a) n)

    go : (r : Option ℕ) (b : Bool) → f a ≡ b
        → MatchOption r ((k : ℕ) → a ≤ k → k < e → f k ≡ false) (λ i. (a ≤ i) × (i < e) × (f i ≡ true) × ((k : ℕ) → a ≤ k → k < i → f k ≡ false))
        → (MatchOption r ((k : ℕ) → suc a ≤ k → k < e → f k ≡ false) (λ i. (suc a ≤ i) × (i < e) × (f i ≡ true) × ((k : ℕ) → suc a ≤ k → k < i → f k ≡ false)) → r ≡ later)
        → r ≡ cond b (Some a) later
    go None true t m ih = true_not_false (sym t ∙ m a (omega arith) (omega (arith, q)))
    go None false t m ih = ih (λ k low high. m k (omega arith) high)
    go (Some i) true t m ih = ⊎_elim (λ (e : i ≡ a). ap Some e) (λ (ne : i ≡ a → ⊥). true_not_false (sym t ∙ m.3 a (omega arith) (omega (arith, m.0, ne)))) (cases_eq i a)
    go (Some i) false t m ih = ⊎_elim (λ (e : i ≡ a). true_not_false (sym m.2 ∙ ap f e ∙ t)) (λ (ne : i ≡ a → ⊥). ih (omega (arith, m.0, ne), m.1, m.2, λ k low high. m.3 k (omega arith) high)) (cases_eq i a)

-- the ports from a on, n of them, come before the rest
module _ (f : ℕ → Bool) (rest : List ℕ) where
  pub look_end : (a n : ℕ) → n ≡ 0 → first f (range a n ++ rest) ≡ first f rest
  unfolding range
  look_end a n e = ap (λ k. first f (range a k ++ rest)) e

  pub look_here : (a n k : ℕ) → n ≡ k + 1 → f a ≡ true → first f (range a n ++ rest) ≡ Some a
  unfolding first range
  look_here a n k e t = ap (λ m. first f (range a m ++ rest)) (e ∙ add-one k) ∙ cond-true (f a) (Some a) (first f (range (suc a) k ++ rest)) t

  pub look_on : (a n k b : ℕ) → n ≡ k + 1 → b ≡ a + 1 → f a ≡ false → first f (range a n ++ rest) ≡ first f (range b k ++ rest)
  unfolding first range
  look_on a n k b e s t =
      ap (λ m. first f (range a m ++ rest)) (e ∙ add-one k) ∙ cond-false (f a) (Some a) (first f (range (suc a) k ++ rest)) t
      ∙ ap (λ m. first f (range m k ++ rest)) (sym (add-one a) ∙ sym s)
