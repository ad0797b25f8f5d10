-- What the first number that passes a test is, over any test.
use Rattle.std.proofs.Common.{◌≡◌, ℕ, zero, suc, ◌+◌, ◌<◌, ◌≤◌, Bool, true, false, cond, ◌⊎◌, List, [], ◌∷◌, Some, None, Option, sym, refl, ap, ◌∙◌, subst, inl, inr, ⊎_elim, arith}
use mathlib.Core.List.Memᴰ
use mathlib.Core.List.{Memᴰ}
use Rattle.std.proofs.lemmas.Bool.{cases_eq}
use Rattle.mappings.specs.Searches.{range, first}
use Rattle.mappings.proofs.Options.{none_not_some, same_some, true_not_false}

pub first_some : (f : ℕ → Bool) (xs : List ℕ) (y : ℕ) → first f xs ≡ Some y → Memᴰ y xs × (f y ≡ true)
unfolding first
first_some f [] y e = none_not_some e
first_some f (x ∷ xs) y e = go (first_some f xs y) (f x) refl e
  where
    go : (first f xs ≡ Some y → Memᴰ y xs × (f y ≡ true)) → (b : Bool) → f x ≡ b → cond b (Some x) (first f xs) ≡ Some y → Memᴰ y (x ∷ xs) × (f y ≡ true)
    go later true h k = (Memᴰ.head (sym (same_some k)), subst (λ z. f z ≡ true) (same_some k) h)
    go later false h k = (Memᴰ.tail (later k).0, (later k).1)

pub first_none : (f : ℕ → Bool) (xs : List ℕ) → first f xs ≡ None → (y : ℕ) → Memᴰ y xs → f y ≡ false
unfolding first
first_none f [] e y i = elim i [ ]
first_none f (x ∷ xs) e y i = go (λ k. first_none f xs k y) (f x) refl e (Memᴰ.cases_cons i)
  where
    go : (first f xs ≡ None → Memᴰ y xs → f y ≡ false) → (b : Bool) → f x ≡ b → cond b (Some x) (first f xs) ≡ None → (y ≡ x) ⊎ Memᴰ y xs → f y ≡ false
    go later true h k j = none_not_some (sym k)
    go later false h k (inl j) = subst (λ z. f z ≡ false) (sym j) h
    go later false h k (inr j) = later k j

-- where only one number passes, it is found
pub first_only : (f : ℕ → Bool) (xs : List ℕ) (y : ℕ) → Memᴰ y xs → f y ≡ true → ((z : ℕ) → f z ≡ true → z ≡ y) → first f xs ≡ Some y
first_only f xs y i h only = go (first f xs) refl
  where
    go : (o : Option ℕ) → first f xs ≡ o → first f xs ≡ Some y
    go None e = true_not_false (sym h ∙ first_none f xs e y i)
    go (Some z) e = e ∙ ap Some (only z (first_some f xs z e).1)

-- two tests that agree on the list find the same
pub first_same : (f g : ℕ → Bool) (xs : List ℕ) → ((x : ℕ) → Memᴰ x xs → f x ≡ g x) → first f xs ≡ first g xs
unfolding first
first_same f g [] h = refl
first_same f g (x ∷ xs) h =
    let here : f x ≡ g x = h x (Memᴰ.head refl) in
    let later : first f xs ≡ first g xs = first_same f g xs (λ y i. h y (Memᴰ.tail i)) in
    cc

pub range_has : (a n x : ℕ) → a ≤ x → x < a + n → Memᴰ x (range a n)
unfolding range
range_has a zero x l h = absurd (omega arith)
range_has a (suc n) x l h =
    ⊎_elim (λ (e : x ≡ a). Memᴰ.head e) (λ (ne : x ≡ a → ⊥). Memᴰ.tail (range_has (suc a) n x (omega arith) (omega arith))) (cases_eq x a)

pub has_range : (a n x : ℕ) → Memᴰ x (range a n) → (a ≤ x) × (x < a + n)
unfolding range
has_range a zero x i = elim i [ ]
has_range a (suc n) x i = go (has_range (suc a) n x) (Memᴰ.cases_cons i)
  where
    go : (Memᴰ x (range (suc a) n) → (suc a ≤ x) × (x < suc a + n)) → (x ≡ a) ⊎ Memᴰ x (range (suc a) n) → (a ≤ x) × (x < a + suc n)
    go later (inl e) = omega arith
    go later (inr j) = let k : (suc a ≤ x) × (x < suc a + n) = later j in omega arith

-- what is found in a range is the lowest that passes
pub first_lowest : (f : ℕ → Bool) (a n x y : ℕ) → first f (range a n) ≡ Some x → a ≤ y → y < x → f y ≡ false
unfolding first range
first_lowest f a zero x y e l h = none_not_some e
first_lowest f a (suc n) x y e l h = go (λ k. first_lowest f (suc a) n x y k) (f a) refl e (cases_eq y a)
  where
    go : (first f (range (suc a) n) ≡ Some x → suc a ≤ y → y < x → f y ≡ false) → (b : Bool) → f a ≡ b →
        cond b (Some a) (first f (range (suc a) n)) ≡ Some x → (y ≡ a) ⊎ (y ≡ a → ⊥) → f y ≡ false
    go later true k j c = let q : a ≡ x = same_some j in absurd (omega arith)
    go later false k j (inl c) = subst (λ z. f z ≡ false) (sym c) k
    go later false k j (inr c) = later j (omega arith) h
