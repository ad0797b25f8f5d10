-- Texts with a separator: what stands before it, and what behind.
use Rattle.std.proofs.Common.{◌≡◌, ℕ, suc, ◌<◌, List, [], ◌∷◌, ◌++◌, length, get_or, Some, None, refl, ap, ◌∙◌, arith, Bor}
use Rattle.std.proofs.lemmas.Str.Pattern.{IsSplitOnceResult, split_after, split_parts}
use Rattle.std.proofs.lemmas.Grind.{common_steps}
use Rattle.text.specs.Reading.{ReadsAs, ReadsBefore}

-- the separator is nowhere in the text
abbrev pub Lacks : ℕ → List ℕ → Type 0
Lacks sep bs = (i : ℕ) → i < length bs → get_or bs i 0 ≡ sep → ⊥

module _ {A : Type 0} (show : A → List ℕ) (within : A → Type 0) (sep : ℕ) (ascii : sep < 128) (clean : (x : A) → within x → Lacks sep (show x)) where
  -- nothing to split: nothing is written before a separator
  pub none_before : (bs : List ℕ) → IsSplitOnceResult sep bs None → ReadsBefore show within sep bs None
  none_before bs h x rest ok e = split_after sep bs (show x) rest None h ascii e (clean x ok)

  -- what stands before the separator is no such thing
  pub not_before : (bs : List ℕ) (front rest : Bor (List ℕ)) → IsSplitOnceResult sep bs (Some (front, rest)) → ReadsAs show within front.now None → ReadsBefore show within sep bs None
  not_before bs front rest h none x after ok e = none x ok (split_after sep bs (show x) after (Some (front, rest)) h ascii e (clean x ok)).0

  pub read_before : (bs : List ℕ) (front rest : Bor (List ℕ)) (x : A) → IsSplitOnceResult sep bs (Some (front, rest)) → ReadsAs show within front.now (Some x) → ReadsBefore show within sep bs (Some (x, rest))
  read_before bs front rest x h is = (is.0, (split_parts sep bs (Some (front, rest)) h ascii).0 ∙ ap (λ f. f ++ (sep ∷ rest.now)) is.1)

pub lacks_cons : (sep x : ℕ) (xs : List ℕ) → (x ≡ sep → ⊥) → Lacks sep xs → Lacks sep (x ∷ xs)
lacks_cons sep x xs other h i inside e = grind (arith, common_steps)

lacks_rest : (sep x : ℕ) (xs : List ℕ) → Lacks sep (x ∷ xs) → Lacks sep xs
lacks_rest sep x xs h i inside = h (suc i) (omega arith)

pub lacks_append : (sep : ℕ) (xs ys : List ℕ) → Lacks sep xs → Lacks sep ys → Lacks sep (xs ++ ys)
lacks_append sep xs ys p q i inside e = grind (arith, common_steps)

lacks_first : {X : Type 0} (sep x : ℕ) (xs : List ℕ) → Lacks sep (x ∷ xs) → x ≡ sep → X
lacks_first sep x xs h e = absurd (h 0 (omega arith) e)

-- two ways to say what stands before and behind the first separator are one
pub split_once_only : (sep : ℕ) (f g xs ys : List ℕ) → Lacks sep f → Lacks sep g → f ++ (sep ∷ xs) ≡ g ++ (sep ∷ ys) → (f ≡ g) × (xs ≡ ys)
split_once_only sep [] [] xs ys p q e = (refl, cc)
split_once_only sep [] (y ∷ g) xs ys p q e = lacks_first sep y g q (cc)
split_once_only sep (x ∷ f) [] xs ys p q e = lacks_first sep x f p (cc)
split_once_only sep (x ∷ f) (y ∷ g) xs ys p q e =
    let first : x ≡ y = cc in
    let rest : f ++ (sep ∷ xs) ≡ g ++ (sep ∷ ys) = cc in
    let more = split_once_only sep f g xs ys (lacks_rest sep x f p) (lacks_rest sep y g q) rest in
    ((λ i. first i ∷ more.0 i), more.1)
