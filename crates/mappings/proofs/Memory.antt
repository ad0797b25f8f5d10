-- What a mapping remembers: different addresses, at most sixteen, the latest first.
use Rattle.std.proofs.Common.{◌≡◌, ℕ, zero, suc, ◌+◌, ◌≤◌, Bool, true, false, cond, not, eqb, ◌⊎◌, List, [], ◌∷◌, length, take, Some, Option, sym, refl, ap, ◌∙◌, subst, inl, inr, ⊎_elim, arith}
use Rattle.std.proofs.lemmas.List.{length-take, take-take}
use Rattle.std.proofs.lemmas.Bool.{and_parts, and_from, or_cases, or_left, or_right, or_from, eq-eqb, eqb-true, cases_eq, not-true, not_from_false}
use Rattle.blocks.specs.Config.{Config}
use Rattle.blocks.specs.Ports.{port_of}
use Rattle.mappings.specs.declared.event.Outward.{Outward}
use Rattle.mappings.specs.declared.event.Event.{Event}
use Rattle.mappings.specs.declared.event.Event.TheVariants.{Goes}
use Rattle.mappings.specs.declared.event.Verdict.TheVariants.{Sent}
use Rattle.mappings.specs.Mappings.{Mapping, is_of, is_in, without, noted, made, noting}
use Rattle.mappings.specs.States.{State, fresh}
use Rattle.mappings.specs.Steps.{Step, put, step}
use Rattle.mappings.specs.Runs.{state_after}
use Rattle.mappings.specs.Promise.{after, distinct, Noted, Remembered, MovesBack}
use Rattle.mappings.proofs.Options.{none_not_some, same_some, true_not_false}
use Rattle.mappings.proofs.Shapes.{Shape, refuses, stops, delivers, errs, again, makes, gives, ticks, shape}
use Rattle.mappings.proofs.Sound.{put_same, put_cases, of_from}
use Rattle.mappings.proofs.Soundness.{left_known}
use Rattle.mappings.proofs.Answers.{in_take, in_without}
use Rattle.mappings.proofs.Tracing.{clash}

-- what is not in a list is in none of its fronts
out_take : (a n : ℕ) (xs : List ℕ) → is_in a xs ≡ false → is_in a (take n xs) ≡ false
out_take a n xs e = go (is_in a (take n xs)) refl
  where
    go : (b : Bool) → is_in a (take n xs) ≡ b → b ≡ false
    go false h = refl
    go true h = sym (in_take a n xs h) ∙ e

out_without : (a b : ℕ) (xs : List ℕ) → is_in a xs ≡ false → is_in a (without b xs) ≡ false
out_without a b xs e = go (is_in a (without b xs)) refl
  where
    go : (t : Bool) → is_in a (without b xs) ≡ t → t ≡ false
    go false h = refl
    go true h = sym (in_without a b xs h) ∙ e

-- of different addresses the one taken out is there no more
gone : (a : ℕ) (xs : List ℕ) → distinct xs ≡ true → is_in a (without a xs) ≡ false
unfolding is_in without distinct
gone a [] d = refl
gone a (x ∷ xs) d = go (eqb x a) refl (gone a xs (and_parts (not (is_in x xs)) (distinct xs) d).1)
  where
    go : (t : Bool) → eqb x a ≡ t → is_in a (without a xs) ≡ false → is_in a (cond t xs (x ∷ without a xs)) ≡ false
    go true h later = subst (λ y. is_in y xs ≡ false) (eqb-true x a h) (not-true (is_in x xs) (and_parts (not (is_in x xs)) (distinct xs) d).0)
    go false h later = or_from (eqb x a) (is_in a (without a xs)) h later

distinct_without : (a : ℕ) (xs : List ℕ) → distinct xs ≡ true → distinct (without a xs) ≡ true
unfolding without distinct
distinct_without a [] d = refl
distinct_without a (x ∷ xs) d = go (eqb x a) (distinct_without a xs parts.1)
  where
    parts : (not (is_in x xs) ≡ true) × (distinct xs ≡ true)
    parts = and_parts (not (is_in x xs)) (distinct xs) d

    go : (t : Bool) → distinct (without a xs) ≡ true → distinct (cond t xs (x ∷ without a xs)) ≡ true
    go true later = parts.1
    go false later = and_from (not (is_in x (without a xs))) (distinct (without a xs)) (not_from_false (is_in x (without a xs)) (out_without x a xs (not-true (is_in x xs) parts.0))) later

distinct_take : (n : ℕ) (xs : List ℕ) → distinct xs ≡ true → distinct (take n xs) ≡ true
unfolding distinct
distinct_take zero xs d = refl
distinct_take (suc n) [] d = refl
distinct_take (suc n) (x ∷ xs) d =
    let parts = and_parts (not (is_in x xs)) (distinct xs) d in
    and_from (not (is_in x (take n xs))) (distinct (take n xs)) (not_from_false (is_in x (take n xs)) (out_take x n xs (not-true (is_in x xs) parts.0))) (distinct_take n xs parts.1)

distinct_noted : (a : ℕ) (xs : List ℕ) → distinct xs ≡ true → distinct (noted a xs) ≡ true
unfolding distinct
distinct_noted a xs d = distinct_take 16 (a ∷ without a xs) (and_from (not (is_in a (without a xs))) (distinct (without a xs)) (not_from_false (is_in a (without a xs)) (gone a xs d)) (distinct_without a xs d))

abbrev Kept : Mapping → Type 0
Kept m = (distinct m.remembered ≡ true) × (length m.remembered ≤ 16)

noting_kept : (t a : ℕ) (m : Mapping) → Kept m → Kept (noting t a m)
noting_kept t a m k = let long = length-take 16 (a ∷ without a m.remembered) in (distinct_noted a m.remembered k.0, omega arith)

made_kept : (t : ℕ) (o : Outward) → Kept (made t o)
unfolding distinct is_in
made_kept t o = (refl, omega arith)

pub record Minds (s : State) : Type 0 where
  pub each : (p : ℕ) (m : Mapping) → s.slots p ≡ Some m → Kept m

put_minds : (s : State) → Minds s → (p : ℕ) (x : Mapping) → Kept x → (q : ℕ) (m : Mapping) → put s.slots p (Some x) q ≡ Some m → Kept m
put_minds s i p x k q m e = go (put_cases s.slots p (Some x) q (Some m) e)
  where
    go : ((q ≡ p) × (Some x ≡ Some m)) ⊎ ((q ≡ p → ⊥) × (s.slots q ≡ Some m)) → Kept m
    go (inl h) = subst Kept (same_some h.1) k
    go (inr h) = i.each q m h.1

step_minds : (c : Config) (s : State) → Minds s → {e : Event} {r : Step} → Shape c s e r → Minds r.state
step_minds c s i (refuses r) = record { each = i.each }
step_minds c s i stops = record { each = i.each }
step_minds c s i (delivers j m a k) = record { each = i.each }
step_minds c s i (errs o p m a f k) = record { each = i.each }
step_minds c s i (again o p m a f) = record { each = put_minds s i p (noting s.tick o.to m) (noting_kept s.tick o.to m (i.each p m f.there)) }
step_minds c s i (makes o p f e) = record { each = put_minds s i p (made s.tick o) (made_kept s.tick o) }
step_minds c s i (gives o b f a e) = record { each = put_minds s i (port_of c b 0) (made s.tick o) (made_kept s.tick o) }
step_minds c s i (ticks a) = record { each = λ p m e. i.each p m (left_known c (s.tick + 1) (s.slots p) m e).0 }

run_minds : (c : Config) (s : State) → Minds s → (es : List Event) → Minds (state_after c s es)
unfolding state_after
run_minds c s i [] = i
run_minds c s i (e ∷ es) = run_minds c (step c e s).state (step_minds c s i (shape c e s)) es

pub remembered : Remembered
remembered c es p m e = (run_minds c (fresh c) (record { each = λ q n h. none_not_some h }) es).each p m e

in_longer : (b k : ℕ) (xs : List ℕ) → is_in b (take k xs) ≡ true → is_in b (take (suc k) xs) ≡ true
unfolding is_in
in_longer b zero xs e = true_not_false (sym e)
in_longer b (suc k) [] e = e
in_longer b (suc k) (x ∷ xs) e = ⊎_elim (λ (h : eqb x b ≡ true). or_left (eqb x b) (is_in b (take (suc k) xs)) h) (λ (h : is_in b (take k xs) ≡ true). or_right (eqb x b) (is_in b (take (suc k) xs)) (in_longer b k xs h))
    (or_cases (eqb x b) (is_in b (take k xs)) e)

in_others : (a b k : ℕ) (xs : List ℕ) → (a ≡ b → ⊥) → is_in b (take k xs) ≡ true → is_in b (take k (without a xs)) ≡ true
unfolding is_in without
in_others a b zero xs ne e = e
in_others a b (suc k) [] ne e = e
in_others a b (suc k) (x ∷ xs) ne e = go (eqb x a) refl (or_cases (eqb x b) (is_in b (take k xs)) e) (in_others a b k xs ne)
  where
    go : (t : Bool) → eqb x a ≡ t → (eqb x b ≡ true) ⊎ (is_in b (take k xs) ≡ true) → (is_in b (take k xs) ≡ true → is_in b (take k (without a xs)) ≡ true) → is_in b (take (suc k) (cond t xs (x ∷ without a xs))) ≡ true
    go true h (inl j) later = absurd (ne (sym (eqb-true x a h) ∙ eqb-true x b j))
    go true h (inr j) later = in_longer b k xs j
    go false h (inl j) later = or_left (eqb x b) (is_in b (take k (without a xs))) j
    go false h (inr j) later = or_right (eqb x b) (is_in b (take k (without a xs))) (later j)

pub moves_back : MovesBack
unfolding is_in
moves_back a b xs k l e = ⊎_elim
    (λ (h : a ≡ b). or_left (eqb a b) _ (eq-eqb a b h))
    (λ (ne : a ≡ b → ⊥). or_right (eqb a b) (is_in b (take k (take 15 (without a xs)))) (ap (is_in b) (take-take k 15 (without a xs) (omega arith)) ∙ in_others a b k xs ne e))
    (cases_eq a b)

abbrev NotedIn : ℕ → Outward → (ℕ → Option Mapping) → ℕ → Type 0
NotedIn t o slots p = (m : Mapping) × (slots p ≡ Some m) × (is_of o m ≡ true) × (m.last ≡ t) × (rest : List ℕ) × (m.remembered ≡ o.to ∷ rest)

sent_noted : (c : Config) (s : State) (o : Outward) {r : Step} → Shape c s (Goes o) r → (p : ℕ) → r.verdict ≡ Sent p → NotedIn s.tick o r.state.slots p
sent_noted c s o (refuses r) p v = clash (cc)
sent_noted c s o stops p v = clash (cc)
sent_noted c s o (delivers j m a k) p v = clash (cc)
sent_noted c s o (again x q m a f) p v =
    let e : p ≡ q = cc in
    (noting s.tick o.to m, put_same s.slots q (Some (noting s.tick o.to m)) p e, f.its, refl, _, refl)
sent_noted c s o (makes x q f k) p v =
    let e : p ≡ q = cc in
    (made s.tick o, put_same s.slots q (Some (made s.tick o)) p e, of_from o (made s.tick o) refl refl refl, refl, [], refl)
sent_noted c s o (gives x b f k l) p v =
    let e : p ≡ port_of c b 0 = cc in
    (made s.tick o, put_same s.slots (port_of c b 0) (Some (made s.tick o)) p e, of_from o (made s.tick o) refl refl refl, refl, [], refl)

pub noted_now : Noted
noted_now c es o p v = sent_noted c (after c es) o (shape c (Goes o) (after c es)) p v
