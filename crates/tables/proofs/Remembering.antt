-- Addresses that a mapping remembers: looking for one, and putting one first.
use Rattle.std.proofs.Common.{◌≡◌, ℕ, zero, suc, ◌+◌, ◌<◌, ◌≤◌, Bool, true, false, cond, not, ◌||◌, eqb, ltb, Some, None, ⊎_elim, List, [], ◌∷◌, ◌++◌, length, get_or, take, drop, set, sym, refl, ap, subst, ◌∙◌, add-one, arith}
use Rattle.std.specs.List.{list_any, position, position_or_len, remove}
use Rattle.std.specs.Option.{unwrap_or}
use Rattle.std.proofs.lemmas.List.{take_all, take-take, length-take, drop_more, drop-take}
use Rattle.std.proofs.lemmas.Bool.{cond-true, cond-false, lt-ltb, le-ltb, cases_lt}
use Rattle.mappings.specs.Mappings.{is_in, without}
use Rattle.mappings.proofs.Options.{true_not_false}

pub in_none : (a : ℕ) → is_in a [] ≡ false
unfolding is_in
in_none a = refl

pub in_any : (a : ℕ) (xs : List ℕ) → list_any (λ x. eqb x a) xs ≡ is_in a xs
unfolding is_in
in_any a [] = refl
in_any a (x ∷ xs) = ap (λ b. eqb x a || b) (in_any a xs)

-- where the address is among the first n, it is taken out of them
pub taken_out : (a m : ℕ) (ys : List ℕ) → is_in a (take (suc m) ys) ≡ true → take m (without a ys) ≡ without a (take (suc m) ys)
unfolding is_in without
taken_out a m [] e = true_not_false (sym e)
taken_out a zero (y ∷ ys) e = go (eqb y a) e
  where
    go : (b : Bool) → (b || is_in a (take zero ys)) ≡ true → take zero (cond b ys (y ∷ without a ys)) ≡ cond b (take zero ys) (y ∷ without a (take zero ys))
    go true h = refl
    go false h = true_not_false (sym h)
taken_out a (suc k) (y ∷ ys) e = go (taken_out a k ys) (eqb y a) e
  where
    go : (is_in a (take (suc k) ys) ≡ true → take k (without a ys) ≡ without a (take (suc k) ys)) → (b : Bool) → (b || is_in a (take (suc k) ys)) ≡ true →
        take (suc k) (cond b ys (y ∷ without a ys)) ≡ cond b (take (suc k) ys) (y ∷ without a (take (suc k) ys))
    go later true h = refl
    go later false h = ap (λ zs. y ∷ zs) (later h)

-- and where it is not, they stay
pub not_among : (a n : ℕ) (ys : List ℕ) → is_in a (take n ys) ≡ false → take n (without a ys) ≡ without a (take n ys)
unfolding is_in without
not_among a zero ys e = refl
not_among a (suc n) [] e = refl
not_among a (suc n) (y ∷ ys) e = go (not_among a n ys) (eqb y a) e
  where
    go : (is_in a (take n ys) ≡ false → take n (without a ys) ≡ without a (take n ys)) → (b : Bool) → (b || is_in a (take n ys)) ≡ false → take (suc n) (cond b ys (y ∷ without a ys)) ≡ cond b (take n ys) (y ∷ without a (take n ys))
    go later true h = true_not_false h
    go later false h = ap (λ zs. y ∷ zs) (later h)

-- what the first n of sixteen are, once an address was put first
pub noted_known : (a n : ℕ) (ys : List ℕ) → n ≤ 16 → is_in a (take n ys) ≡ true → take n (take 16 (a ∷ without a ys)) ≡ take 16 (a ∷ without a (take n ys))
noted_known a zero ys few e = true_not_false (sym e ∙ in_none a)
noted_known a (suc m) ys few e =
    ap (λ zs. a ∷ zs) (take-take m 15 (without a ys) (omega arith) ∙ taken_out a m ys e
    ∙ sym (take_all 15 (without a (take (suc m) ys)) (omega (arith, ap length (taken_out a m ys e), length-take m (without a ys)))))

pub noted_new : (a n : ℕ) (ys : List ℕ) → n < 16 → is_in a (take n ys) ≡ false → take (n + 1) (take 16 (a ∷ without a ys)) ≡ take 16 (a ∷ without a (take n ys))
noted_new a n ys few e =
    rw add-one (ap (λ zs. a ∷ zs) (take-take n 15 (without a ys) (omega arith) ∙ not_among a n ys e
    ∙ sym (take_all 15 (without a (take n ys)) (omega (arith, ap length (not_among a n ys e), length-take n (without a ys))))))

pub noted_full : (a n : ℕ) (ys : List ℕ) → length ys ≡ 16 → 16 ≤ n → take n (take 16 (a ∷ without a ys)) ≡ take 16 (a ∷ without a (take n ys))
noted_full a n ys long full =
    take_all n (take 16 (a ∷ without a ys)) (omega (arith, length-take 16 (a ∷ without a ys)))
    ∙ ap (λ zs. take 16 (a ∷ without a zs)) (sym (take_all n ys (omega arith)))

-- the place of an address, or else the last one, is one; and with one more element in front it is one later
pub place_within : (p : ℕ → Bool) (xs : List ℕ) (n : ℕ) → length xs ≡ suc n → unwrap_or (position p xs) n < length xs
place_within p xs n e =
    ⊎_elim
    (λ (h : position_or_len p xs < length xs). subst (λ o. unwrap_or o n < length xs) (sym (cond-true _ (Some (position_or_len p xs)) None (lt-ltb (position_or_len p xs) (length xs) h))) h)
    (λ (h : length xs ≤ position_or_len p xs). subst (λ o. unwrap_or o n < length xs) (sym (cond-false _ (Some (position_or_len p xs)) None (le-ltb (position_or_len p xs) (length xs) h))) (omega arith))
    (cases_lt (position_or_len p xs) (length xs))

place_later : (m len n : ℕ) → unwrap_or (cond (ltb (1 + m) (suc len)) (Some (1 + m)) None) (suc n) ≡ suc (unwrap_or (cond (ltb m len) (Some m) None) n)
place_later m len n =
    ⊎_elim
    (λ (h : m < len). let one : 1 + m ≡ suc m = omega arith in
    ap (λ o. unwrap_or o (suc n)) (cond-true _ (Some (1 + m)) None (lt-ltb (1 + m) (suc len) (omega arith))) ∙ one ∙ sym (ap (λ o. suc (unwrap_or o n)) (cond-true _ (Some m) None (lt-ltb m len h))))
    (λ (h : len ≤ m). ap (λ o. unwrap_or o (suc n)) (cond-false _ (Some (1 + m)) None (le-ltb (1 + m) (suc len) (omega arith))) ∙ sym (ap (λ o. suc (unwrap_or o n)) (cond-false _ (Some m) None (le-ltb m len h))))
    (cases_lt m len)

-- without what stands at the place of an address, or else at the last, the list is that without the address, as far as there is room
pub without_at : (a : ℕ) (xs : List ℕ) (n : ℕ) → length xs ≡ suc n → remove xs (unwrap_or (position (λ x. eqb x a) xs) n) ≡ take n (without a xs)
unfolding without
without_at a [] n e = absurd (omega arith)
without_at a (x ∷ ys) n e = go (eqb x a) n (without_at a ys) (omega arith)
  where
    m : ℕ
    m = position_or_len (λ y. eqb y a) ys

    go : (b : Bool) (n : ℕ) → ((k : ℕ) → length ys ≡ suc k → remove ys (unwrap_or (position (λ x. eqb x a) ys) k) ≡ take k (without a ys)) → length ys ≡ n →
        remove (x ∷ ys) (unwrap_or (cond (ltb (cond (not b) (1 + m) 0) (suc (length ys))) (Some (cond (not b) (1 + m) 0)) None) n) ≡ take n (cond b ys (x ∷ without a ys))
    go true n rest h = ap (λ o. remove (x ∷ ys) (unwrap_or o n)) (cond-true _ (Some 0) None (lt-ltb 0 (suc (length ys)) (omega arith))) ∙ sym (take_all n ys (omega arith))
    go false zero rest h =
        ap (λ o. remove (x ∷ ys) (unwrap_or o 0)) (cond-false _ (Some (1 + m)) None (le-ltb (1 + m) (suc (length ys)) (omega arith))) ∙ sym (take_all 0 ys (omega arith))
    go false (suc k) rest h = ap (remove (x ∷ ys)) (place_later m (length ys) k) ∙ ap (λ zs. x ∷ zs) (rest k h)

-- the first k + 1 turned by one, and the address written in front
pub put_in_front : (a : ℕ) (xs turned : List ℕ) (k : ℕ) → k < length xs → turned ≡ drop k (take (k + 1) xs) ++ take k (take (k + 1) xs) → set (turned ++ drop (k + 1) xs) 0 a ≡ a ∷ remove xs k
put_in_front a xs turned k within e =
    ap (λ zs. set (zs ++ drop (k + 1) xs) 0 a) (e ∙ (λ i. last i ++ take-take k (k + 1) xs (omega arith) i)) ∙ ap (λ n. a ∷ take k xs ++ drop n xs) (add-one k)
  where
    last : drop k (take (k + 1) xs) ≡ get_or xs k 0 ∷ []
    last = drop-take k 1 xs ∙ ap (take 1) (drop_more xs k 0 within)
