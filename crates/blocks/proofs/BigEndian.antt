-- Numbers and their bytes, high byte first.
use Rattle.std.proofs.Common.{◌≡◌, ℕ, zero, suc, ◌+◌, ◌*◌, ◌/◌, ◌%◌, ◌^◌, ◌<◌, ◌≤◌, List, [], ◌∷◌, ◌++◌, length, get_or, take, drop, sym, refl, ap, ◌∙◌, append_assoc, pow-suc, add-one, arith, length-drop, get_or-drop}
use Rattle.std.proofs.lemmas.List.{get_or-append-add, length_push, take_more}
use Rattle.blocks.specs.Bytes.{AllBytes, number_at, bytes_of}

-- a byte, and what `to_be_bytes` gives taken apart, put before the rest
pub one : (v : ℕ) (rest : List ℕ) → v < 256 → v ∷ rest ≡ bytes_of 1 v ++ rest
one v rest small = let e : v ≡ v % 256 = omega arith in ap (λ n. n ∷ rest) e

pub two : (v : ℕ) {r : List ℕ} (rest : List ℕ) → r ≡ (v / 256 % 256) ∷ (v % 256) ∷ [] → get_or r 0 0 ∷ get_or r 1 0 ∷ rest ≡ bytes_of 2 v ++ rest
two v rest p = λ i. get_or (p i) 0 0 ∷ get_or (p i) 1 0 ∷ rest

pub four : (v : ℕ) {r : List ℕ} (rest : List ℕ) → r ≡ (v / 16777216 % 256) ∷ (v / 65536 % 256) ∷ (v / 256 % 256) ∷ (v % 256) ∷ [] →
    get_or r 0 0 ∷ get_or r 1 0 ∷ get_or r 2 0 ∷ get_or r 3 0 ∷ rest ≡ bytes_of 4 v ++ rest
four v rest p =
    let third : v / 65536 % 256 ≡ v / 256 / 256 % 256 = omega arith in
    let fourth : v / 16777216 % 256 ≡ v / 256 / 256 / 256 % 256 = omega arith in
    (λ i. get_or (p i) 0 0 ∷ get_or (p i) 1 0 ∷ get_or (p i) 2 0 ∷ get_or (p i) 3 0 ∷ rest)
    ∙ (λ i. fourth i ∷ third i ∷ (v / 256 % 256) ∷ (v % 256) ∷ rest)

pub length_bytes_of : (n v : ℕ) → length (bytes_of n v) ≡ n
length_bytes_of zero v = refl
length_bytes_of (suc n) v = length_push (bytes_of n (v / 256)) (v % 256) ∙ omega (arith, length_bytes_of n (v / 256))

-- a number of n bytes that stands before the rest is read as itself
pub number_bytes_of : (n v : ℕ) (rest : List ℕ) → v < 256 ^ n → number_at (bytes_of n v ++ rest) 0 n ≡ v
number_bytes_of zero v rest small = omega arith
number_bytes_of (suc n) v rest small =
    let front = bytes_of n (v / 256) in
    let same : (front ++ (v % 256 ∷ [])) ++ rest ≡ front ++ (v % 256 ∷ rest) = append_assoc front (v % 256 ∷ []) rest in
    let high = number_bytes_of n (v / 256) (v % 256 ∷ rest) (omega (arith, pow-suc 256 n, small)) in
    let place : 0 + n ≡ length front + 0 = omega (arith, length_bytes_of n (v / 256)) in
    let low = ap (λ k. get_or (front ++ (v % 256 ∷ rest)) k 0) place ∙ get_or-append-add front (v % 256 ∷ rest) 0 0 in
    (λ i. number_at (same i) 0 n * 256 + get_or (same i) (0 + n) 0) ∙ omega (arith, high, low)

-- the bytes of the number at a place are those at that place
pub bytes_of_number : (bs : List ℕ) (i n : ℕ) → AllBytes bs → i + n ≤ length bs → bytes_of n (number_at bs i n) ≡ take n (drop i bs)
bytes_of_number bs i zero small h = refl
bytes_of_number bs i (suc n) small h =
    let high = number_at bs i n in
    let low = get_or bs (i + n) 0 in
    let front : (high * 256 + low) / 256 ≡ high = omega (arith, small (i + n)) in
    let last : (high * 256 + low) % 256 ≡ low = omega (arith, small (i + n)) in
    let long : n < length (drop i bs) = omega (arith, length-drop i bs) in
    (λ j. bytes_of n (front j) ++ (last j ∷ []))
    ∙ (λ j. bytes_of_number bs i n small (omega arith) j ++ (sym (get_or-drop i bs n 0) j ∷ []))
    ∙ sym (take_more (drop i bs) n 0 long)
    ∙ ap (λ k. take k (drop i bs)) (add-one n)
