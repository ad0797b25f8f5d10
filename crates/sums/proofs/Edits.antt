-- Laws of putting a word into a list of bytes: what is read back, what stays, and how the sum of all words moves.
use Rattle.std.proofs.Common.{◌≡◌, ℕ, zero, suc, ◌+◌, ◌*◌, ◌/◌, ◌%◌, ◌<◌, ◌≢◌, ◌⊎◌, List, [], ◌∷◌, length, set, ap, ◌∙◌, inl, inr, arith}
use Rattle.std.proofs.lemmas.List.{length-set, get_or-set_same, get_or-set_other, set-set, set_comm}
use Rattle.std.proofs.lemmas.Bool.{cases_order}
use Rattle.sums.specs.Words.{byte_at, word_at, long_at, put_word, put_long, word_sum}
use Rattle.sums.proofs.WordSums.{sum_odd, sum_pair}

pub length_put : (bs : List ℕ) (i w : ℕ) → length (put_word bs i w) ≡ length bs
length_put bs i w = length-set (set bs i (w / 256)) (i + 1) (w % 256) ∙ length-set bs i (w / 256)

-- bytes besides the word's two stay
pub byte_other : (bs : List ℕ) (i w j : ℕ) → j ≢ i → j ≢ i + 1 → byte_at (put_word bs i w) j ≡ byte_at bs j
byte_other bs i w j ne ne' = get_or-set_other (set bs i (w / 256)) (i + 1) j (w % 256) 0 ne' ∙ get_or-set_other bs i j (w / 256) 0 ne

pub word_same : (bs : List ℕ) (i w : ℕ) → i + 1 < length bs → word_at (put_word bs i w) i ≡ w
word_same bs i w h =
    let ne : i ≢ i + 1 = omega arith in
    let low : byte_at (put_word bs i w) (i + 1) ≡ w % 256 =
    get_or-set_same (set bs i (w / 256)) (i + 1) (w % 256) 0 (omega (arith, length-set bs i (w / 256))) in
    let high : byte_at (put_word bs i w) i ≡ w / 256 =
    get_or-set_other (set bs i (w / 256)) (i + 1) i (w % 256) 0 ne ∙ get_or-set_same bs i (w / 256) 0 (omega arith) in
    omega arith

-- a word that shares no byte with the one put stays
pub word_below : (bs : List ℕ) (i w j : ℕ) → j + 1 < i → word_at (put_word bs i w) j ≡ word_at bs j
word_below bs i w j h =
    let high : byte_at (put_word bs i w) j ≡ byte_at bs j = byte_other bs i w j (omega arith) (omega arith) in
    let low : byte_at (put_word bs i w) (j + 1) ≡ byte_at bs (j + 1) = byte_other bs i w (j + 1) (omega arith) (omega arith) in
    omega arith

pub word_above : (bs : List ℕ) (i w j : ℕ) → i + 1 < j → word_at (put_word bs i w) j ≡ word_at bs j
word_above bs i w j h =
    let high : byte_at (put_word bs i w) j ≡ byte_at bs j = byte_other bs i w j (omega arith) (omega arith) in
    let low : byte_at (put_word bs i w) (j + 1) ≡ byte_at bs (j + 1) = byte_other bs i w (j + 1) (omega arith) (omega arith) in
    omega arith

-- so does every other word at an even place
pub word_apart : (bs : List ℕ) (j w k : ℕ) → k ≢ j → word_at (put_word bs (2 * j) w) (2 * k) ≡ word_at bs (2 * k)
word_apart bs j w k ne =
    elim (cases_order k j) [
      | inl same ↦ absurd (ne same)
      | inr (inl less) ↦ word_below bs (2 * j) w (2 * k) (omega arith)
      | inr (inr more) ↦ word_above bs (2 * j) w (2 * k) (omega arith)
    ]

-- of two words put at one place the second is left
pub put_put : (bs : List ℕ) (i v w : ℕ) → put_word (put_word bs i v) i w ≡ put_word bs i w
put_put bs i v w =
    ap (λ xs. set xs (i + 1) (w % 256)) (set_comm (set bs i (v / 256)) (i + 1) i (v % 256) (w / 256) (omega arith))
    ∙ (set-set (set (set bs i (v / 256)) i (w / 256)) (i + 1) (v % 256) (w % 256)
    ∙ ap (λ xs. set xs (i + 1) (w % 256)) (set-set bs i (v / 256) (w / 256)))

put_shifted : (a b : ℕ) (bs : List ℕ) (i w : ℕ) → put_word (a ∷ (b ∷ bs)) (i + 2) w ≡ a ∷ (b ∷ put_word bs i w)
put_shifted a b bs i w =
    let e : i + 2 ≡ suc (suc i) = omega arith in
    let f : i + 2 + 1 ≡ suc (suc (i + 1)) = omega arith in
    ap (λ n. set (set (a ∷ (b ∷ bs)) n (w / 256)) (i + 2 + 1) (w % 256)) e
    ∙ ap (λ n. set (a ∷ (b ∷ set bs i (w / 256))) n (w % 256)) f

word_shifted : (a b : ℕ) (bs : List ℕ) (i : ℕ) → word_at (a ∷ (b ∷ bs)) (i + 2) ≡ word_at bs i
word_shifted a b bs i =
    let e : i + 2 ≡ suc (suc i) = omega arith in
    let f : i + 2 + 1 ≡ suc (suc (i + 1)) = omega arith in
    let high : byte_at (a ∷ (b ∷ bs)) (i + 2) ≡ byte_at bs i = ap (λ n. byte_at (a ∷ (b ∷ bs)) n) e in
    let low : byte_at (a ∷ (b ∷ bs)) (i + 2 + 1) ≡ byte_at bs (i + 1) = ap (λ n. byte_at (a ∷ (b ∷ bs)) n) f in
    omega arith

-- ONE CHANGED WORD. At an even place, the sum of all words loses the old one and gains the new one.
pub sum_put : (k : ℕ) (bs : List ℕ) (w : ℕ) → 2 * k + 1 < length bs → word_sum (put_word bs (2 * k) w) + word_at bs (2 * k) ≡ word_sum bs + w
sum_put zero [] w h = omega arith
sum_put zero (a ∷ []) w h = omega arith
sum_put zero (a ∷ (b ∷ bs)) w h = omega (arith, sum_pair (w / 256) (w % 256) bs, sum_pair a b bs)
sum_put (suc k) [] w h = omega arith
sum_put (suc k) (a ∷ []) w h = omega arith
sum_put (suc k) (a ∷ (b ∷ bs)) w h =
    let step : 2 * suc k ≡ 2 * k + 2 = omega arith in
    let put : put_word (a ∷ (b ∷ bs)) (2 * suc k) w ≡ a ∷ (b ∷ put_word bs (2 * k) w) =
    ap (λ n. put_word (a ∷ (b ∷ bs)) n w) step ∙ put_shifted a b bs (2 * k) w in
    let at : word_at (a ∷ (b ∷ bs)) (2 * suc k) ≡ word_at bs (2 * k) = ap (λ n. word_at (a ∷ (b ∷ bs)) n) step ∙ word_shifted a b bs (2 * k) in
    let sum : word_sum (put_word (a ∷ (b ∷ bs)) (2 * suc k) w) ≡ a * 256 + b + word_sum (put_word bs (2 * k) w) =
    ap word_sum put ∙ sum_pair a b (put_word bs (2 * k) w) in
    omega (arith, sum_put k bs w (omega arith), sum_pair a b bs)

-- a word's high byte alone
pub sum_set : (k : ℕ) (bs : List ℕ) (b : ℕ) → 2 * k < length bs → word_sum (set bs (2 * k) b) + byte_at bs (2 * k) * 256 ≡ word_sum bs + b * 256
sum_set zero [] b h = omega arith
sum_set zero (a ∷ []) b h = omega (arith, sum_odd a, sum_odd b)
sum_set zero (a ∷ (d ∷ bs)) b h = omega (arith, sum_pair a d bs, sum_pair b d bs)
sum_set (suc k) [] b h = omega arith
sum_set (suc k) (a ∷ []) b h = omega arith
sum_set (suc k) (a ∷ (d ∷ bs)) b h =
    let step : 2 * suc k ≡ suc (suc (2 * k)) = omega arith in
    let sum : word_sum (set (a ∷ (d ∷ bs)) (2 * suc k) b) ≡ a * 256 + d + word_sum (set bs (2 * k) b) =
    ap (λ n. word_sum (set (a ∷ (d ∷ bs)) n b)) step ∙ sum_pair a d (set bs (2 * k) b) in
    let at : byte_at (a ∷ (d ∷ bs)) (2 * suc k) ≡ byte_at bs (2 * k) = ap (λ n. byte_at (a ∷ (d ∷ bs)) n) step in
    omega (arith, sum_set k bs b (omega arith), sum_pair a d bs)

-- the same of a number of 32 bits
pub length_put_long : (bs : List ℕ) (i n : ℕ) → length (put_long bs i n) ≡ length bs
length_put_long bs i n = length_put (put_word bs i (n / 65536)) (i + 2) (n % 65536) ∙ length_put bs i (n / 65536)

pub byte_apart : (bs : List ℕ) (i n j : ℕ) → (j < i) ⊎ (i + 3 < j) → byte_at (put_long bs i n) j ≡ byte_at bs j
byte_apart bs i n j h =
    byte_other (put_word bs i (n / 65536)) (i + 2) (n % 65536) j (omega arith) (omega arith)
    ∙ byte_other bs i (n / 65536) j (omega arith) (omega arith)

pub long_same : (bs : List ℕ) (i n : ℕ) → i + 3 < length bs → long_at (put_long bs i n) i ≡ n
long_same bs i n h =
    let first : List ℕ = put_word bs i (n / 65536) in
    let high : word_at (put_long bs i n) i ≡ n / 65536 =
    word_below first (i + 2) (n % 65536) i (omega arith) ∙ word_same bs i (n / 65536) (omega arith) in
    let low : word_at (put_long bs i n) (i + 2) ≡ n % 65536 =
    word_same first (i + 2) (n % 65536) (omega (arith, length_put bs i (n / 65536))) in
    omega arith
