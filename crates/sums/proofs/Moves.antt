-- A list's sum, moved by what changed in the list and besides it.
use Rattle.std.proofs.Common.{◌≡◌, ℕ, ◌+◌, ◌*◌, ◌/◌, ◌%◌, ◌<◌, true, List, [], ◌∷◌, length, set, refl, ap, ◌∙◌, subst, arith}
use Rattle.std.proofs.lemmas.List.{length-set}
use Rattle.sums.specs.Words.{byte_at, word_at, put_word, put_long, word_sum}
use Rattle.sums.specs.Sums.{right, rest_sum}
use Rattle.sums.specs.Laws.{Edit, changed, gone, new, Within, OneWord, ManyWords, MovedIsFresh, MovedToZero}
use Rattle.sums.proofs.Carries.{moved_fresh, moved_zero}
use Rattle.sums.proofs.Edits.{length_put, put_put, word_above, sum_put, sum_set}

pub one_word : OneWord
one_word k bs w h = record { long = length_put bs (2 * k) w; sum = sum_put k bs w h }

-- one edit after another
pub both_edits : {bs xs zs : List ℕ} {g n g' n' : ℕ} → Edit bs xs g n → Edit xs zs g' n' → Edit bs zs (g + g') (n + n')
both_edits d e = record { long = e.long ∙ d.long; sum = omega (arith, d.sum, e.sum) }

pub many_words : ManyWords
unfolding changed gone new Within
many_words [] bs h = record { long = refl; sum = refl }
many_words (c ∷ cs) bs h =
    let first : Edit bs (put_word bs (2 * c.place) c.word) (word_at bs (2 * c.place)) c.word = one_word c.place bs c.word h.0 in
    let rest : Within (length (put_word bs (2 * c.place) c.word)) cs = rw first.long h.1 in
    both_edits first (many_words cs (put_word bs (2 * c.place) c.word) rest)

-- the sum's own word left out of the list before and after
pub left_out : (k : ℕ) (bs : List ℕ) → 2 * k + 1 < length bs → word_sum (put_word bs (2 * k) 0) + word_at bs (2 * k) ≡ word_sum bs
left_out k bs h = omega (arith, sum_put k bs 0 h)

pub moved_is_fresh : MovedIsFresh
moved_is_fresh k bs xs g n before after h e same r pos =
    let long : 2 * k + 1 < length xs = rw e.long h in
    let whole : before + word_sum bs ≡ rest_sum before bs (2 * k) + word_at bs (2 * k) = omega (arith, left_out k bs h) in
    moved_fresh (rest_sum before bs (2 * k)) (rest_sum after xs (2 * k)) (word_at bs (2 * k)) (before + g) (after + n)
    (rw (← whole) r) (omega (arith, left_out k bs h, left_out k xs long, e.sum)) pos

pub moved_to_zero : MovedToZero
moved_to_zero k bs xs g n before after h e same r none =
    let long : 2 * k + 1 < length xs = rw e.long h in
    let whole : before + word_sum bs ≡ rest_sum before bs (2 * k) + word_at bs (2 * k) = omega (arith, left_out k bs h) in
    moved_zero (rest_sum before bs (2 * k)) (word_at bs (2 * k)) (before + g) (after + n)
    (rw (← whole) r) (omega (arith, left_out k bs h, left_out k xs long, e.sum))

-- a number of 32 bits is two words
pub one_long : (k : ℕ) (bs : List ℕ) (n : ℕ) → 2 * k + 3 < length bs →
    Edit bs (put_long bs (2 * k) n) (word_at bs (2 * k) + word_at bs (2 * k + 2)) (n / 65536 + n % 65536)
one_long k bs n h =
    let first : List ℕ = put_word bs (2 * k) (n / 65536) in
    let next : 2 * (k + 1) ≡ 2 * k + 2 = omega arith in
    let long : 2 * (k + 1) + 1 < length first = omega (arith, length_put bs (2 * k) (n / 65536)) in
    let same : word_at first (2 * k + 2) ≡ word_at bs (2 * k + 2) = word_above bs (2 * k) (n / 65536) (2 * k + 2) (omega arith) in
    let P : ℕ → Type 0 = λ i. Edit first (put_word first i (n % 65536)) (word_at first i) (n % 65536) in
    let second : P (2 * k + 2) = subst P next (one_word (k + 1) first (n % 65536) long) in
    let whole : Edit bs (put_long bs (2 * k) n) (word_at bs (2 * k) + word_at first (2 * k + 2)) (n / 65536 + n % 65536) =
    both_edits (one_word k bs (n / 65536) (omega arith)) second in
    record { long = whole.long; sum = omega (arith, whole.sum) }

-- a word's high byte alone
pub one_high : (k : ℕ) (bs : List ℕ) (b : ℕ) → 2 * k < length bs → Edit bs (set bs (2 * k) b) (byte_at bs (2 * k) * 256) (b * 256)
one_high k bs b h = record { long = length-set bs (2 * k) b; sum = sum_set k bs b h }

-- a fresh sum in its place: it is that of the list that it stands in, and the list's sum is right
pub fresh_there : (extra i : ℕ) (bs : List ℕ) (w : ℕ) → rest_sum extra (put_word bs i w) i ≡ rest_sum extra bs i
fresh_there extra i bs w = ap (λ xs. extra + word_sum xs) (put_put bs i w 0)

pub right_there : (extra k : ℕ) (bs : List ℕ) (w : ℕ) → 2 * k + 1 < length bs → right (rest_sum extra bs (2 * k) + w) ≡ true →
    right (extra + word_sum (put_word bs (2 * k) w)) ≡ true
right_there extra k bs w h r =
    let e : rest_sum extra bs (2 * k) + w ≡ extra + word_sum (put_word bs (2 * k) w) =
    omega (arith, sum_put k bs w h, left_out k bs h) in
    rw e at r
