-- A number put into a list of bytes is, byte by byte, the number that it was read from.
use Rattle.std.proofs.Common.{◌≡◌, ℕ, ◌+◌, ◌/◌, ◌%◌, ◌<◌, ◌≤◌, List, length, set, ap, ◌∙◌, inl, inr, arith, length-take}
use Rattle.std.proofs.lemmas.List.{get_or-drop, get_or_past, get_or-set_other, get_or-set_same, get_or-take, length-set}
use Rattle.std.proofs.lemmas.Bool.{cases_lt}
use Rattle.sums.specs.Words.{byte_at, word_at, long_at, put_word, put_long}
use Rattle.sums.proofs.Edits.{byte_other, length_put}
use Rattle.packets.specs.Fields.{header_of, body_of, halves}
use Rattle.errors.specs.Laws.{Bytes}

pub header_bytes : (bs : List ℕ) → Bytes bs → Bytes (header_of bs)
header_bytes bs small j = elim (cases_lt j 20) [
  | inl low ↦ omega (arith, get_or-take 20 bs j 0 low, small j)
  | inr high ↦ omega (arith, get_or_past (header_of bs) j 0 (omega (arith, length-take 20 bs)))
]

pub body_bytes : (bs : List ℕ) → Bytes bs → Bytes (body_of bs)
body_bytes bs small j = omega (arith, get_or-drop 20 bs j 0, small (20 + j))

-- the two bytes of a word that was put
pub high_put : (bs : List ℕ) (i w : ℕ) → i + 1 < length bs → byte_at (put_word bs i w) i ≡ w / 256
high_put bs i w h = get_or-set_other (set bs i (w / 256)) (i + 1) i (w % 256) 0 (omega arith) ∙ get_or-set_same bs i (w / 256) 0 (omega arith)

pub low_put : (bs : List ℕ) (i w : ℕ) → i + 1 < length bs → byte_at (put_word bs i w) (i + 1) ≡ w % 256
low_put bs i w h = get_or-set_same (set bs i (w / 256)) (i + 1) (w % 256) 0 (omega (arith, length-set bs i (w / 256)))

-- a word of h put into g
pub word_put : (g h : List ℕ) (i j : ℕ) → Bytes h → i + 1 < length g → i ≤ j → j < i + 2 → byte_at (put_word g i (word_at h i)) j ≡ byte_at h j
word_put g h i j small within from to = grind (arith, high_put, low_put, small (i + 1))

-- the two words of a number of 32 bits
pub long_high : (h : List ℕ) (i : ℕ) → Bytes h → long_at h i / 65536 ≡ word_at h i
long_high h i small =
    let low : word_at h (i + 2) < 65536 = omega (arith, small (i + 2), small (i + 2 + 1)) in
    omega arith

pub long_low : (h : List ℕ) (i : ℕ) → Bytes h → long_at h i % 65536 ≡ word_at h (i + 2)
long_low h i small =
    let low : word_at h (i + 2) < 65536 = omega (arith, small (i + 2), small (i + 2 + 1)) in
    omega arith

pub halves_there : (h : List ℕ) (i : ℕ) → Bytes h → halves (long_at h i) ≡ word_at h i + word_at h (i + 2)
halves_there h i small = omega (arith, long_high h i small, long_low h i small)

-- a number of 32 bits of h put into g
pub long_put : (g h : List ℕ) (i j : ℕ) → Bytes h → i + 3 < length g → i ≤ j → j < i + 4 → byte_at (put_long g i (long_at h i)) j ≡ byte_at h j
long_put g h i j small within from to =
    let f : List ℕ = put_word g i (word_at h i) in
    ap (λ w. byte_at (put_word (put_word g i w) (i + 2) (long_at h i % 65536)) j) (long_high h i small)
    ∙ (ap (λ w. byte_at (put_word f (i + 2) w) j) (long_low h i small)
    ∙ elim (cases_lt j (i + 2)) [
      | inl low ↦ byte_other f (i + 2) (word_at h (i + 2)) j (omega arith) (omega arith) ∙ word_put g h i j small (omega arith) from low
      | inr high ↦ word_put f h (i + 2) j small (omega (arith, length_put g i (word_at h i))) high (omega arith)
    ])
