-- What is promised of sums. Each is a type; a proof of the type is the theorem.
use Rattle.std.specs.Prelude.{◌≡◌, ℕ, ◌+◌, ◌*◌, ◌%◌, ◌<◌, ◌≤◌, true, ◌⊎◌, List, [], ◌∷◌, length}
use Rattle.sums.specs.Words.{word_at, put_word, word_sum}
use Rattle.sums.specs.Sums.{fresh, right, moved, rest_sum}

-- a list of bytes became another of the same length: words that add up to gone left it, and words that add up to new came
pub record Edit (bs xs : List ℕ) (gone new : ℕ) : Type 0 where
  pub long : length xs ≡ length bs
  pub sum : word_sum xs + gone ≡ word_sum bs + new

-- a word to be put, by the number of words before it
pub record Change : Type 0 where
  pub place : ℕ
  pub word : ℕ

unfoldable pub changed : List Change → List ℕ → List ℕ
changed [] bs = bs
changed (c ∷ cs) bs = changed cs (put_word bs (2 * c.place) c.word)

unfoldable pub gone : List Change → List ℕ → ℕ
gone [] bs = 0
gone (c ∷ cs) bs = word_at bs (2 * c.place) + gone cs (put_word bs (2 * c.place) c.word)

unfoldable pub new : List Change → ℕ
new [] = 0
new (c ∷ cs) = c.word + new cs

-- every change lies in a list of n bytes
unfoldable pub Within : ℕ → List Change → Type 0
Within n [] = Unit {0}
Within n (c ∷ cs) = (2 * c.place + 1 < n) × Within n cs

-- 1. One changed word.
abbrev pub OneWord : Type 0
OneWord = (k : ℕ) (bs : List ℕ) (w : ℕ) → 2 * k + 1 < length bs → Edit bs (put_word bs (2 * k) w) (word_at bs (2 * k)) w

-- 2. A list of changed words.
abbrev pub ManyWords : Type 0
ManyWords = (cs : List Change) (bs : List ℕ) → Within (length bs) cs → Edit bs (changed cs bs) (gone cs bs) (new cs)

-- 3. A right sum, moved by what changed in the list and besides it, is what working it out afresh gives, unless the words after are all 0.
-- The sum stands at an even place, which the edit leaves alone.
abbrev pub MovedIsFresh : Type 0
MovedIsFresh =
    (k : ℕ) (bs xs : List ℕ) (g n before after : ℕ) → 2 * k + 1 < length bs → Edit bs xs g n → word_at xs (2 * k) ≡ word_at bs (2 * k) →
    right (before + word_sum bs) ≡ true → 0 < rest_sum after xs (2 * k) →
    moved (word_at bs (2 * k)) (before + g) (after + n) ≡ fresh (rest_sum after xs (2 * k))

-- 4. Where they are all 0, the moved sum is 0.
abbrev pub MovedToZero : Type 0
MovedToZero =
    (k : ℕ) (bs xs : List ℕ) (g n before after : ℕ) → 2 * k + 1 < length bs → Edit bs xs g n → word_at xs (2 * k) ≡ word_at bs (2 * k) →
    right (before + word_sum bs) ≡ true → rest_sum after xs (2 * k) ≡ 0 →
    moved (word_at bs (2 * k)) (before + g) (after + n) ≡ 0

-- 5. Right or wrong, a moved sum is off by as much as it was.
abbrev pub MovedIsOff : Type 0
MovedIsOff = (before after c g n : ℕ) → after + g ≡ before + n → (after + moved c g n) % 65535 ≡ (before + c) % 65535

-- 6. A fresh sum is right.
abbrev pub FreshIsRight : Type 0
FreshIsRight = (s : ℕ) → right (s + fresh s) ≡ true

-- 7. At most one sum is right for the other words, but for the two spellings of 0.
abbrev pub OneIsRight : Type 0
OneIsRight =
    (s c d : ℕ) → c ≤ 65535 → d ≤ 65535 → right (s + c) ≡ true → right (s + d) ≡ true →
    (c ≡ d) ⊎ (((c ≡ 0) × (d ≡ 65535)) ⊎ ((c ≡ 65535) × (d ≡ 0)))
