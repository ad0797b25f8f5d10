-- Numbers in a list of bytes, high byte first: reading one, and putting one in its place.
use Rattle.std.specs.Prelude.{ℕ, ◌+◌, ◌*◌, ◌/◌, ◌%◌, List, [], ◌∷◌, slice_index, slice_set}

abbrev pub byte_at : List ℕ → ℕ → ℕ
byte_at bs i = slice_index bs i

-- a number of 16 bits
abbrev pub word_at : List ℕ → ℕ → ℕ
word_at bs i = byte_at bs i * 256 + byte_at bs (i + 1)

-- a number of 32 bits
abbrev pub long_at : List ℕ → ℕ → ℕ
long_at bs i = word_at bs i * 65536 + word_at bs (i + 2)

abbrev pub put_word : List ℕ → ℕ → ℕ → List ℕ
put_word bs i w = slice_set (slice_set bs i (w / 256)) (i + 1) (w % 256)

abbrev pub put_long : List ℕ → ℕ → ℕ → List ℕ
put_long bs i n = put_word (put_word bs i (n / 65536)) (i + 2) (n % 65536)

-- the plain sum of the 16-bit words; an odd byte at the end counts as a word's high byte
unfoldable pub word_sum : List ℕ → ℕ
word_sum [] = 0
word_sum (a ∷ []) = a * 256
word_sum (a ∷ (b ∷ bs)) = a * 256 + b + word_sum bs
