-- Internet sums as arithmetic: ones' complement sums of 16-bit words, right sums, fresh sums, and a sum moved by what changed.
use Rattle.std.specs.Prelude.{ℕ, zero, suc, ◌+◌, ◌-◌, ◌%◌, Bool, cond, List, ◌==◌}
use Rattle.sums.specs.Words.{put_word, word_sum}

-- a plain sum of words brought into 16 bits by carrying around: 0 only for 0, and else from 1 to 65,535
unfoldable pub ones : ℕ → ℕ
ones zero = 0
ones (suc n) = 1 + n % 65535

-- the sum to be sent, where the other words add up to s
abbrev pub fresh : ℕ → ℕ
fresh s = 65535 - ones s

-- all words, the sum that was sent among them, add up to s
abbrev pub right : ℕ → Bool
right s = ones s == 65535

-- a sum c, where words that add up to gone have been replaced by words that add up to new
abbrev pub moved : ℕ → ℕ → ℕ → ℕ
moved c gone new = (c + gone + (65535 - new % 65535)) % 65535

-- where 0 means that there is no sum, a sum of 0 is sent as 65,535, which counts as much
abbrev pub nonzero : ℕ → ℕ
nonzero c = cond (c == 0) 65535 c

-- what the words of a list add up to, the one at i, where its sum stands, left out; extra is what counts besides the list
abbrev pub rest_sum : ℕ → List ℕ → ℕ → ℕ
rest_sum extra bs i = extra + word_sum (put_word bs i 0)
