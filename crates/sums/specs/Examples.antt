-- The worked numbers of RFC 1071 (a sum of four words) and RFC 1624 (a sum moved by one word, to 0).
use Rattle.std.specs.Prelude.{◌≡◌, ℕ, List, [], ◌∷◌}
use Rattle.sums.specs.Words.{word_sum}
use Rattle.sums.specs.Sums.{ones, fresh, moved}

-- RFC 1071, section 3: 0001 f203 f4f5 f6f7
abbrev pub four_words : List ℕ
four_words = 0x00 ∷ (0x01 ∷ (0xf2 ∷ (0x03 ∷ (0xf4 ∷ (0xf5 ∷ (0xf6 ∷ (0xf7 ∷ [])))))))

pub record WorkedNumbers : Type 0 where
  pub plain : word_sum four_words ≡ 0x2ddf0
  pub folded : ones (word_sum four_words) ≡ 0xddf2
  pub sent : fresh (word_sum four_words) ≡ 0x220d
  -- RFC 1624, section 4: the sum dd2f, and 5555 becomes 3285
  pub moved_to_zero : moved 0xdd2f 0x5555 0x3285 ≡ 0x0000
