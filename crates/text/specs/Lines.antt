-- Lines of a text: each ends with a line feed, and the last may do without.
use Rattle.std.specs.Prelude.{◌≡◌, ℕ, ◌+◌, ◌<◌, cond, List, length, take, drop, true, is_some, IfSome, Some, None, Option, ◌==◌, nat_lt}
use Rattle.std.specs.Borrow.{Bor}
use Rattle.std.specs.List.{position_or_len}
use Rattle.std.specs.Option.{option_map}

-- how many bytes stand before the first line feed
abbrev pub line_length : List ℕ → ℕ
line_length bs = position_or_len (λ b. b == 10) bs

abbrev pub first_line : List ℕ → Option (List ℕ)
first_line bs = cond (length bs == 0) None (Some (take (line_length bs) bs))

-- how many bytes the first line takes, with its line feed
abbrev pub line_taken : List ℕ → ℕ
line_taken bs = cond (nat_lt (line_length bs) (length bs)) (line_length bs + 1) (length bs)

-- what a step over lines gives from a place in a text on: the line there, with that place, and the place behind it
pub record StepsLine (text : List ℕ) (at : ℕ) (given : Option (ℕ × Bor (List ℕ))) (after : ℕ) : Type 0 where
  pub line : option_map (λ x. x.1.now) given ≡ first_line (drop at text)
  pub begins : IfSome given (λ x. x.0 ≡ at)
  pub stands : after ≡ at + line_taken (drop at text)
  pub advances : is_some given ≡ true → at < after
