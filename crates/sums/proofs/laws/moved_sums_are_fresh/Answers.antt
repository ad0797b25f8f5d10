-- The theorems stand in files of their own.
use Rattle.sums.proofs.Carries.{moved_off, fresh_right, one_is_right}
use Rattle.sums.proofs.Moves.{moved_is_fresh, moved_to_zero}
use Rattle.sums.proofs.laws.moved_sums_are_fresh.Goals as goal

pub returns : goal.returns
returns c = record { fresh = moved_is_fresh; zero = moved_to_zero; off = moved_off; right = fresh_right; alone = one_is_right }
