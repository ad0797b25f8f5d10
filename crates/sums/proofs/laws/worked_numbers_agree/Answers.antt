-- Each is computed.
use Rattle.std.proofs.Common.{refl}
use Rattle.sums.specs.Words.{word_sum}
use Rattle.sums.specs.Sums.{ones}
use Rattle.sums.proofs.laws.worked_numbers_agree.Goals as goal

pub returns : goal.returns
unfolding word_sum ones
returns c = record { plain = refl; folded = refl; sent = refl; moved_to_zero = refl }
