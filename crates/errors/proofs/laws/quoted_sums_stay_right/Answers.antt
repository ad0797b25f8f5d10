-- The theorem stands in a file of its own.
use Rattle.errors.proofs.QuotedSums.{quoted_sums_stay_right}
use Rattle.errors.proofs.laws.quoted_sums_stay_right.Goals as goal

pub returns : goal.returns
returns c = quoted_sums_stay_right
