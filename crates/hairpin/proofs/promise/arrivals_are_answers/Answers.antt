-- The theorem stands in a file of its own.
use Rattle.hairpin.proofs.Arrivals.{answered}
use Rattle.hairpin.proofs.promise.arrivals_are_answers.Goals as goal

pub returns : goal.returns
returns c = answered
