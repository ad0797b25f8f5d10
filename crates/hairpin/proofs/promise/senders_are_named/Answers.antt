-- The theorem stands in a file of its own.
use Rattle.hairpin.proofs.Senders.{traced}
use Rattle.hairpin.proofs.promise.senders_are_named.Goals as goal

pub returns : goal.returns
returns c = traced
