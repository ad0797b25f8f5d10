-- The law stands in its own file.
use Rattle.blocks.proofs.Arithmetic.{one_subscriber}
use Rattle.blocks.proofs.laws.one_subscriber.Goals as goal

pub returns : goal.returns
returns c = one_subscriber
