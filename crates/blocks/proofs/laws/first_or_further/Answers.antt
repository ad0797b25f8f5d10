-- The law stands in its own file.
use Rattle.blocks.proofs.Arithmetic.{first_or_further}
use Rattle.blocks.proofs.laws.first_or_further.Goals as goal

pub returns : goal.returns
returns c = first_or_further
