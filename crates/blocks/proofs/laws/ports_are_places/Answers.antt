-- The law stands in its own file.
use Rattle.blocks.proofs.Arithmetic.{ports_are_places}
use Rattle.blocks.proofs.laws.ports_are_places.Goals as goal

pub returns : goal.returns
returns c = ports_are_places
