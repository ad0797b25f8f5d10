-- The law stands in its own file.
use Rattle.records.proofs.Fronts.{read_to_the_end}
use Rattle.records.proofs.laws.read_to_the_end.Goals as goal

pub returns : goal.returns
returns c = read_to_the_end
