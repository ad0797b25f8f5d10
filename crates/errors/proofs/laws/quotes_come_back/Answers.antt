-- The theorem stands in a file of its own.
use Rattle.errors.proofs.Back.{there_and_back}
use Rattle.errors.proofs.laws.quotes_come_back.Goals as goal

pub returns : goal.returns
returns c = there_and_back
