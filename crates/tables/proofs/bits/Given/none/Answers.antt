-- No bit of 0 is set.
use Rattle.tables.proofs.Fresh.{none_given}
use Rattle.tables.proofs.bits.Given.none.Goals as goal

pub returns : goal.returns
returns c = none_given 63
