-- `promise::examples_work` meets its contract.
use Rattle.mappings.proofs.Worked.{worked}
use Rattle.mappings.proofs.promise.examples_work.Goals as goal

pub returns : goal.returns
returns c = worked
