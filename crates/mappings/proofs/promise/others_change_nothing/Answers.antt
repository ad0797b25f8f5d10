-- `promise::others_change_nothing` meets its contract.
use Rattle.mappings.proofs.Alone.{alone}
use Rattle.mappings.proofs.promise.others_change_nothing.Goals as goal

pub returns : goal.returns
returns c = alone
