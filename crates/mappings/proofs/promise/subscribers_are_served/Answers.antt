-- `promise::subscribers_are_served` meets its contract.
use Rattle.mappings.proofs.Service.{served, given_in_need, let_in}
use Rattle.mappings.proofs.Memory.{noted_now, remembered, moves_back}
use Rattle.mappings.proofs.promise.subscribers_are_served.Goals as goal

pub returns : goal.returns
returns c = record { out = served; need = given_in_need; answers = let_in; noted = noted_now; remembered = remembered; lasting = moves_back }
