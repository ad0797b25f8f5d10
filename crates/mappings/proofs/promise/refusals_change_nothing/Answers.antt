-- `promise::refusals_change_nothing` meets its contract.
use Rattle.mappings.proofs.Quiet.{refusals, inwards_quiet, over, limits}
use Rattle.mappings.proofs.promise.refusals_change_nothing.Goals as goal

pub returns : goal.returns
returns c = record { refused = refusals; inwards = inwards_quiet; ended = over; limits = limits }
