-- `promise::arrivals_are_answers` meets its contract.
use Rattle.mappings.proofs.Answers.{answered, errors_answered}
use Rattle.mappings.proofs.promise.arrivals_are_answers.Goals as goal

pub returns : goal.returns
returns c = record { answered = answered; errors = errors_answered }
