-- `promise::senders_are_named` meets its contract.
use Rattle.mappings.proofs.Tracing.{traced, held, lasting}
use Rattle.mappings.proofs.TracingByTick.{traced_by_tick, held_by_tick}
use Rattle.mappings.proofs.promise.senders_are_named.Goals as goal

pub returns : goal.returns
returns c = record { traced = traced; held = held; lasting = lasting; tick = traced_by_tick; within = held_by_tick }
