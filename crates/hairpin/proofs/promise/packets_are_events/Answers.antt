-- The theorems stand in files of their own.
use Rattle.hairpin.proofs.Transcripts.{run_of_events}
use Rattle.hairpin.proofs.Senders.{untouched}
use Rattle.hairpin.proofs.promise.packets_are_events.Goals as goal

pub returns : goal.returns
returns c = record { run = run_of_events; refused = untouched }
