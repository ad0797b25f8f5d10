-- The theorems stand in files of their own.
use Rattle.hairpin.proofs.Transcripts.{run_of_events}
use Rattle.hairpin.proofs.Senders.{traced, untouched}
use Rattle.hairpin.proofs.Arrivals.{answered}
use Rattle.hairpin.proofs.Turns.{turned_once}
use Rattle.hairpin.proofs.promise.promise_holds.Goals as goal

pub returns : goal.returns
returns c = record { run_of_events = run_of_events; traced = traced; answered = answered; untouched = untouched; turned_once = turned_once }
