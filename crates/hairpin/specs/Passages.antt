-- The gateway on bytes: each packet that came, what became of it, and the packet that is left.
use Rattle.std.specs.Prelude.{ℕ, Bool, false, cond, List, [], ◌∷◌, ◌++◌, map, Ok, Err, Result, ◌==◌}
use Rattle.std.specs.Option.{unwrap_or}
use Rattle.blocks.specs.Config.{Config}
use Rattle.blocks.specs.Ports.{address_of}
use Rattle.blocks.specs.declared.refusal.Refusal.{Refusal}
use Rattle.mappings.specs.declared.event.Event.{Event}
use Rattle.mappings.specs.declared.event.Event.TheVariants as event
use Rattle.mappings.specs.declared.event.Verdict.{Verdict}
use Rattle.mappings.specs.declared.event.Verdict.TheVariants as verdict
use Rattle.mappings.specs.declared.line.Line.{Line}
use Rattle.mappings.specs.States.{State, fresh}
use Rattle.mappings.specs.Steps.{step}
use Rattle.mappings.specs.Runs.{Occurrence, occurrence, run, state_after}
use Rattle.packets.specs.declared.facts.End.TheVariants.{Source, Destination}
use Rattle.packets.specs.declared.facts.Facts.{Facts}
use Rattle.packets.specs.declared.facts.Heading.{Heading}
use Rattle.packets.specs.declared.facts.Reading.{Reading}
use Rattle.packets.specs.declared.facts.Reading.TheVariants as reading
use Rattle.packets.specs.Reading.{destination_of, read_of}
use Rattle.packets.specs.Writing.{sent}
use Rattle.records.specs.Records.{Item, Packet, Tick}
use Rattle.hairpin.specs.declared.outcome.Outcome.{Outcome}
use Rattle.hairpin.specs.declared.outcome.Outcome.TheVariants as outcome
use Rattle.hairpin.specs.Events.{event_of, return_of}

-- a packet to our own external address
abbrev pub is_to_us : Config → Result (Reading Heading) Refusal → Bool
is_to_us c (Ok r) = destination_of r == c.external
is_to_us c (Err e) = false

-- what is sent goes to the world, unless it is to us
abbrev pub outcome_of : Bool → Verdict → Outcome
outcome_of ours (verdict.Sent p) = cond ours outcome.Turned outcome.Out
outcome_of ours (verdict.Delivered n q) = outcome.In
outcome_of ours (verdict.Refused r) = outcome.Refused r
outcome_of ours verdict.Ticked = outcome.Ticked

-- a subscriber's address; nothing is delivered to a number past the last subscriber's
abbrev pub home_of : Config → ℕ → ℕ
home_of c n = unwrap_or (address_of c n) 0

-- the packet as it leaves, its time to live less by some hops; a refused one stays as it came
abbrev pub rewritten : Config → ℕ → Facts → Verdict → List ℕ → List ℕ
rewritten c hops f (verdict.Sent p) bs = sent hops f.protocol Source (record { address = c.external; port = p }) bs
rewritten c hops f (verdict.Delivered n q) bs = sent hops f.protocol Destination (record { address = home_of c n; port = q }) bs
rewritten c hops f (verdict.Refused r) bs = bs
rewritten c hops f verdict.Ticked bs = bs

abbrev pub left_by : Config → ℕ → Result (Reading Heading) Refusal → Verdict → List ℕ → List ℕ
left_by c hops (Ok (reading.Packet f)) v bs = rewritten c hops f v bs
left_by c hops (Ok (reading.Error h)) v bs = bs
left_by c hops (Err e) v bs = bs

-- one event on bytes; came: the packet as it came; left: as it is left; a tick has no bytes
pub record Passage : Type 0 where
  pub occurrence : Occurrence
  pub came : List ℕ
  pub left : List ℕ
  pub outcome : Outcome

abbrev pub passage : Config → State → ℕ → Event → List ℕ → Passage
passage c s hops e bs = record {
  occurrence = occurrence s e (step c e s).verdict;
  came = bs;
  left = left_by c hops (read_of bs) (step c e s).verdict bs;
  outcome = outcome_of (is_to_us c (read_of bs)) (step c e s).verdict;
}

-- a packet that is turned comes in as a second event
abbrev pub returning : Config → State → List ℕ → Outcome → List Passage
returning c s bs outcome.Out = []
returning c s bs outcome.In = []
returning c s bs outcome.Turned = passage c s 0 (return_of c bs) bs ∷ []
returning c s bs (outcome.Refused r) = []
returning c s bs outcome.Ticked = []

abbrev pub with_return : Config → State → Passage → List Passage
with_return c s x = x ∷ returning c s x.left x.outcome

abbrev pub passages_of : Config → State → Item → List Passage
passages_of c s (Packet side bs) = with_return c (step c (event_of c side bs) s).state (passage c s 1 (event_of c side bs) bs)
passages_of c s Tick = passage c s 0 event.Tick [] ∷ []

abbrev pub occurrence_in : Passage → Occurrence
occurrence_in x = x.occurrence

abbrev pub event_in : Passage → Event
event_in x = x.occurrence.event

unfoldable pub passages_from : Config → State → List Item → List Passage
passages_from c s [] = []
passages_from c s (i ∷ is) = passages_of c s i ++ passages_from c (state_after c s (map event_in (passages_of c s i))) is

-- of a gateway that has seen nothing yet
abbrev pub passages : Config → List Item → List Passage
passages c is = passages_from c (fresh c) is

abbrev pub events : Config → List Item → List Event
events c is = map event_in (passages c is)

abbrev pub book : Config → List Item → List Line
book c is = (run c (events c is)).book
