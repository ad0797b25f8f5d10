-- What a packet's bytes say to the state machine: the event that they make.
use Rattle.std.specs.Prelude.{ℕ, cond, List, Some, None, Ok, Err, Option, Result, ◌==◌}
use Rattle.blocks.specs.Config.{Config}
use Rattle.blocks.specs.Ports.{subscriber_at}
use Rattle.blocks.specs.declared.refusal.Refusal.{Refusal}
use Rattle.blocks.specs.declared.refusal.Refusal.TheVariants.{NoSubscriber, NoMapping, UnrelatedError}
use Rattle.mappings.specs.declared.event.Event.{Event}
use Rattle.mappings.specs.declared.event.Event.TheVariants.{Unreadable, Goes, Comes}
use Rattle.packets.specs.declared.facts.Facts.{Facts}
use Rattle.packets.specs.declared.facts.Heading.{Heading}
use Rattle.packets.specs.declared.facts.Reading.{Reading}
use Rattle.packets.specs.declared.facts.Reading.TheVariants.{Packet, Error}
use Rattle.packets.specs.Reading.{admitted_of, read_of, source_of}
use Rattle.records.specs.declared.record.Side.{Side}
use Rattle.records.specs.declared.record.Side.TheVariants.{Inside, Outside}

-- the subscriber n sends what was read; an error about a packet is not handled yet
abbrev pub outward : ℕ → Reading Heading → Event
outward n (Packet f) = Goes (record { subscriber = n; protocol = f.protocol; port = f.source.port; to = f.destination.address })
outward n (Error h) = Unreadable UnrelatedError

-- a packet comes to our external address, or it is not for us
abbrev pub to_address : ℕ → Facts → Event
to_address external f =
    cond (f.destination.address == external) (Comes (record { protocol = f.protocol; port = f.destination.port; from = f.source.address })) (Unreadable NoMapping)

abbrev pub inward : Config → Reading Heading → Event
inward c (Packet f) = to_address c.external f
inward c (Error h) = Unreadable UnrelatedError

-- what is refused makes an event too
abbrev pub refused_or : Result Event Refusal → Event
refused_or (Ok e) = e
refused_or (Err e) = Unreadable e

abbrev pub accepted : (Reading Heading → Event) → Result (Reading Heading) Refusal → Event
accepted go (Ok r) = go r
accepted go (Err e) = Unreadable e

abbrev pub from_subscriber : Option ℕ → Reading Heading → Event
from_subscriber None r = Unreadable NoSubscriber
from_subscriber (Some n) r = accepted (outward n) (admitted_of r)

abbrev pub arriving : Config → Side → Reading Heading → Event
arriving c Inside r = from_subscriber (subscriber_at c (source_of r)) r
arriving c Outside r = accepted (inward c) (admitted_of r)

abbrev pub event_of : Config → Side → List ℕ → Event
event_of c side bs = accepted (arriving c side) (read_of bs)

-- a packet that went out to our own external address comes in as any other, but its time to live has fallen already
abbrev pub return_of : Config → List ℕ → Event
return_of c bs = accepted (inward c) (read_of bs)
