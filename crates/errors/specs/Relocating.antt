-- What is read of a message after one end was replaced and some hops counted.
use Rattle.std.specs.Prelude.{ℕ, ◌-◌}
use Rattle.packets.specs.declared.facts.End.{End}
use Rattle.packets.specs.declared.facts.End.TheVariants.{Source, Destination}
use Rattle.packets.specs.declared.facts.Endpoint.{Endpoint}
use Rattle.packets.specs.declared.facts.Heading.{Heading}
use Rattle.packets.specs.Fields.{opposite}
use Rattle.packets.specs.Laws.{other_end, relocated}
use Rattle.errors.specs.declared.notice.Quote.{Quote}
use Rattle.errors.specs.Messages.{Message}
use Rattle.packets.specs.declared.facts.Reading.TheVariants.{Packet, Error}

abbrev pub relocated_heading : ℕ → End → ℕ → Heading → Heading
relocated_heading hops Source address h = record { source = address; destination = h.destination; ttl = h.ttl - hops }
relocated_heading hops Destination address h = record { source = h.source; destination = address; ttl = h.ttl - hops }

abbrev pub relocated_quote : End → Endpoint → Quote → Quote
relocated_quote Source n q = record { protocol = q.protocol; source = n; destination = other_end q.protocol n q.destination }
relocated_quote Destination n q = record { protocol = q.protocol; source = other_end q.protocol n q.source; destination = n }

abbrev pub relocated_message : ℕ → End → Endpoint → Message → Message
relocated_message hops e n (Packet f) = Packet (relocated hops e n f)
relocated_message hops e n (Error x) =
    Error (record { heading = relocated_heading hops e n.address x.heading; quote = relocated_quote (opposite e) n x.quote })
