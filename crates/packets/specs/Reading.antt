-- What is read from a packet's bytes, or why they are refused. The tests come in the order of the refusals' numbers.
use Rattle.std.specs.Prelude.{ℕ, ◌+◌, ◌*◌, Bool, true, cond, ◌&&◌, ◌||◌, List, length, Ok, Err, Result, ◌==◌, nat_le}
use Rattle.blocks.specs.declared.refusal.Refusal.{Refusal}
use Rattle.blocks.specs.declared.refusal.Refusal.TheVariants.{BadHeader, WrongSum, UnknownProtocol, Expired}
use Rattle.sums.specs.Words.{word_at, long_at, word_sum}
use Rattle.sums.specs.Sums.{right}
use Rattle.packets.specs.declared.facts.Payload.{Payload}
use Rattle.packets.specs.declared.facts.Payload.TheVariants.{Datagram, Segment, Message, Other}
use Rattle.mappings.specs.declared.event.Protocol.{Protocol}
use Rattle.mappings.specs.declared.event.Protocol.TheVariants.{Udp, Tcp, Echo}
use Rattle.packets.specs.declared.facts.End.{End}
use Rattle.packets.specs.declared.facts.End.TheVariants.{Source, Destination}
use Rattle.packets.specs.declared.facts.Endpoint.{Endpoint}
use Rattle.packets.specs.declared.facts.Facts.{Facts}
use Rattle.packets.specs.declared.facts.Heading.{Heading}
use Rattle.packets.specs.declared.facts.Reading.{Reading}
use Rattle.packets.specs.declared.facts.Reading.TheVariants.{Packet, Error}
use Rattle.packets.specs.Fields.{header_of, body_of, version_and_length, total_length, fragment_bits, time_to_live, protocol_number, address_at, payload_of, port_at, udp_length, udp_sum, tcp_data_offset, icmp_kind, icmp_code, pseudo_sum}

-- version 4, a header of 20 bytes, a total length that is what is there, and no fragment
unfoldable pub plain_header : List ℕ → List ℕ → Bool
plain_header h b = version_and_length h == 0x45 && total_length h == 20 + length b && fragment_bits h == 0

-- the lengths inside the body are what is there
abbrev pub body_fits : Payload → List ℕ → Bool
body_fits Datagram b = nat_le 8 (length b) && udp_length b == length b
body_fits Segment b = nat_le 20 (length b) && nat_le 5 (tcp_data_offset b) && nat_le (4 * tcp_data_offset b) (length b)
body_fits Message b = nat_le 8 (length b)
body_fits Other b = true

-- the sum inside the body; a UDP sum of 0 says that there is none
abbrev pub body_right : Payload → List ℕ → List ℕ → Bool
body_right Datagram h b = udp_sum b == 0 || right (pseudo_sum h (length b) + word_sum b)
body_right Segment h b = right (pseudo_sum h (length b) + word_sum b)
body_right Message h b = right (word_sum b)
body_right Other h b = true

abbrev pub endpoint_of : Protocol → End → List ℕ → List ℕ → Endpoint
endpoint_of p e h b = record { address = long_at h (address_at e); port = word_at b (port_at p e) }

abbrev pub facts_of : Protocol → List ℕ → List ℕ → Facts
facts_of p h b = record { protocol = p; source = endpoint_of p Source h b; destination = endpoint_of p Destination h b; ttl = time_to_live h }

abbrev pub heading_of : List ℕ → Heading
heading_of h = record { source = long_at h (address_at Source); destination = long_at h (address_at Destination); ttl = time_to_live h }

-- a request or a reply
abbrev pub is_echo : List ℕ → Bool
is_echo b = (icmp_kind b == 8 || icmp_kind b == 0) && icmp_code b == 0

-- unreachable, source quench, time exceeded, parameter problem
abbrev pub is_error : List ℕ → Bool
is_error b = icmp_kind b == 3 || icmp_kind b == 4 || icmp_kind b == 11 || icmp_kind b == 12

abbrev pub message_of : List ℕ → List ℕ → Result (Reading Heading) Refusal
message_of h b = cond (is_echo b) (Ok (Packet (facts_of Echo h b))) (cond (is_error b) (Ok (Error (heading_of h))) (Err UnknownProtocol))

abbrev pub named_of : Payload → List ℕ → List ℕ → Result (Reading Heading) Refusal
named_of Datagram h b = Ok (Packet (facts_of Udp h b))
named_of Segment h b = Ok (Packet (facts_of Tcp h b))
named_of Message h b = message_of h b
named_of Other h b = Err UnknownProtocol

unfoldable pub read_as : Payload → List ℕ → List ℕ → Result (Reading Heading) Refusal
read_as y h b =
    cond (plain_header h b && body_fits y b) (cond (right (word_sum h) && body_right y h b) (named_of y h b) (Err WrongSum)) (Err BadHeader)

unfoldable pub read_of : List ℕ → Result (Reading Heading) Refusal
read_of bs = cond (nat_le 20 (length bs)) (read_as (payload_of (protocol_number (header_of bs))) (header_of bs) (body_of bs)) (Err BadHeader)

-- what stands in the header of what was read; of an error, heading says it
abbrev pub heading_in : {E : Type 0} → (E → Heading) → Reading E → Heading
heading_in heading (Packet f) = record { source = f.source.address; destination = f.destination.address; ttl = f.ttl }
heading_in heading (Error x) = heading x

abbrev pub source_in : {E : Type 0} → (E → Heading) → Reading E → ℕ
source_in heading r = (heading_in heading r).source

abbrev pub destination_in : {E : Type 0} → (E → Heading) → Reading E → ℕ
destination_in heading r = (heading_in heading r).destination

-- what was read goes on, unless its time to live is used up
abbrev pub admitted_in : {E : Type 0} → (E → Heading) → Reading E → Result (Reading E) Refusal
admitted_in heading r = cond (nat_le (heading_in heading r).ttl 1) (Err Expired) (Ok r)

-- where of an error its heading was read, and nothing else
abbrev pub source_of : Reading Heading → ℕ
source_of r = source_in (λ h. h) r

abbrev pub destination_of : Reading Heading → ℕ
destination_of r = destination_in (λ h. h) r

abbrev pub ttl_of : Reading Heading → ℕ
ttl_of r = (heading_in (λ h. h) r).ttl

abbrev pub admitted_of : Reading Heading → Result (Reading Heading) Refusal
admitted_of r = admitted_in (λ h. h) r
