-- What is read of the packet that an error quotes: it stands behind the error's own header and the 8 bytes that begin an ICMP message.
use Rattle.std.specs.Prelude.{ℕ, ◌%◌, cond, ◌&&◌, ◌||◌, List, length, drop, Ok, Err, Result, ◌==◌, nat_le}
use Rattle.blocks.specs.declared.refusal.Refusal.{Refusal}
use Rattle.blocks.specs.declared.refusal.Refusal.TheVariants.{UnknownProtocol}
use Rattle.sums.specs.Words.{word_at}
use Rattle.mappings.specs.declared.event.Protocol.{Protocol}
use Rattle.mappings.specs.declared.event.Protocol.TheVariants.{Udp, Tcp, Echo}
use Rattle.packets.specs.declared.facts.End.TheVariants.{Source, Destination}
use Rattle.packets.specs.Fields.{header_of, body_of, version_and_length, protocol_number, icmp_kind}
use Rattle.packets.specs.Reading.{endpoint_of}
use Rattle.errors.specs.declared.notice.Quote.{Quote}

abbrev pub quote_in : List ℕ → List ℕ
quote_in bs = drop 28 bs

-- the place of a fragment in the whole: the low 13 bits. A first fragment may be quoted, since it has the ports.
abbrev pub fragment_offset : List ℕ → ℕ
fragment_offset h = word_at h 6 % 8192

-- by the protocol's number and, for ICMP, the kind of the message: of these only echoes, requests and replies, are quoted
abbrev pub protocol_of : ℕ → ℕ → Result Protocol Refusal
protocol_of number kind =
    cond (number == 17) (Ok Udp)
    (cond (number == 6) (Ok Tcp)
    (cond (number == 1 && (kind == 8 || kind == 0)) (Ok Echo)
    (Err UnknownProtocol)))

abbrev pub quote_of : Protocol → List ℕ → List ℕ → Quote
quote_of p h b = record { protocol = p; source = endpoint_of p Source h b; destination = endpoint_of p Destination h b }

abbrev pub quote_or : Result Protocol Refusal → List ℕ → List ℕ → Result Quote Refusal
quote_or (Ok p) h b = Ok (quote_of p h b)
quote_or (Err r) h b = Err r

-- a quoted header of 20 bytes and version 4, and what is quoted of the body
unfoldable pub quote_as : List ℕ → List ℕ → Result Quote Refusal
quote_as h b =
    cond (version_and_length h == 0x45 && fragment_offset h == 0) (quote_or (protocol_of (protocol_number h) (icmp_kind b)) h b) (Err UnknownProtocol)

unfoldable pub quoted_in : List ℕ → Result Quote Refusal
quoted_in q = cond (nat_le 28 (length q)) (quote_as (header_of q) (body_of q)) (Err UnknownProtocol)
