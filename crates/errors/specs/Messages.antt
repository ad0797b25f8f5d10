-- What is read of a message, a packet or an error, or why it is refused.
use Rattle.std.specs.Prelude.{ℕ, cond, List, Ok, Err, Result, nat_le}
use Rattle.blocks.specs.declared.refusal.Refusal.{Refusal}
use Rattle.blocks.specs.declared.refusal.Refusal.TheVariants.{Expired}
use Rattle.packets.specs.declared.facts.Heading.{Heading}
use Rattle.packets.specs.declared.facts.Reading.{Reading}
use Rattle.packets.specs.declared.facts.Reading.TheVariants.{Packet, Error}
use Rattle.packets.specs.Reading.{read_of}
use Rattle.errors.specs.declared.notice.Quote.{Quote}
use Rattle.errors.specs.declared.notice.Notice.{Notice}
use Rattle.errors.specs.Quotes.{quote_in, quoted_in}

-- a packet, or an error and what it quotes
abbrev pub Message : Type 0
Message = Reading Notice

-- what was read of the packet itself comes first, and then what it quotes
abbrev pub with_quote : Result (Reading Heading) Refusal → Result Quote Refusal → Result Message Refusal
with_quote (Ok (Packet f)) q = Ok (Packet f)
with_quote (Ok (Error h)) (Ok q) = Ok (Error (record { heading = h; quote = q }))
with_quote (Ok (Error h)) (Err r) = Err r
with_quote (Err r) q = Err r

unfoldable pub message_in : List ℕ → Result Message Refusal
message_in bs = with_quote (read_of bs) (quoted_in (quote_in bs))

-- the heading of an error itself, and not that of its quote
abbrev pub heading_of : Notice → Heading
heading_of x = x.heading

abbrev pub message_source : Message → ℕ
message_source (Packet f) = f.source.address
message_source (Error x) = x.heading.source

abbrev pub message_destination : Message → ℕ
message_destination (Packet f) = f.destination.address
message_destination (Error x) = x.heading.destination

abbrev pub message_ttl : Message → ℕ
message_ttl (Packet f) = f.ttl
message_ttl (Error x) = x.heading.ttl

-- a message goes on, unless its time to live is used up
abbrev pub admitted_message : Message → Result Message Refusal
admitted_message m = cond (nat_le (message_ttl m) 1) (Err Expired) (Ok m)
