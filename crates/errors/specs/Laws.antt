-- What is promised of messages. Each is a type; a proof of the type is the theorem.
use Rattle.std.specs.Prelude.{◌≡◌, ℕ, ◌+◌, ◌%◌, ◌<◌, ◌≤◌, Bool, true, false, ◌&&◌, ◌||◌, List, length, take, Ok, ◌==◌, nat_le}
use Rattle.sums.specs.Words.{byte_at, word_at, put_word, word_sum}
use Rattle.sums.specs.Sums.{fresh, rest_sum, right}
use Rattle.mappings.specs.declared.event.Protocol.{Protocol}
use Rattle.packets.specs.declared.facts.End.{End}
use Rattle.packets.specs.declared.facts.End.TheVariants.{Source, Destination}
use Rattle.packets.specs.declared.facts.Endpoint.{Endpoint}
use Rattle.packets.specs.declared.facts.Facts.{Facts}
use Rattle.packets.specs.Fields.{header_of, body_of, header_sum_at, ttl_at, address_at, opposite, port_at, sum_at}
use Rattle.packets.specs.Reading.{admitted_in, destination_in, heading_in, read_of, source_in}
use Rattle.packets.specs.Writing.{besides, has_no_sum, sent, respelled}
use Rattle.packets.specs.Laws.{FreshSums, is_touched, within}
use Rattle.errors.specs.declared.notice.Quote.{Quote}
use Rattle.errors.specs.declared.notice.Notice.{Notice}
use Rattle.packets.specs.declared.facts.Reading.TheVariants.{Packet, Error}
use Rattle.errors.specs.Quotes.{quote_in}
use Rattle.errors.specs.Messages.{Message, admitted_message, heading_of, message_destination, message_in, message_source, message_ttl}
use Rattle.errors.specs.Requoting.{has_sum, left, message_sum_at}
use Rattle.errors.specs.Relocating.{relocated_heading, relocated_message}

-- 1. What leaves can be read again, with the new facts.
abbrev pub ReadAgain : Type 0
ReadAgain = (bs : List ℕ) (m : Message) (hops : ℕ) (e : End) (n : Endpoint) → message_in bs ≡ Ok m → message_in (left hops m e n bs) ≡ Ok (relocated_message hops e n m)

-- 2. Every sum of the message itself is what working it out afresh gives.
pub record FreshError (out : List ℕ) : Type 0 where
  pub header : word_at (header_of out) header_sum_at ≡ fresh (rest_sum 0 (header_of out) header_sum_at)
  pub body : word_at (body_of out) message_sum_at ≡ fresh (rest_sum 0 (body_of out) message_sum_at)

abbrev pub Fresh : Message → List ℕ → List ℕ → Type 0
Fresh (Packet f) bs out = FreshSums f.protocol bs out
Fresh (Error x) bs out = FreshError out

abbrev pub OwnSumsAreFresh : Type 0
OwnSumsAreFresh = (bs : List ℕ) (m : Message) (hops : ℕ) (e : End) (n : Endpoint) → message_in bs ≡ Ok m → Fresh m bs (left hops m e n bs)

-- 3. No byte besides those named is touched, and none is added or lost. Of an error these are its time to live, its two sums and
-- its address, and in the quote the header's sum, the opposite end's address and port, and the body's sum, if the whole of it is quoted.
-- n is how many bytes the error has.
abbrev pub is_quote_touched : Protocol → End → ℕ → ℕ → Bool
is_quote_touched p e n j =
    within (28 + header_sum_at) 2 j || within (28 + address_at e) 4 j || within (48 + port_at p e) 2 j || (nat_le (50 + sum_at p) n && within (48 + sum_at p) 2 j)

abbrev pub is_touched_in : Message → End → ℕ → ℕ → Bool
is_touched_in (Packet f) e n j = is_touched f.protocol e j
is_touched_in (Error x) e n j =
    (j == ttl_at) || within header_sum_at 2 j || within (address_at e) 4 j || within (20 + message_sum_at) 2 j || is_quote_touched x.quote.protocol (opposite e) n j

pub record Untouched (m : Message) (e : End) (bs out : List ℕ) : Type 0 where
  pub long : length out ≡ length bs
  pub bytes : (j : ℕ) → is_touched_in m e (length bs) j ≡ false → byte_at out j ≡ byte_at bs j

abbrev pub OthersStay : Type 0
OthersStay = (bs : List ℕ) (m : Message) (hops : ℕ) (e : End) (n : Endpoint) → message_in bs ≡ Ok m → Untouched m e bs (left hops m e n bs)

-- 4. A quoted sum, right or wrong, is off by as much as it was, and right if it was right.
pub record AsRight (before after : ℕ) : Type 0 where
  pub off : after % 65535 ≡ before % 65535
  pub still : right before ≡ true → right after ≡ true

-- The quote may be cut: count is how many bytes the whole body has, and rest is what the words add up to that are not quoted.
pub record QuotedSums (p : Protocol) (q out : List ℕ) : Type 0 where
  pub header : AsRight (word_sum (header_of q)) (word_sum (header_of out))
  pub body : (count rest : ℕ) → has_sum p (body_of q) ≡ true →
      AsRight (besides p (header_of q) count + word_sum (body_of q) + rest) (besides p (header_of out) count + word_sum (body_of out) + rest)
  pub none : has_no_sum p (body_of q) ≡ true → has_no_sum p (body_of out) ≡ true

-- a packet quotes nothing
abbrev pub QuoteAsRight : Message → List ℕ → List ℕ → Type 0
QuoteAsRight (Packet f) bs out = Unit {0}
QuoteAsRight (Error x) bs out = QuotedSums x.quote.protocol (quote_in bs) (quote_in out)

abbrev pub QuotedSumsStayRight : Type 0
QuotedSumsStayRight = (bs : List ℕ) (m : Message) (hops : ℕ) (e : End) (n : Endpoint) → message_in bs ≡ Ok m → QuoteAsRight m bs (left hops m e n bs)

-- 5. There and back. A packet leaves with one end replaced, and an error that quotes it, written by the same mapping, quotes what had come:
-- its addresses, its ports and all its other bytes, as far as they are quoted, but for what routers change on the way and the spelling of its sum.
abbrev pub changes_on_the_way : ℕ → Bool
changes_on_the_way j = j == ttl_at || within header_sum_at 2 j

pub record Quotes (q packet : List ℕ) : Type 0 where
  pub cut : length q ≤ length packet
  pub bytes : (j : ℕ) → j < length q → changes_on_the_way j ≡ false → byte_at q j ≡ byte_at packet j

abbrev pub Bytes : List ℕ → Type 0
Bytes bs = (j : ℕ) → byte_at bs j < 256

abbrev pub end_at : End → Facts → Endpoint
end_at Source f = f.source
end_at Destination f = f.destination

abbrev pub quote_of_facts : Facts → Quote
quote_of_facts f = record { protocol = f.protocol; source = f.source; destination = f.destination }

-- a sum that is quoted whole is the old one, spelled as the words besides it that are quoted ask for; of half a sum nothing is said
pub record QuotesAgain (p : Protocol) (q packet : List ℕ) : Type 0 where
  pub bytes : (j : ℕ) → j < length q → changes_on_the_way j ≡ false → within (20 + sum_at p) 2 j ≡ false → byte_at q j ≡ byte_at packet j
  pub sum : 22 + sum_at p ≤ length q → has_no_sum p (body_of packet) ≡ false →
      word_at (body_of q) (sum_at p) ≡ respelled p (word_at (body_of packet) (sum_at p) % 65535) (word_sum (put_word (body_of (take (length q) packet)) (sum_at p) 0))
  pub none : 22 + sum_at p ≤ length q → has_no_sum p (body_of packet) ≡ true → has_no_sum p (body_of q) ≡ true

-- the error as it leaves, back from one that came
pub record Returned (f : Facts) (x : Notice) (hops : ℕ) (e : End) (packet error back : List ℕ) : Type 0 where
  pub read : message_in back ≡ Ok (Error (record { heading = relocated_heading hops (opposite e) (end_at e f).address x.heading; quote = quote_of_facts f }))
  pub quotes : QuotesAgain f.protocol (quote_in back) packet
  pub header : AsRight (word_sum (header_of (quote_in error))) (word_sum (header_of (quote_in back)))

abbrev pub ThereAndBack : Type 0
ThereAndBack =
    (bs error : List ℕ) (f : Facts) (x : Notice) (hops hops_back : ℕ) (e : End) (n : Endpoint) → Bytes bs →
    read_of bs ≡ Ok (Packet f) → message_in error ≡ Ok (Error x) → Quotes (quote_in error) (sent hops f.protocol e n bs) →
    Returned f x hops_back e bs error (left hops_back (Error x) (opposite e) (end_at e f) error)

-- 6. What the methods of a reading say of a message: a packet's own addresses and time to live count, and of an error those of its own header.
abbrev pub MessagesAreHeaded : Type 0
MessagesAreHeaded =
    (m : Message) →
    (source_in heading_of m ≡ message_source m) × ((destination_in heading_of m ≡ message_destination m) ×
    (((heading_in heading_of m).ttl ≡ message_ttl m) × (admitted_in heading_of m ≡ admitted_message m)))
