-- The error that leaves: its own address and the quoted end replaced. A quoted sum may be wrong, so it is moved by what changed;
-- the error's own sums are worked out afresh.
use Rattle.std.specs.Prelude.{ℕ, ◌+◌, Bool, cond, not, ◌&&◌, List, ◌++◌, length, take, drop, nat_le}
use Rattle.sums.specs.Words.{word_at, put_word, put_long, word_sum}
use Rattle.sums.specs.Sums.{fresh, moved, rest_sum}
use Rattle.mappings.specs.declared.event.Protocol.{Protocol}
use Rattle.mappings.specs.declared.event.Protocol.TheVariants.{Udp, Tcp, Echo}
use Rattle.packets.specs.declared.facts.End.{End}
use Rattle.packets.specs.declared.facts.Endpoint.{Endpoint}
use Rattle.packets.specs.Fields.{header_of, body_of, header_sum_at, address_at, address_sum, halves, opposite, port_at, sum_at}
use Rattle.packets.specs.Writing.{has_no_sum, respelled, sent, sent_header}
use Rattle.errors.specs.Messages.{Message}
use Rattle.packets.specs.declared.facts.Reading.TheVariants.{Packet, Error}

-- a quoted header
abbrev pub requoted_header : End → ℕ → List ℕ → List ℕ
requoted_header e address h =
    put_word (put_long h (address_at e) address) header_sum_at (moved (word_at h header_sum_at) (address_sum e h) (halves address))

-- what an address counts in the sum of a body: its words stand in the pseudo-header, but not for an echo
abbrev pub counted : Protocol → ℕ → ℕ
counted Udp n = n
counted Tcp n = n
counted Echo n = 0

-- whether a quoted body has a sum, and the whole of it is quoted
abbrev pub has_sum : Protocol → List ℕ → Bool
has_sum p b = nat_le (sum_at p + 2) (length b) && not (has_no_sum p b)

-- a quoted body; gone and new are what the address counted before and counts now
abbrev pub requoted_body : Protocol → End → ℕ → ℕ → ℕ → List ℕ → List ℕ
requoted_body p e gone new port b =
    let c = put_word b (port_at p e) port in
    let m = moved (word_at b (sum_at p)) (gone + word_at b (port_at p e)) (new + port) in
    cond (has_sum p b) (put_word c (sum_at p) (respelled p m (word_sum (put_word c (sum_at p) 0)))) c

-- a quote, one end of which is replaced
unfoldable pub requoted : Protocol → End → Endpoint → List ℕ → List ℕ
requoted p e n q =
    requoted_header e n.address (header_of q)
    ++ requoted_body p e (counted p (address_sum e (header_of q))) (counted p (halves n.address)) n.port (body_of q)

-- where the sum of an ICMP message stands in the body
abbrev pub message_sum_at : ℕ
message_sum_at = 2

-- the body of an error: 8 bytes, and the quote
unfoldable pub error_body : Protocol → End → Endpoint → List ℕ → List ℕ
error_body p e n b =
    let c = take 8 b ++ requoted p e n (drop 8 b) in
    put_word c message_sum_at (fresh (rest_sum 0 c message_sum_at))

-- What leaves of a message, one end being replaced. An error goes the way back of what it quotes, so there the opposite end is replaced.
unfoldable pub left : ℕ → Message → End → Endpoint → List ℕ → List ℕ
left hops (Packet f) e n bs = sent hops f.protocol e n bs
left hops (Error x) e n bs = sent_header hops e n.address (header_of bs) ++ error_body x.quote.protocol (opposite e) n (body_of bs)
