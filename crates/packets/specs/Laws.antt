-- What is promised of packets. Each is a type; a proof of the type is the theorem.
use Rattle.std.specs.Prelude.{◌≡◌, ℕ, ◌+◌, ◌-◌, Bool, true, false, ◌&&◌, ◌||◌, List, length, Ok, ◌==◌, nat_le, nat_lt}
use Rattle.sums.specs.Words.{byte_at, word_at}
use Rattle.sums.specs.Sums.{fresh, rest_sum}
use Rattle.mappings.specs.declared.event.Protocol.{Protocol}
use Rattle.mappings.specs.declared.event.Protocol.TheVariants.{Udp, Tcp, Echo}
use Rattle.packets.specs.declared.facts.End.{End}
use Rattle.packets.specs.declared.facts.End.TheVariants.{Source, Destination}
use Rattle.packets.specs.declared.facts.Endpoint.{Endpoint}
use Rattle.packets.specs.declared.facts.Facts.{Facts}
use Rattle.packets.specs.declared.facts.Reading.TheVariants.{Packet}
use Rattle.packets.specs.Fields.{header_of, body_of, header_sum_at, ttl_at, address_at, port_at, sum_at}
use Rattle.packets.specs.Reading.{read_of}
use Rattle.packets.specs.Writing.{besides, has_no_sum, sent, spelled}

-- the end that is not replaced keeps its address, and its port but for an echo, whose identifier is both ports
abbrev pub other_port : Protocol → ℕ → ℕ → ℕ
other_port Udp new old = old
other_port Tcp new old = old
other_port Echo new old = new

abbrev pub other_end : Protocol → Endpoint → Endpoint → Endpoint
other_end p new old = record { address = old.address; port = other_port p new.port old.port }

-- the facts of a packet after one end was replaced and some hops counted
abbrev pub relocated : ℕ → End → Endpoint → Facts → Facts
relocated hops Source n f = record { protocol = f.protocol; source = n; destination = other_end f.protocol n f.destination; ttl = f.ttl - hops }
relocated hops Destination n f = record { protocol = f.protocol; source = other_end f.protocol n f.source; destination = n; ttl = f.ttl - hops }

-- 1. What leaves can be read again, with the new facts.
abbrev pub ReadAgain : Type 0
ReadAgain = (bs : List ℕ) (f : Facts) (hops : ℕ) (e : End) (n : Endpoint) → read_of bs ≡ Ok (Packet f) → read_of (sent hops f.protocol e n bs) ≡ Ok (Packet (relocated hops e n f))

-- 2. Every sum of what leaves is what working it out afresh gives, and a UDP sum of 0 stays 0.
pub record FreshSums (p : Protocol) (bs out : List ℕ) : Type 0 where
  pub header : word_at (header_of out) header_sum_at ≡ fresh (rest_sum 0 (header_of out) header_sum_at)
  pub body : has_no_sum p (body_of bs) ≡ false →
      word_at (body_of out) (sum_at p) ≡ spelled p (fresh (rest_sum (besides p (header_of out) (length (body_of out))) (body_of out) (sum_at p)))
  pub none : has_no_sum p (body_of bs) ≡ true → word_at (body_of out) (sum_at p) ≡ 0

abbrev pub SumsAreFresh : Type 0
SumsAreFresh = (bs : List ℕ) (f : Facts) (hops : ℕ) (e : End) (n : Endpoint) → read_of bs ≡ Ok (Packet f) → FreshSums f.protocol bs (sent hops f.protocol e n bs)

-- 3. No byte besides the time to live, the address, the port and the two sums is touched, and none is added or lost.
abbrev pub within : ℕ → ℕ → ℕ → Bool
within i n j = nat_le i j && nat_lt j (i + n)

abbrev pub is_touched : Protocol → End → ℕ → Bool
is_touched p e j = j == ttl_at || within header_sum_at 2 j || within (address_at e) 4 j || within (20 + port_at p e) 2 j || within (20 + sum_at p) 2 j

pub record Untouched (p : Protocol) (e : End) (bs out : List ℕ) : Type 0 where
  pub long : length out ≡ length bs
  pub bytes : (j : ℕ) → is_touched p e j ≡ false → byte_at out j ≡ byte_at bs j

abbrev pub OthersStay : Type 0
OthersStay = (bs : List ℕ) (f : Facts) (hops : ℕ) (e : End) (n : Endpoint) → read_of bs ≡ Ok (Packet f) → Untouched f.protocol e bs (sent hops f.protocol e n bs)

-- 4. Out and back. A packet that goes out by a mapping and is answered, the answer written in by the same mapping, reaches
-- the address and port that the packet came from, from those that it went to.
pub record Answers (answer packet : Facts) : Type 0 where
  pub protocol : answer.protocol ≡ packet.protocol
  pub source : answer.source ≡ packet.destination
  pub destination : answer.destination ≡ packet.source

abbrev pub OutAndBack : Type 0
OutAndBack =
    (bs answer : List ℕ) (f g : Facts) (hops hops_back : ℕ) (external : Endpoint) → read_of bs ≡ Ok (Packet f) → read_of answer ≡ Ok (Packet g) → Answers g (relocated hops Source external f) →
    (back : Facts) × (read_of (sent hops_back g.protocol Destination f.source answer) ≡ Ok (Packet back)) × Answers back f
