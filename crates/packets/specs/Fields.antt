-- The fields of a packet by name, over its header (the first 20 bytes) and its body (the rest).
use Rattle.std.specs.Prelude.{ℕ, ◌+◌, ◌/◌, ◌%◌, cond, List, take, drop, ◌==◌}
use Rattle.sums.specs.Words.{byte_at, word_at}
use Rattle.packets.specs.declared.facts.Payload.{Payload}
use Rattle.packets.specs.declared.facts.Payload.TheVariants.{Datagram, Segment, Message, Other}
use Rattle.mappings.specs.declared.event.Protocol.{Protocol}
use Rattle.mappings.specs.declared.event.Protocol.TheVariants.{Udp, Tcp, Echo}
use Rattle.packets.specs.declared.facts.End.{End}
use Rattle.packets.specs.declared.facts.End.TheVariants.{Source, Destination}

abbrev pub opposite : End → End
opposite Source = Destination
opposite Destination = Source

abbrev pub header_of : List ℕ → List ℕ
header_of bs = take 20 bs

abbrev pub body_of : List ℕ → List ℕ
body_of bs = drop 20 bs

-- of the header
abbrev pub version_and_length : List ℕ → ℕ
version_and_length h = byte_at h 0

abbrev pub total_length : List ℕ → ℕ
total_length h = word_at h 2

-- more fragments to come, or a place in the whole that is not its start: the low 14 bits
abbrev pub fragment_bits : List ℕ → ℕ
fragment_bits h = word_at h 6 % 16384

abbrev pub ttl_at : ℕ
ttl_at = 8

abbrev pub time_to_live : List ℕ → ℕ
time_to_live h = byte_at h ttl_at

abbrev pub protocol_number : List ℕ → ℕ
protocol_number h = byte_at h 9

abbrev pub header_sum_at : ℕ
header_sum_at = 10

abbrev pub address_at : End → ℕ
address_at Source = 12
address_at Destination = 16

-- the two words of an address, added: of one in a header, and of a new one
abbrev pub address_sum : End → List ℕ → ℕ
address_sum e h = word_at h (address_at e) + word_at h (address_at e + 2)

abbrev pub halves : ℕ → ℕ
halves address = address / 65536 + address % 65536

abbrev pub payload_of : ℕ → Payload
payload_of n = cond (n == 17) Datagram (cond (n == 6) Segment (cond (n == 1) Message Other))

-- of the body: an echo's identifier stands for both ports
abbrev pub port_at : Protocol → End → ℕ
port_at Udp Source = 0
port_at Udp Destination = 2
port_at Tcp Source = 0
port_at Tcp Destination = 2
port_at Echo Source = 4
port_at Echo Destination = 4

abbrev pub sum_at : Protocol → ℕ
sum_at Udp = 6
sum_at Tcp = 16
sum_at Echo = 2

abbrev pub udp_length : List ℕ → ℕ
udp_length b = word_at b 4

abbrev pub udp_sum : List ℕ → ℕ
udp_sum b = word_at b 6

-- in units of four bytes
abbrev pub tcp_data_offset : List ℕ → ℕ
tcp_data_offset b = byte_at b 12 / 16

abbrev pub icmp_kind : List ℕ → ℕ
icmp_kind b = byte_at b 0

abbrev pub icmp_code : List ℕ → ℕ
icmp_code b = byte_at b 1

-- how many bytes a body has at least
abbrev pub least_body : Payload → ℕ
least_body Datagram = 8
least_body Segment = 20
least_body Message = 8
least_body Other = 0

-- the plain sum of a pseudo-header: both addresses, the protocol's number, and how many bytes the body has
abbrev pub pseudo_sum : List ℕ → ℕ → ℕ
pseudo_sum h n = word_at h 12 + word_at h 14 + word_at h 16 + word_at h 18 + protocol_number h + n
