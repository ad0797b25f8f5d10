-- A mapping: a subscriber's protocol and port behind an external port, how long it lives, and the addresses that it remembers.
use Rattle.std.specs.Prelude.{ℕ, ◌+◌, Bool, true, false, cond, ◌&&◌, ◌||◌, List, [], ◌∷◌, take, ◌==◌, nat_le}
use Rattle.blocks.specs.Config.{Config}
use Rattle.mappings.specs.declared.event.Protocol.{Protocol}
use Rattle.mappings.specs.declared.event.Protocol.TheVariants.{Udp, Tcp, Echo}
use Rattle.mappings.specs.declared.event.Outward.{Outward}

-- port: the internal one; last: the tick of its last packet outwards; remembered: the addresses that it sent to, the latest first
pub record Mapping : Type 0 where
  pub subscriber : ℕ
  pub protocol : Protocol
  pub port : ℕ
  pub last : ℕ
  pub remembered : List ℕ

-- at the tick t a mapping is live until its life has passed since its last packet outwards
abbrev pub live : Config → ℕ → Mapping → Bool
live c t m = nat_le t (m.last + c.life)

-- and after its life its port rests: until then nobody else can have it
abbrev pub live_or_resting : Config → ℕ → Mapping → Bool
live_or_resting c t m = nat_le t (m.last + c.life + c.rest)

abbrev pub same_protocol : Protocol → Protocol → Bool
same_protocol Udp Udp = true
same_protocol Udp Tcp = false
same_protocol Udp Echo = false
same_protocol Tcp Udp = false
same_protocol Tcp Tcp = true
same_protocol Tcp Echo = false
same_protocol Echo Udp = false
same_protocol Echo Tcp = false
same_protocol Echo Echo = true

-- the mapping is of the subscriber's protocol and port
abbrev pub is_of : Outward → Mapping → Bool
is_of o m = m.subscriber == o.subscriber && same_protocol m.protocol o.protocol && m.port == o.port

unfoldable pub is_in : ℕ → List ℕ → Bool
is_in a [] = false
is_in a (x ∷ xs) = x == a || is_in a xs

unfoldable pub without : ℕ → List ℕ → List ℕ
without a [] = []
without a (x ∷ xs) = cond (x == a) xs (x ∷ without a xs)

-- an address sent to comes first, and the last sixteen different ones are remembered
abbrev pub noted : ℕ → List ℕ → List ℕ
noted a xs = take 16 (a ∷ without a xs)

-- a new mapping for a packet outwards at the tick t
abbrev pub made : ℕ → Outward → Mapping
made t o = record { subscriber = o.subscriber; protocol = o.protocol; port = o.port; last = t; remembered = o.to ∷ [] }

-- a mapping after one more packet outwards at the tick t, to the address a
abbrev pub noting : ℕ → ℕ → Mapping → Mapping
noting t a m = record { subscriber = m.subscriber; protocol = m.protocol; port = m.port; last = t; remembered = noted a m.remembered }
