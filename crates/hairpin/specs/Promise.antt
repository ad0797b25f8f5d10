-- What is promised of every run on bytes. Each promise is a type, and its proof is a term of it.
use Rattle.std.specs.Prelude.{◌≡◌, ℕ, ◌<◌, Bool, true, false, List, [], ◌∷◌, map, Some, Ok}
use mathlib.Core.List.{Memᴰ}
use Rattle.blocks.specs.Config.{Config, within_limits}
use Rattle.blocks.specs.Ports.{address_of, subscriber_at}
use Rattle.blocks.specs.declared.refusal.Refusal.{Refusal}
use Rattle.mappings.specs.declared.event.Event.TheVariants.{Comes}
use Rattle.mappings.specs.declared.event.Verdict.TheVariants.{Sent, Delivered}
use Rattle.mappings.specs.Books.{who}
use Rattle.mappings.specs.States.{State}
use Rattle.mappings.specs.Runs.{run}
use Rattle.packets.specs.declared.facts.End.TheVariants.{Source, Destination}
use Rattle.packets.specs.declared.facts.Facts.{Facts}
use Rattle.packets.specs.declared.facts.Reading.TheVariants as reading
use Rattle.packets.specs.Laws.{FreshSums, other_port, relocated}
use Rattle.packets.specs.Reading.{read_of}
use Rattle.records.specs.declared.record.Side.{Side}
use Rattle.records.specs.Records.{Item, Packet}
use Rattle.hairpin.specs.declared.outcome.Outcome.{Outcome}
use Rattle.hairpin.specs.declared.outcome.Outcome.TheVariants.{Out, In, Turned, Refused, Ticked}
use Rattle.hairpin.specs.Events.{event_of}
use Rattle.hairpin.specs.Passages.{Passage, passage, passages_of, occurrence_in, event_in, passages, events, book, home_of}

abbrev pub moment : Passage → ℕ
moment x = x.occurrence.moment

-- 1. A run on bytes is a run of the events that its packets make.
abbrev pub RunOfEvents : Type 0
RunOfEvents = (c : Config) (is : List Item) → map occurrence_in (passages c is) ≡ (run c (events c is)).transcript

-- the packet went out: to the world, or to be turned
abbrev pub went_out : Outcome → Bool
went_out Out = true
went_out In = false
went_out Turned = true
went_out (Refused r) = false
went_out Ticked = false

-- it came from a subscriber's address, and left from our external address and this port; nothing else of it is new but for its sums, which are fresh
pub record SentOut (c : Config) (x : Passage) (subscriber port : ℕ) (packet : Facts) : Type 0 where
  pub came : read_of x.came ≡ Ok (reading.Packet packet)
  pub its : subscriber_at c packet.source.address ≡ Some subscriber
  pub left : read_of x.left ≡ Ok (reading.Packet (relocated 1 Source (record { address = c.external; port = port }) packet))
  pub sums : FreshSums packet.protocol x.came x.left

-- 2. From the book, the port in a packet's bytes and its moment follows the subscriber from whose address the packet came.
abbrev pub Traced : Type 0
Traced =
    (c : Config) → within_limits c ≡ true → (is : List Item) (x : Passage) → Memᴰ x (passages c is) → went_out x.outcome ≡ true →
    (n : ℕ) × (p : ℕ) × (f : Facts) × SentOut c x n p f × (who c (book c is) p (moment x) ≡ Some n)

-- it came to our external address, and left to the subscriber's address and this port
pub record BroughtIn (c : Config) (x : Passage) (subscriber address port hops : ℕ) (packet : Facts) : Type 0 where
  pub came : read_of x.came ≡ Ok (reading.Packet packet)
  pub ours : packet.destination.address ≡ c.external
  pub home : address_of c subscriber ≡ Some address
  pub left : read_of x.left ≡ Ok (reading.Packet (relocated hops Destination (record { address = address; port = port }) packet))
  pub sums : FreshSums packet.protocol x.came x.left

-- an earlier packet from the same address and port, of the same protocol, to the address from which this one comes, by the port to which it comes
pub record AnswersTo (c : Config) (x : Passage) (subscriber address port : ℕ) (packet : Facts) (y : Passage) (earlier : Facts) : Type 0 where
  pub before : moment y < moment x
  pub sent : SentOut c y subscriber packet.destination.port earlier
  pub from : earlier.source ≡ record { address = address; port = port }
  pub protocol : earlier.protocol ≡ packet.protocol
  pub to : earlier.destination.address ≡ packet.source.address

-- 3. What is delivered to a subscriber came from an address to which it had sent, from that very port and by that very external port.
abbrev pub Answered : Type 0
Answered =
    (c : Config) → within_limits c ≡ true → (is : List Item) (x : Passage) → Memᴰ x (passages c is) → x.outcome ≡ In →
    (n : ℕ) × (a : ℕ) × (q : ℕ) × (hops : ℕ) × (f : Facts) × BroughtIn c x n a q hops f
    × (y : Passage) × (g : Facts) × Memᴰ y (passages c is) × AnswersTo c x n a q f y g

-- 4. A refused packet's bytes are as they were.
abbrev pub Untouched : Type 0
Untouched = (c : Config) (is : List Item) (x : Passage) (r : Refusal) → Memᴰ x (passages c is) → x.outcome ≡ Refused r → x.left ≡ x.came

-- y is the coming in of the packet of x, which went out by the port p: the same bytes, from our own external address to the port that they go to,
-- and the time to live does not fall again
pub record ComesBack (c : Config) (x y : Passage) (f : Facts) (p : ℕ) : Type 0 where
  pub came : read_of x.came ≡ Ok (reading.Packet f)
  pub went : x.occurrence.verdict ≡ Sent p
  pub same : y.came ≡ x.left
  pub event : event_in y ≡ Comes (record { protocol = f.protocol; port = other_port f.protocol p f.destination.port; from = c.external })
  pub left : (n q : ℕ) → y.occurrence.verdict ≡ Delivered n q →
      read_of y.left ≡ Ok (reading.Packet (relocated 0 Destination (record { address = home_of c n; port = q }) (relocated 1 Source (record { address = c.external; port = p }) f)))

-- 5. A packet that is turned comes in as the next event, and its time to live falls once.
abbrev pub TurnedOnce : Type 0
TurnedOnce =
    (c : Config) (s : State) (side : Side) (bs : List ℕ) → (passage c s 1 (event_of c side bs) bs).outcome ≡ Turned →
    (y : Passage) × (passages_of c s (Packet side bs) ≡ passage c s 1 (event_of c side bs) bs ∷ y ∷ [])
    × (f : Facts) × (p : ℕ) × ComesBack c (passage c s 1 (event_of c side bs) bs) y f p

-- All of it together.
pub record Main : Type 0 where
  pub run_of_events : RunOfEvents
  pub traced : Traced
  pub answered : Answered
  pub untouched : Untouched
  pub turned_once : TurnedOnce
