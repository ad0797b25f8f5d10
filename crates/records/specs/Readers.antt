-- What a reader answers, in the words of the input's records.
use Rattle.std.specs.Prelude.{◌≡◌, ℕ, ◌<◌, ◌≤◌, length, Some, None, Ok, Err, Option, Result}
use Rattle.blocks.specs.declared.refusal.Refusal.{Refusal}
use Rattle.blocks.specs.declared.refusal.Refusal.TheVariants.{Malformed}
use Rattle.records.specs.declared.record.Record.{Record}
use Rattle.records.specs.declared.record.Record.TheVariants as variant
use Rattle.records.specs.Records.{Item, Packet, Tick, Front, End, Fault, Found}

abbrev pub item_of : Record → Item
item_of (variant.Packet side bytes) = Packet side bytes.now
item_of variant.Tick = Tick

-- what was found at the front of some bytes: a packet, and any record
abbrev pub packet_of : Option (Record × ℕ) → Front
packet_of (Some found) = Found (item_of found.0) found.1
packet_of None = Fault

abbrev pub front_of : Result (Option (Record × ℕ)) Refusal → Front
front_of (Ok None) = End
front_of (Err e) = Fault
front_of (Ok (Some found)) = Found (item_of found.0) found.1

-- what the caller of a reader is told
abbrev pub told : Front → Result (Option Item) Refusal
told End = Ok None
told Fault = Err Malformed
told (Found item n) = Ok (Some item)

abbrev pub items_of : Result (Option Record) Refusal → Result (Option Item) Refusal
items_of (Ok None) = Ok None
items_of (Ok (Some r)) = Ok (Some (item_of r))
items_of (Err e) = Err e

-- a reader that found a record has gone on, and any other stays where it was
abbrev pub Advances : Result (Option Record) Refusal → ℕ → ℕ → Type 0
Advances (Ok None) before after = after ≡ before
Advances (Ok (Some r)) before after = before < after
Advances (Err e) before after = after ≡ before

-- why nothing more can be read
abbrev pub cause_in : Front → Option Refusal
cause_in End = None
cause_in Fault = Some Malformed
cause_in (Found item n) = None

-- a packet's length has two bytes
abbrev pub ShortRecord : Record → Type 0
ShortRecord (variant.Packet side bytes) = length bytes.now ≤ 65535
ShortRecord variant.Tick = Unit {0}

abbrev pub ShortFront : Result (Option (Record × ℕ)) Refusal → Type 0
ShortFront (Ok None) = Unit {0}
ShortFront (Ok (Some found)) = ShortRecord found.0
ShortFront (Err e) = Unit {0}

abbrev pub Short : Result (Option Record) Refusal → Type 0
Short (Ok None) = Unit {0}
Short (Ok (Some r)) = ShortRecord r
Short (Err e) = Unit {0}
