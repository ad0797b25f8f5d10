-- A whole input, read to its end or its first fault.
use Rattle.std.specs.Prelude.{◌≡◌, ℕ, zero, suc, ◌⊎◌, List, [], ◌∷◌, ◌++◌, length, drop}
use Rattle.std.specs.List.{flat_map}
use Rattle.blocks.specs.Bytes.{AllBytes, bytes_of}
use Rattle.records.specs.declared.record.Side.{Side}
use Rattle.records.specs.declared.record.Side.TheVariants.{Inside, Outside}
use Rattle.records.specs.Records.{Item, Packet, Tick, Front, End, Fault, Found, front}

-- rest: what was not read: nothing, or what begins with the fault
pub record Input : Type 0 where
  pub items : List Item
  pub rest : List ℕ

abbrev pub before : Item → Input → Input
before item i = record { items = item ∷ i.items; rest = i.rest }

-- a record at the front comes first, and then what `go` makes of the bytes behind it
abbrev pub input_after : (List ℕ → Input) → List ℕ → Front → Input
input_after go bs End = record { items = []; rest = bs }
input_after go bs Fault = record { items = []; rest = bs }
input_after go bs (Found item k) = before item (go (drop k bs))

-- n records at most
unfoldable pub input_by : ℕ → List ℕ → Input
input_by zero bs = record { items = []; rest = bs }
input_by (suc n) bs = input_after (input_by n) bs (front bs)

-- a record takes at least one byte
abbrev pub input_of : List ℕ → Input
input_of bs = input_by (length bs) bs

abbrev pub side_byte : Side → ℕ
side_byte Inside = 0
side_byte Outside = 1

abbrev pub item_bytes : Item → List ℕ
item_bytes (Packet side bytes) = 1 ∷ side_byte side ∷ (bytes_of 2 (length bytes) ++ bytes)
item_bytes Tick = 2 ∷ []

-- the items' bytes are the input's as far as it was read, and it was read to its end or to a fault
abbrev pub ReadToTheEnd : Type 0
ReadToTheEnd =
    (bs : List ℕ) → AllBytes bs →
    (flat_map item_bytes (input_of bs).items ++ (input_of bs).rest ≡ bs) × (((input_of bs).rest ≡ []) ⊎ (front (input_of bs).rest ≡ Fault))
