-- The input as records: 1, a side, a length and a packet; or 2, a tick.
use Rattle.std.specs.Prelude.{ℕ, ◌+◌, Bool, cond, ◌&&◌, List, length, take, drop, ◌==◌, nat_le, slice_index}
use Rattle.blocks.specs.Bytes.{number_at}
use Rattle.records.specs.declared.record.Side.{Side}
use Rattle.records.specs.declared.record.Side.TheVariants.{Inside, Outside}

pub data Item : Type 0 where
  Packet : (side : Side) (bytes : List ℕ) → Item
  Tick : Item

-- what stands at the front of some bytes: nothing any more, a damaged record, or an item and how many bytes it takes
pub data Front : Type 0 where
  End : Front
  Fault : Front
  Found : (item : Item) (taken : ℕ) → Front

abbrev pub side_of : ℕ → Side
side_of b = cond (b == 0) Inside Outside

abbrev pub packet_length : List ℕ → ℕ
packet_length bs = number_at bs 2 2

-- the kind is 1, the side is 0 or 1, and nothing is cut
abbrev pub is_whole_packet : List ℕ → Bool
is_whole_packet bs = slice_index bs 0 == 1 && nat_le (slice_index bs 1) 1 && nat_le 4 (length bs) && nat_le (4 + packet_length bs) (length bs)

abbrev pub front_packet : List ℕ → Front
front_packet bs = cond (is_whole_packet bs) (Found (Packet (side_of (slice_index bs 1)) (take (packet_length bs) (drop 4 bs))) (4 + packet_length bs)) Fault

abbrev pub front : List ℕ → Front
front bs = cond (length bs == 0) End (cond (slice_index bs 0 == 2) (Found Tick 1) (front_packet bs))

-- how many bytes are read
abbrev pub taken : Front → ℕ
taken End = 0
taken Fault = 0
taken (Found item n) = n
