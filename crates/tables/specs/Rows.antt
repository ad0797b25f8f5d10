-- What the rows of the tables mean: a mapping, a slot, and a subscriber's further blocks.
use Rattle.std.specs.Prelude.{ℕ, ◌-◌, cond, List, take, Some, None, Option, nat_le, slice_index_or, vec_items}
use Rattle.blocks.specs.Config.{lowest_port}
use Rattle.mappings.specs.Mappings as mappings
use Rattle.arrayvec.specs.ArrayVec.{ArrayVec}
use Rattle.tables.specs.declared.mapping.Mapping.{Mapping}
use Rattle.tables.specs.declared.slots.Slots.{Slots}

abbrev pub meaning : Mapping → mappings.Mapping
meaning m = record { subscriber = m.subscriber; protocol = m.protocol; port = m.port; last = m.last; remembered = take m.count m.addresses }

abbrev pub slot : Option Mapping → Option mappings.Mapping
slot None = None
slot (Some m) = Some (meaning m)

-- the slots are those of the external ports from the lowest on
abbrev pub slots_of : List (Option Mapping) → ℕ → Option mappings.Mapping
slots_of xs p = cond (nat_le lowest_port p) (slot (slice_index_or xs (p - lowest_port) None)) None

abbrev pub slots_in : Slots → ℕ → Option mappings.Mapping
slots_in x = slots_of (vec_items x.of)

abbrev pub blocks_in : ArrayVec ℕ → List ℕ
blocks_in row = row.items
