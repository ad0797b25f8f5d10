-- What a gateway holds between two events.
use Rattle.std.specs.Prelude.{ℕ, Bool, false, List, [], ◌∷◌, replicate, None, Option, slice_index_or}
use Rattle.std.specs.List.{flat_map}
use Rattle.blocks.specs.Config.{Config, blocks_of}
use Rattle.blocks.specs.Ports.{port_of}
use Rattle.mappings.specs.Searches.{range}
use Rattle.mappings.specs.Mappings.{Mapping}

-- slots: for each external port the mapping that has it, live or resting;
-- further: for each subscriber its further blocks, in the order in which they were given; holders: for each block the subscriber that it was given to, if it is a further one;
-- moment: how many events came before; over: the count of events or the tick has reached its end
pub record State : Type 0 where
  pub slots : ℕ → Option Mapping
  pub further : List (List ℕ)
  pub holders : List (Option ℕ)
  pub tick : ℕ
  pub moment : ℕ
  pub over : Bool

abbrev pub no_mapping : ℕ → Option Mapping
no_mapping p = None

abbrev pub fresh : Config → State
fresh c = record { slots = no_mapping; further = replicate c.subscribers []; holders = replicate (blocks_of c) None; tick = 0; moment = 0; over = false }

-- the ports of a block, lowest first
abbrev pub block_ports : Config → ℕ → List ℕ
block_ports c b = range (port_of c b 0) c.size

abbrev pub further_of : State → ℕ → List ℕ
further_of s n = slice_index_or s.further n []

-- the external ports that a subscriber may use: those of its first block, then of its further blocks in the order in which they were given
abbrev pub ports_of : Config → State → ℕ → List ℕ
ports_of c s n = flat_map (block_ports c) (n ∷ further_of s n)
