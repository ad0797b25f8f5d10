-- Taking back, block by block, and the slots that a tick leaves.
use Rattle.std.specs.Prelude.{ℕ, cond, List, [], ◌∷◌, Some, None, Option}
use Rattle.blocks.specs.Config.{Config}
use Rattle.mappings.specs.declared.line.Change.TheVariants.{TakenBack}
use Rattle.mappings.specs.declared.line.Line.{Line}
use Rattle.mappings.specs.Mappings as mappings
use Rattle.mappings.specs.States.{State}
use Rattle.mappings.specs.Steps.{is_used, line_of}
use Rattle.tables.specs.Rows.{meaning}
use Rattle.tables.specs.declared.mapping.Mapping.{Mapping}

-- a mapping that has rested is gone
abbrev pub kept_in : Config → ℕ → Option Mapping → Option Mapping
kept_in c t None = None
kept_in c t (Some m) = cond (mappings.live_or_resting c t (meaning m)) (Some m) None

-- who has the block b once it was looked at, and the line for it
abbrev pub holder_left : Config → (ℕ → Option mappings.Mapping) → ℕ → Option ℕ → Option ℕ
holder_left c slots b None = None
holder_left c slots b (Some n) = cond (is_used c slots b) (Some n) None

abbrev pub line_back : Config → (ℕ → Option mappings.Mapping) → ℕ → ℕ → ℕ → Option ℕ → List Line
line_back c slots moment tick b None = []
line_back c slots moment tick b (Some n) = cond (is_used c slots b) [] (line_of TakenBack moment tick b n ∷ [])

abbrev pub with_holders : List (Option ℕ) → State → State
with_holders hs s = record { slots = s.slots; further = s.further; holders = hs; tick = s.tick; moment = s.moment; over = s.over }
