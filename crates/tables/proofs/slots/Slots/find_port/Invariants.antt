-- What is left to look through tells: in the block at hand, and in the blocks behind it.
use Rattle.std.proofs.Common.{◌≡◌, ◌+◌, ◌-◌, ◌++◌, Bool, Option, drop}
use Rattle.std.specs.Fn.{FnReturnsAt}
use Rattle.std.specs.List.{flat_map}
use Rattle.blocks.specs.Settings.{config}
use Rattle.mappings.specs.Mappings as mappings
use Rattle.mappings.specs.Searches.{first, range}
use Rattle.mappings.specs.States.{block_ports}
use Rattle.tables.specs.Rows.{slots_in}
use Rattle.tables.specs.Sought.{Tells}
use Rattle.tables.proofs.slots.Slots.find_port.Given as goal

abbrev pub invariant-loop-block : goal.invariant-loop-block
invariant-loop-block g l =
    (f : Option mappings.Mapping → Bool) → Tells (FnReturnsAt g.F.Fn l.passes) f →
    first (λ p. f (slots_in l.self p)) (flat_map (block_ports (config l.settings)) (drop l.block-index l.blocks))
    ≡ first (λ p. f (slots_in l.self p)) (flat_map (block_ports (config l.settings)) l.blocks)

abbrev pub invariant-loop-at : goal.invariant-loop-at
invariant-loop-at g l =
    (f : Option mappings.Mapping → Bool) → Tells (FnReturnsAt g.F.Fn l.passes) f →
    first (λ p. f (slots_in l.self p)) (range (1024 + l.at) (l.at-end - l.at) ++ flat_map (block_ports (config l.settings)) (drop (l.block-index + 1) l.blocks))
    ≡ first (λ p. f (slots_in l.self p)) (flat_map (block_ports (config l.settings)) l.blocks)
