-- No slot has a mapping.
use Rattle.std.proofs.Common.{ap, ◌∙◌}
use Rattle.tables.specs.Rows.{slots_of}
use Rattle.tables.proofs.Fresh.{no_slot, none_only}
use Rattle.tables.proofs.slots.Slots.none.Goals as goal

pub returns : goal.returns
returns c = λ i p. (ap (λ xs. slots_of xs p) (c.in_ok-of.ensures.items_if_clones_equal (none_only _ (λ m e. e))) ∙ no_slot 64512 p) i
