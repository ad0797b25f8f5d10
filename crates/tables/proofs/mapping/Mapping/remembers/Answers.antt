-- The slice is looked through as the definition does.
use Rattle.std.proofs.Common.{take, ap, ◌∙◌}
use Rattle.mappings.specs.Mappings.{is_in}
use Rattle.tables.proofs.Remembering.{in_any}
use Rattle.tables.proofs.mapping.Mapping.remembers.Goals as goal

pub returns : goal.returns
returns c =
    let m = c.args.self.now in
    c.contains.ensures.value ∙ in_any c.args.address _ ∙ ap (λ k. is_in c.args.address (take k m.addresses)) c.from.ensures
