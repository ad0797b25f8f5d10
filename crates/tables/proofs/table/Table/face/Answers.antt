-- The slot of a port is looked at as the definition does.
use Rattle.std.proofs.Common.{is_some, rules}
use Rattle.mappings.specs.Mappings.{is_of}
use Rattle.mappings.specs.Steps.{live_and}
use Rattle.tables.specs.Models.{config_of}
use Rattle.tables.proofs.table.Table.face.Goals as goal

pub returns : goal.returns
returns c =
    let t = c.args.self.now in
    c.own_port.ensures.is (λ v. is_some (live_and (config_of t) t.tick (is_of c.args.packet.now) v)) (λ v b k. search rules)
