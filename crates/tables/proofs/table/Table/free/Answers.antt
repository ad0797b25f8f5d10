-- A slot is free if it has no mapping.
use Rattle.std.proofs.Common.{not, is_some, rules}
use Rattle.tables.proofs.table.Table.free.Goals as goal

pub returns : goal.returns
returns c = c.own_port.ensures.is (λ v. not (is_some v)) (λ v b k. search rules)
