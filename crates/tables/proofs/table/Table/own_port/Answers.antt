-- The subscriber's first block and then its further ones are what is looked through.
use Rattle.std.proofs.Common.{ℕ, ◌<◌, Bool, get_or, vec_items, sym, ap, ◌∙◌, subst, arith, rules}
use Rattle.std.specs.Fn.{FnReturnsAt}
use Rattle.std.specs.List.{flat_map}
use Rattle.std.proofs.lemmas.List.{append-nil}
use Rattle.blocks.specs.Config.{blocks_of}
use Rattle.mappings.specs.Searches.{first}
use Rattle.mappings.specs.States.{block_ports, further_of}
use Rattle.tables.specs.Models.{config_of, model}
use Rattle.tables.specs.Sought.{Finds}
use Rattle.tables.proofs.Looking.{first_or_else}
use Rattle.tables.proofs.Own.{one_block, row_read}
use Rattle.tables.proofs.table.Table.own_port.Goals as goal

pub find_port-requires-clause-blocks : goal.find_port-requires-clause-blocks
find_port-requires-clause-blocks g c = one_block c.args.self.now c.args.subscriber c.requires.subscriber

pub or_else-requires : goal.or_else-requires
or_else-requires g c =
    let t = c.args.self.now in
    let n = c.args.subscriber in
    let row = row_read (vec_items t.further) n c.from.result c.index.result.now c.from.ensures (omega (arith, t.further.ok.0, t.by_subscriber, c.requires.subscriber)) c.index.ensures in
    let within : (k : ℕ) → get_or c.as_slice-further.result.now k 0 < blocks_of (config_of t) = λ k. subst (λ xs. get_or xs k 0 < blocks_of (config_of t)) (row ∙ sym c.as_slice-further.ensures.value) (t.within n k) in
    search (rules, within, c.requires.callable)

pub returns : goal.returns
returns g c = record {
  is = λ f h.
      let t = c.args.self.now in
      let n = c.args.subscriber in
      let test : ℕ → Bool = λ p. f ((model t).slots p) in
      let own = block_ports (config_of t) in
      let row = row_read (vec_items t.further) n c.from.result c.index.result.now c.from.ensures (omega (arith, t.further.ok.0, t.by_subscriber, c.requires.subscriber)) c.index.ensures in
      let further = c.as_slice-further.ensures.value ∙ sym row in
      first_or_else test (own n) (flat_map own (further_of (model t) n)) _ _ _
      (λ k. let found : Finds (FnReturnsAt g.F.Fn c.args.passes.now) (model t).slots (flat_map own c.as_slice-further.result.now) c.or_else.result = search rules in
      found.is f h ∙ ap (λ xs. first test (flat_map own xs)) further)
      (c.find_port.ensures.is f h ∙ ap (first test) (append-nil (own n))) c.or_else.ensures;
}
