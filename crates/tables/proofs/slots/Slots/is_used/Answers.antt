-- The slots of the block are looked through; a block past the last has none.
use Rattle.std.proofs.Common.{◌≡◌, ◌+◌, ◌*◌, length, is_some, vec_items, Option, sym, ap, ◌∙◌, arith, rules, tests}
use Rattle.std.specs.List.{list_any, slice_range}
use Rattle.std.proofs.lemmas.Iterator.{YieldsList-from_slice}
use Rattle.std.proofs.lemmas.Iterator.Search.{any_from_yields_List}
use Rattle.mappings.specs.Searches.{first, range}
use Rattle.mappings.specs.Steps.{is_taken}
use Rattle.tables.specs.declared.mapping.Mapping.{Mapping}
use Rattle.tables.specs.Rows.{slots_of}
use Rattle.tables.proofs.Places.{any_taken, block_past, none_past}
use Rattle.tables.proofs.slots.Slots.is_used.Goals as goal

pub returns : goal.returns
returns c =
    let any : c.any.result ≡ list_any (λ (v : Option Mapping). is_some v) c.in-Some.slots.now = any_from_yields_List (λ (v : Option Mapping). is_some v) _ _ _ c.any.ensures.ran (YieldsList-from_slice c.in-Some.slots.now cc) (λ x b q k. search (rules, tests)) in
    let s = c.args.settings.now in
    let xs = vec_items c.args.self.now.of in
    let part = c.in-Some.ensures.lookup in
    let start = c.from.result * c.from-size.result in
    let from : 1024 + start ≡ 1024 + c.args.block * s.size + 0 = (λ j. 1024 + c.from.ensures j * (c.from-size.ensures ∙ c.size.ensures) j) ∙ omega arith in
    let many : length c.in-Some.slots.now ≡ s.size = omega (arith, part.0.3, c.from-size.ensures, c.size.ensures) in
    any ∙ any_taken xs c.in-Some.slots.now start (start + c.from-size.result) (part.0.2 ∙ ap (λ ys. slice_range ys start (start + c.from-size.result)) c.deref.ensures.value) part.0.3
    ∙ (λ j. is_some (first (is_taken (slots_of xs)) (range (from j) (many j))))

pub returns-in_default : goal.returns-in_default
returns-in_default c =
    let s = c.args.settings.now in
    let xs = vec_items c.args.self.now.of in
    let start = c.from.result * c.from-size.result in
    let past = block_past s c.from.result c.from-size.result (c.from-size.ensures ∙ c.size.ensures) (omega (arith, c.in_default.ensures.lookup.0, c.deref.ensures.len, c.args.self.now.each)) in
    let from : 1024 + start ≡ 1024 + c.args.block * s.size + 0 = (λ j. 1024 + c.from.ensures j * (c.from-size.ensures ∙ c.size.ensures) j) ∙ omega arith in
    sym (none_past xs start s.size (omega (arith, past, c.args.self.now.each))) ∙ ap (λ p. is_some (first (is_taken (slots_of xs)) (range p s.size))) from
