-- Each slot passes, or what is left tells.
use Rattle.std.proofs.Common.{◌≡◌, ℕ, ◌+◌, ◌-◌, ◌*◌, ◌<◌, ◌++◌, Bool, length, get_or, drop, vec_items, sym, ap, ◌∙◌, arith, refl, subst}
use Rattle.std.specs.List.{flat_map}
use Rattle.std.proofs.lemmas.Fn.{says_at}
use Rattle.std.proofs.lemmas.List.{at_drop_more, at_drop_all}
use Rattle.blocks.specs.Config.{blocks_of}
use Rattle.blocks.specs.Settings.{config}
use Rattle.mappings.specs.Searches.{first, range}
use Rattle.mappings.specs.States.{block_ports}
use Rattle.tables.specs.Rows.{slots_in}
use Rattle.tables.proofs.Looking.{first_nothing, look_end, look_here, look_on}
use Rattle.tables.proofs.Places.{block_end, slot_read}
use Rattle.tables.proofs.slots.Slots.find_port.Goals as goal

pub loop-at-init : goal.loop-at-init
loop-at-init g c = λ f h.
    let s = c.args.settings.now in
    let bs = c.args.blocks.now in
    let i = c.loop-block.block-index in
    let start = c.from.result * c.from-size.result in
    let t : ℕ → Bool = λ p. f (slots_in c.args.self.now p) in
    let rest = flat_map (block_ports (config s)) (drop (i + 1) bs) in
    let from : 1024 + start ≡ 1024 + get_or bs i 0 * s.size + 0 = (λ j. 1024 + c.from.ensures j * (c.from-size.ensures ∙ c.size.ensures) j) ∙ omega arith in
    let many : (start + c.from-size.result) - start ≡ s.size = omega (arith, c.from-size.ensures, c.size.ensures) in
    (λ j. first t (range (from j) (many j) ++ rest)) ∙ sym (at_drop_more (λ xs. first t (flat_map (block_ports (config s)) xs)) bs i 0 c.loop-block-test.true) ∙ c.loop-block.invariant f h

pub loop-at-preserved : goal.loop-at-preserved
loop-at-preserved g c = λ f h.
    let s = c.args.settings.now in
    let xs = vec_items c.args.self.now.of in
    let at = c.loop-at.at in
    let stop = c.from.result * c.from-size.result + c.from-size.result in
    let t : ℕ → Bool = λ p. f (slots_in c.args.self.now p) in
    let rest = flat_map (block_ports (config s)) (drop (c.loop-block.block-index + 1) c.args.blocks.now) in
    let last = block_end s c.from.result c.from-size.result (c.from-size.ensures ∙ c.size.ensures) (subst (λ b. b < blocks_of (config s)) (sym c.from.ensures) (c.requires.blocks c.loop-block.block-index)) in
    let within : at < length xs = omega (arith, c.args.self.now.each, last) in
    let no = ap f (slot_read xs at c.index.result.now within c.index.ensures) ∙ sym (h _ _ (says_at g.F.Fn c.passes.ensures refl)) ∙ c.if-passes.false in
    sym (look_on t rest (1024 + at) (stop - at) (stop - (at + 1)) (1024 + (at + 1)) (omega arith) (omega arith) no) ∙ c.loop-at.invariant f h

pub loop-block-preserved : goal.loop-block-preserved
loop-block-preserved g c = λ f h.
    let at = c.loop-at.at in
    let stop = c.from.result * c.from-size.result + c.from-size.result in
    let t : ℕ → Bool = λ p. f (slots_in c.args.self.now p) in
    let rest = flat_map (block_ports (config c.args.settings.now)) (drop (c.loop-block.block-index + 1) c.args.blocks.now) in
    sym (look_end t rest (1024 + at) (stop - at) (omega arith)) ∙ c.loop-at.invariant f h

pub returns-then-passes : goal.returns-then-passes
returns-then-passes g c = record {
  is = λ f h.
      let xs = vec_items c.args.self.now.of in
      let at = c.loop-at.at in
      let stop = c.from.result * c.from-size.result + c.from-size.result in
      let t : ℕ → Bool = λ p. f (slots_in c.args.self.now p) in
      let rest = flat_map (block_ports (config c.args.settings.now)) (drop (c.loop-block.block-index + 1) c.args.blocks.now) in
      let last = block_end c.args.settings.now c.from.result c.from-size.result (c.from-size.ensures ∙ c.size.ensures) (subst (λ b. b < blocks_of (config c.args.settings.now)) (sym c.from.ensures) (c.requires.blocks c.loop-block.block-index)) in
      let within : at < length xs = omega (arith, c.args.self.now.each, last) in
      let there = ap f (slot_read xs at c.index.result.now within c.index.ensures) ∙ sym (h _ _ (says_at g.F.Fn c.passes.ensures refl)) ∙ c.if-passes.true in
      sym (look_here t rest (1024 + at) (stop - at) (stop - (at + 1)) (omega arith) there) ∙ c.loop-at.invariant f h;
}

pub returns-after-loop-block : goal.returns-after-loop-block
returns-after-loop-block g c = record {
  is = λ f h.
      let t : ℕ → Bool = λ p. f (slots_in c.args.self.now p) in
      sym (first_nothing t) ∙ sym (at_drop_all (λ xs. first t (flat_map (block_ports (config c.args.settings.now)) xs)) c.args.blocks.now c.loop-block.block-index c.loop-block-test.false) ∙ c.loop-block.invariant f h;
}
