-- The lists are as long as they should be, and nothing is in them.
use Rattle.std.proofs.Common.{◌≡◌, ℕ, ◌<◌, [], map, length, get_or, replicate, is_some, None, vec_items, Option, sym, refl, ap, ◌∙◌, subst, arith}
use Rattle.std.proofs.lemmas.List.{length-replicate}
use Rattle.blocks.specs.Config.{blocks_of}
use Rattle.blocks.specs.Settings.{config}
use Rattle.tables.specs.Rows.{blocks_in}
use Rattle.tables.proofs.Fresh.{all_same, empty_only, none_only, map_replicate, some_block}
use Rattle.tables.proofs.table.Table.at.Goals as goal

pub invariant_of-result : goal.invariant_of-result
invariant_of-result c =
    let s = c.args.settings in
    let further = c.in_ok-further.further in
    let holders = c.in_ok-holders.holders in
    let lists : map blocks_in (vec_items further) ≡ replicate c.from.result [] =
    ap (map blocks_in) (c.in_ok-further.ensures.items_if_clones_equal (empty_only _ c.new.result c.new.ensures)) ∙ map_replicate blocks_in c.from.result c.new.result [] c.new.ensures in
    record {
      by_subscriber = further.ok.0 ∙ ap length (c.in_ok-further.ensures.items_if_clones_equal (empty_only _ c.new.result c.new.ensures)) ∙ length-replicate c.from.result c.new.result ∙ (c.from.ensures ∙ c.subscribers.ensures);
      by_block = holders.ok.0 ∙ ap length (c.in_ok-holders.ensures.items_if_clones_equal (none_only _ (λ x e. e))) ∙ length-replicate {A = Option ℕ} c.from-2.result None ∙ (c.from-2.ensures ∙ c.blocks-2.ensures);
      within = λ n k. subst (λ xs. get_or (get_or xs n []) k 0 < blocks_of (config s)) (sym lists)
          (subst (λ xs. get_or xs k 0 < blocks_of (config s)) (sym (all_same c.from.result n [])) (some_block s));
      agree = λ b. c.none-2.ensures b ∙ ap is_some (sym (ap (λ xs. get_or xs b None) (c.in_ok-holders.ensures.items_if_clones_equal (none_only _ (λ x e. e))) ∙ all_same c.from-2.result b None));
      room = omega (arith, c.in_ok-lines.ensures.capacity, c.from-3.ensures, c.blocks-3.ensures);
    }

pub returns : goal.returns
returns c =
    let s = c.args.settings in
    let further = ap (map blocks_in) (c.in_ok-further.ensures.items_if_clones_equal (empty_only _ c.new.result c.new.ensures)) ∙ map_replicate blocks_in c.from.result c.new.result [] c.new.ensures
    ∙ ap (λ n. replicate n []) (c.from.ensures ∙ c.subscribers.ensures) in
    let holders = (c.in_ok-holders.ensures.items_if_clones_equal (none_only _ (λ x e. e))) ∙ ap (λ n. replicate n None) (c.from-2.ensures ∙ c.blocks-2.ensures) in
    record {
      settings = refl;
      state = λ i. record {
        slots = c.in_ok-slots.ensures i;
        further = further i;
        holders = holders i;
        tick = c.args.tick;
        moment = c.args.moment;
        over = mathlib.Core.Bool.false;
      };
      lines = c.in_ok-lines.ensures.items;
    }
