-- The place of the first line feed, or the end where there is none.
use Rattle.std.proofs.Common.{◌≡◌, ℕ, ◌≤◌, cond, eqb, ltb, Some, None, length, rules, refl, ap, ◌∙◌, arith}
use Rattle.std.proofs.lemmas.Bool.{cond_both, ltb-false}
use Rattle.std.proofs.lemmas.Iterator.{YieldsList-from_slice}
use Rattle.std.proofs.lemmas.Iterator.Search.{position_from_yields_List}
use Rattle.std.proofs.lemmas.List.Sums.{prefix_len-le-length}
use Rattle.std.specs.Option.{unwrap_or}
use borrow.Author.Tests.{tests}
use Rattle.text.specs.Lines.{line_length}
use Rattle.text.proofs.lines.line_length.Goals as goal

-- the place that was found, or else the end
or_the_end : (n end : ℕ) → n ≤ end → unwrap_or (cond (ltb n end) (Some n) None) end ≡ n
or_the_end n end h = cond_both (ltb n end) (Some n) None (λ o. unwrap_or o end ≡ n) (λ e. refl) (λ e. omega (arith, ltb-false n end e))

pub returns : goal.returns
returns c =
    let text = c.args.text.now in
    let within : line_length text ≤ length text = prefix_len-le-length _ text in
    let found = position_from_yields_List (λ b. eqb b 10) _ _ c.position.result c.position.ensures.ran (YieldsList-from_slice text cc) (λ x b q k. search (rules, tests)) in
    let is = c.unwrap_or.ensures ∙ ap (λ o. unwrap_or o (length text)) found ∙ or_the_end (line_length text) (length text) within in
    record { is = is; within = omega arith }
