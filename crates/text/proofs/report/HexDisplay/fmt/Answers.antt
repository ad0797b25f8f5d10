-- A chunk more: its digits.
use Rattle.std.proofs.Common.{◌≡◌, ℕ, ◌/◌, ◌%◌, List, [], ◌∷◌, ◌++◌, refl, sym, ap, ◌∙◌, append_assoc, rules}
use Rattle.std.proofs.Output.{has_written_append}
use Rattle.std.proofs.lemmas.List.Concat.{flat_map-append}
use Rattle.text.specs.Reports.{hex_digit, hex_text}
use Rattle.text.proofs.report.HexDisplay.fmt.Goals as goal

-- the digits of a chunk, and those of what is behind it
chunk_first : (all chunk rest : List ℕ) → all ≡ chunk ++ rest → hex_text chunk ++ hex_text rest ≡ hex_text all
chunk_first all chunk rest parts = rw parts (sym (flat_map-append (λ b. hex_digit (b / 16) ∷ hex_digit (b % 16) ∷ []) chunk rest))

pub loop-bytes-preserved : goal.loop-bytes-preserved
loop-bytes-preserved g c =
    let steps = c.in-Some.ensures.steps in (
      search rules,
      tt,
      steps.0 ∙ c.loop-bytes.invariant.2,
      λ plain.
          let so_far = c.loop-bytes.invariant.3 plain in (
            so_far.0 ++ c.digits.result.now,
            has_written_append _ _ _ _ _ _ so_far.1 (c.in_ok-write_str.ensures.writes so_far.1.plain refl),
            append_assoc so_far.0 _ _ ∙ ap (λ t. so_far.0 ++ t) (rw c.digits.ensures (chunk_first _ _ _ steps.1.0)) ∙ so_far.2,
          ),
    )
