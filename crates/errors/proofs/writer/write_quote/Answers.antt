-- The header and the body are written one after the other, and so are what they lose and gain.
use Rattle.std.proofs.Common.{◌≡◌, List, ℕ, length, ◌++◌, length-take, sym, refl, ap, arith}
use Rattle.std.proofs.lemmas.Grind.{common_steps}
use Rattle.std.proofs.lemmas.List.{take-append-drop}
use Rattle.packets.specs.Fields.{header_of, body_of}
use Rattle.errors.specs.Requoting.{requoted}
use Rattle.errors.proofs.Changes.{edit_as, edit_of, parts_edit}
use Rattle.errors.proofs.writer.write_quote.Goals as goal

pub returns : goal.returns
unfolding requoted
returns c =
    let h : List ℕ = c.unwrap.result.0.now in
    let b : List ℕ = c.unwrap.result.1.now in
    let h-is : h ≡ header_of c.args.quote.now = grind (arith, common_steps) in
    let b-is : b ≡ body_of c.args.quote.now = grind (arith, common_steps) in
    let whole : h ++ b ≡ c.args.quote.now = rw (h-is, b-is) (take-append-drop 20 c.args.quote.now) in
    let twenty : length h ≡ 20 = omega (arith, ap length h-is, length-take 20 c.args.quote.now) in
    record {
      is = cc (c.write_quoted_header-header.ensures.is, c.write_quoted_body-body.ensures.is, c.address_sum.ensures.is, c.halves.ensures.is, c.counted_of.ensures, c.counted_of-2.ensures, h-is, b-is);
      edit = edit_as (edit_of (parts_edit 10 twenty c.write_quoted_header-header.ensures.edit c.write_quoted_body-body.ensures.edit) (sym whole)) refl c.plus.ensures.gone c.plus.ensures.new;
    }
