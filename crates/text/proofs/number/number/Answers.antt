-- What is plain is what `parse` says, and what is not plain is no decimal number.
use Rattle.std.proofs.Common.{decimal, arith}
use Rattle.std.proofs.lemmas.Grind.{common_steps}
use Rattle.text.proofs.Decimal.{decimal_plain, plain_from, plain_to, reads_plain}
use Rattle.text.proofs.number.number.Goals as goal

pub returns-then-not-is_plain : goal.returns-then-not-is_plain
returns-then-not-is_plain c n small same = let plain = plain_to (decimal n) (decimal_plain n small) in grind (arith, common_steps)

pub returns : goal.returns
returns c =
    let bs = c.args.text.now in
    let read = reads_plain bs c.parse.result c.parse.ensures.value.0 (plain_from bs (grind (arith, common_steps))) in
    grind (arith, common_steps)
