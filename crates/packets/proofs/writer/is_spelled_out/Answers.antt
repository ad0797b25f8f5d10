-- The words of an echo add up to nothing where no byte is other than 0.
use Rattle.std.proofs.Common.{arith}
use Rattle.std.proofs.lemmas.Bool.Decides.{nat_tests}
use Rattle.packets.proofs.Blank.{blank_sum, sum_blank}
use Rattle.packets.proofs.writer.is_spelled_out.Goals as goal

pub returns-in-Echo : goal.returns-in-Echo
returns-in-Echo c = grind (arith, nat_tests, blank_sum c.args.body.now, sum_blank c.args.body.now)
