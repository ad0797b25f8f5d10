-- The folded numbers stand for what they were folded from.
use Rattle.std.proofs.Common.{◌+◌, arith}
use Rattle.sums.proofs.Carries.{ones_cases}
use Rattle.sums.proofs.move_sum.Goals as goal

pub returns : goal.returns
returns c =
    omega (arith, ones_cases c.args.gone, ones_cases c.args.new, ones_cases (c.from.result + c.from-2.result + c.from-3.result + 65535))
