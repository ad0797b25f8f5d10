-- The mask is the remainder, and two rounds of carrying leave 16 bits.
use Rattle.std.proofs.Common.{◌+◌, ◌/◌, arith}
use lib.Bits.{bit_and}
use Rattle.std.proofs.lemmas.Nat.{and_mask}
use Rattle.sums.proofs.Carries.{ones_cases}
use Rattle.sums.proofs.fold.Goals as goal

pub overflow_cast-result : goal.overflow_cast-result
overflow_cast-result c = omega (arith, and_mask c.args.sum 16, and_mask (bit_and c.args.sum 65535 + c.args.sum / 65536) 16)

pub returns : goal.returns
returns c = omega (arith, and_mask c.args.sum 16, and_mask (bit_and c.args.sum 65535 + c.args.sum / 65536) 16, ones_cases c.args.sum)
