-- What is still to be added, with what has been added, is the whole sum.
use Rattle.std.proofs.Common.{◌≡◌, ◌+◌, ◌-◌, ◌*◌, ◌≤◌, length}
use Rattle.sums.specs.Words.{word_sum}
use Rattle.sums.proofs.word_sum.Given as goal

abbrev pub invariant-loop-rest : goal.invariant-loop-rest
invariant-loop-rest l = (l.sum + word_sum l.rest ≡ word_sum l.bytes) × (l.sum ≤ 32768 * (length l.bytes - length l.rest)) × (length l.rest ≤ length l.bytes)

abbrev pub decreases-loop-rest : goal.decreases-loop-rest
decreases-loop-rest l = length l.rest
