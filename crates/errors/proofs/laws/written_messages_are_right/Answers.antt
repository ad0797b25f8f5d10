-- The theorems stand in files of their own.
use Rattle.errors.proofs.Again.{read_again}
use Rattle.errors.proofs.Fresh.{own_sums_are_fresh}
use Rattle.errors.proofs.Untouched.{others_stay}
use Rattle.errors.proofs.laws.written_messages_are_right.Goals as goal

pub returns : goal.returns
returns c = record { again = read_again; fresh = own_sums_are_fresh; others = others_stay }
