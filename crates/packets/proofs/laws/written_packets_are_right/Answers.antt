-- The theorems stand in files of their own.
use Rattle.packets.proofs.Again.{read_again}
use Rattle.packets.proofs.Fresh.{sums_are_fresh}
use Rattle.packets.proofs.Untouched.{others_stay}
use Rattle.packets.proofs.laws.written_packets_are_right.Goals as goal

pub returns : goal.returns
returns c = record { again = read_again; fresh = sums_are_fresh; others = others_stay }
