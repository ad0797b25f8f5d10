-- The theorems stand in a file of their own.
use Rattle.sums.proofs.Moves.{one_word, many_words}
use Rattle.sums.proofs.laws.edits_move_sums.Goals as goal

pub returns : goal.returns
returns c = record { one = one_word; many = many_words }
