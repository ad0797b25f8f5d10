-- The theorem stands in a file of its own.
use Rattle.packets.proofs.Back.{out_and_back}
use Rattle.packets.proofs.laws.answers_come_back.Goals as goal

pub returns : goal.returns
returns c = out_and_back
