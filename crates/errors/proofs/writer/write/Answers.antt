-- A packet leaves as packets do.
use Rattle.std.proofs.Common.{Ok, ap, ◌∙◌}
use Rattle.errors.specs.Requoting.{left}
use Rattle.errors.proofs.Readings.{was_packet}
use Rattle.errors.proofs.writer.write.Goals as goal

pub write-requires : goal.write-requires
write-requires c = was_packet c.args.packet.now c.in-Packet.facts (c.requires ∙ ap Ok c.in-Packet.is)

pub returns-in-Packet : goal.returns-in-Packet
unfolding left
returns-in-Packet c = cc (c.write.ensures, c.in-Packet.is)
