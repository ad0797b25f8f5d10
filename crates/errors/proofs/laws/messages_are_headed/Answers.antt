-- Of a packet and of an error alike, by what the definitions are.
use Rattle.std.proofs.Common.{refl}
use Rattle.packets.specs.declared.facts.Reading.TheVariants.{Packet, Error}
use Rattle.errors.specs.Laws.{MessagesAreHeaded}
use Rattle.errors.proofs.laws.messages_are_headed.Goals as goal

headed : MessagesAreHeaded
headed (Packet f) = (refl, (refl, (refl, refl)))
headed (Error x) = (refl, (refl, (refl, refl)))

pub returns : goal.returns
returns c = headed
