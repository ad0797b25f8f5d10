-- A packet is as it was read; an error has its own 28 bytes, and the rest is its quote.
use Rattle.std.proofs.Common.{◌≡◌, Ok, arith}
use Rattle.std.proofs.lemmas.Grind.{common_steps}
use Rattle.std.proofs.lemmas.List.{take_rest}
use Rattle.packets.specs.declared.facts.Reading.TheVariants.{Error}
use Rattle.packets.specs.Reading.{read_of}
use Rattle.errors.specs.Messages.{message_in}
use Rattle.errors.proofs.Readings.{error_long}
use Rattle.errors.proofs.reader.read.Goals as goal

pub returns-in_err-facts : goal.returns-in_err-facts
unfolding message_in
returns-in_err-facts c = grind (arith, common_steps)

pub slice_bounds-read_quote-count : goal.slice_bounds-read_quote-count
slice_bounds-read_quote-count c =
    let e : read_of c.args.packet.now ≡ Ok (Error c.in-Error.heading) = grind (arith, common_steps) in
    error_long c.args.packet.now c.in-Error.heading e

pub slice_bounds-read_quote-start : goal.slice_bounds-read_quote-start
slice_bounds-read_quote-start c =
    let e : read_of c.args.packet.now ≡ Ok (Error c.in-Error.heading) = grind (arith, common_steps) in
    error_long c.args.packet.now c.in-Error.heading e

pub returns-in_err-quote-in-Error : goal.returns-in_err-quote-in-Error
unfolding message_in
returns-in_err-quote-in-Error c = grind (arith, common_steps, take_rest c.args.packet.now 28)

pub returns-in-Packet : goal.returns-in-Packet
unfolding message_in
returns-in-Packet c = grind (arith, common_steps)

pub returns-in_ok-quote-in-Error : goal.returns-in_ok-quote-in-Error
unfolding message_in
returns-in_ok-quote-in-Error c = grind (arith, common_steps, take_rest c.args.packet.now 28)
