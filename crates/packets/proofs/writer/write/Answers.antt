-- A packet that was read has the lengths and the right sums that its parts are written by.
use Rattle.std.proofs.Common.{◌≡◌, ℕ, ◌-◌, ◌≤◌, List, length, Ok, arith}
use Rattle.std.proofs.lemmas.Grind.{common_steps}
use Rattle.packets.specs.declared.facts.Facts.{Facts}
use Rattle.packets.specs.declared.facts.Reading.TheVariants.{Packet}
use Rattle.packets.specs.Fields.{header_of, body_of}
use Rattle.packets.specs.Reading.{read_of}
use Rattle.packets.specs.Writing.{least_of, sent}
use Rattle.packets.proofs.Readable.{Readable, was_read}
use Rattle.packets.proofs.Accepted.{plain_version, plain_length, fits_least, right_body, besides_fits}
use Rattle.packets.proofs.writer.write.Goals as goal

-- the parts have passed the tests
tests : (bs : List ℕ) (f : Facts) (h b : List ℕ) → read_of bs ≡ Ok (Packet f) → h ≡ header_of bs → b ≡ body_of bs → Readable f.protocol h b
tests bs f h b e h-is b-is = rw (h-is, b-is) (was_read bs f e).tests

pub unwrap-requires : goal.unwrap-requires
unwrap-requires c = grind (arith, common_steps, (was_read c.args.packet.now c.args.facts c.requires).long)

pub overflow_sub-count : goal.overflow_sub-count
overflow_sub-count c =
    let h : List ℕ = c.unwrap.result.0.now in
    let b : List ℕ = c.unwrap.result.1.now in
    let t : Readable c.args.facts.protocol h b = tests c.args.packet.now c.args.facts h b c.requires (grind (arith, common_steps)) (grind (arith, common_steps)) in
    omega (arith, plain_length h b t.plain)

pub write_header-requires : goal.write_header-requires
write_header-requires c =
    let h : List ℕ = c.unwrap.result.0.now in
    let b : List ℕ = c.unwrap.result.1.now in
    let t : Readable c.args.facts.protocol h b = tests c.args.packet.now c.args.facts h b c.requires (grind (arith, common_steps)) (grind (arith, common_steps)) in
    record { version = plain_version h b t.plain; sum = t.header }

pub write_body-requires : goal.write_body-requires
write_body-requires c =
    let h : List ℕ = c.unwrap.result.0.now in
    let b : List ℕ = c.unwrap.result.1.now in
    let t : Readable c.args.facts.protocol h b = tests c.args.packet.now c.args.facts h b c.requires (grind (arith, common_steps)) (grind (arith, common_steps)) in
    let count : c.word_at.result - 20 ≡ length b = omega (arith, plain_length h b t.plain) in
    let least : least_of c.args.facts.protocol ≤ length b = fits_least c.args.facts.protocol b t.fits in
    record {
      long = least;
      small = omega arith;
      besides = rw c.sum_besides-after.ensures.is (besides_fits c.args.facts.protocol c.write_header.new.header (c.word_at.result - 20) (omega (arith, count)));
      sum = rw (c.sum_besides-before.ensures.is, count) (right_body c.args.facts.protocol h b t.body);
    }

pub returns : goal.returns
unfolding sent
returns c =
    let h : List ℕ = c.unwrap.result.0.now in
    let b : List ℕ = c.unwrap.result.1.now in
    let h-is : h ≡ header_of c.args.packet.now = grind (arith, common_steps) in
    let b-is : b ≡ body_of c.args.packet.now = grind (arith, common_steps) in
    let t : Readable c.args.facts.protocol h b = tests c.args.packet.now c.args.facts h b c.requires h-is b-is in
    let count : c.word_at.result - 20 ≡ length b = omega (arith, plain_length h b t.plain) in
    cc (c.write_header.ensures, c.write_body.ensures, c.sum_besides-after.ensures.is, count, h-is, b-is)
