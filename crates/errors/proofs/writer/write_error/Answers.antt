-- An error that was read has the lengths, the kind and the right sums that its parts are written by.
use Rattle.std.proofs.Common.{◌≡◌, ℕ, List, Ok, refl, arith}
use Rattle.std.proofs.lemmas.Grind.{common_steps}
use Rattle.std.proofs.lemmas.List.{length-drop}
use Rattle.packets.specs.declared.facts.Reading.TheVariants.{Error}
use Rattle.packets.specs.Fields.{header_of, body_of}
use Rattle.packets.proofs.Readable.{ReadError, was_error}
use Rattle.packets.proofs.Accepted.{plain_version}
use Rattle.errors.specs.declared.notice.Notice.{Notice}
use Rattle.errors.specs.Messages.{message_in}
use Rattle.errors.specs.Quotes.{quote_in}
use Rattle.errors.specs.Requoting.{left}
use Rattle.errors.proofs.Readings.{Quoted, kind_some, was_notice, was_quoted}
use Rattle.errors.proofs.writer.write_error.Goals as goal

module _ (bs : List ℕ) (x : Notice) (m : message_in bs ≡ Ok (Error x)) where
  own : ReadError bs x.heading
  own = was_error bs x.heading (was_notice bs x m).0

pub unwrap-requires : goal.unwrap-requires
unwrap-requires c = grind (arith, common_steps, (own c.args.packet.now c.args.notice c.requires).long)

pub write_header-requires : goal.write_header-requires
write_header-requires c =
    let bs : List ℕ = c.args.packet.now in
    let r : ReadError bs c.args.notice.heading = own bs c.args.notice c.requires in
    let h-is : c.unwrap.result.0.now ≡ header_of bs = grind (arith, common_steps) in
    rw h-is (record { version = plain_version (header_of bs) (body_of bs) r.plain; sum = r.header })

pub write_message-requires : goal.write_message-requires
write_message-requires c =
    let bs : List ℕ = c.args.packet.now in
    let r : ReadError bs c.args.notice.heading = own bs c.args.notice c.requires in
    let q : Quoted (quote_in bs) c.args.notice.quote = was_quoted (quote_in bs) c.args.notice.quote (was_notice bs c.args.notice c.requires).1 in
    let b-is : c.unwrap.result.1.now ≡ body_of bs = grind (arith, common_steps) in
    rw b-is (record {
      long = omega (arith, q.long, length-drop 28 bs, length-drop 20 bs);
      kind = kind_some (body_of bs) r.kind;
      sum = r.body;
    })

pub returns : goal.returns
unfolding left
returns c =
    let h-is : c.unwrap.result.0.now ≡ header_of c.args.packet.now = grind (arith, common_steps) in
    let b-is : c.unwrap.result.1.now ≡ body_of c.args.packet.now = grind (arith, common_steps) in
    rw (c.write_header.ensures, c.write_message.ensures, c.quoted.ensures, h-is, b-is) refl
