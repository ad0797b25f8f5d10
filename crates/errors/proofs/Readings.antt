-- What it means that a message was read, taken apart and put together again.
use Rattle.std.proofs.Common.{Bool, cond, ◌≡◌, ℕ, ◌<◌, ◌≤◌, true, ◌&&◌, eqb, leb, List, length, drop, Ok, Err, Result, ap, ◌∙◌, arith}
use Rattle.std.proofs.lemmas.List.{drop-drop, length-drop}
use Rattle.std.proofs.lemmas.Bool.{leb-true}
use Rattle.std.proofs.lemmas.Bool.Decides.{nat_tests}
use Rattle.blocks.specs.declared.refusal.Refusal.{Refusal}
use Rattle.blocks.specs.declared.refusal.Refusal.TheVariants.{UnknownProtocol}
use Rattle.mappings.specs.declared.event.Protocol.{Protocol}
use Rattle.packets.specs.declared.facts.Facts.{Facts}
use Rattle.packets.specs.declared.facts.Heading.{Heading}
use Rattle.packets.specs.declared.facts.Reading.{Reading}
use Rattle.packets.specs.Fields.{header_of, body_of, version_and_length, protocol_number, icmp_kind}
use Rattle.packets.specs.Reading.{is_error, read_of}
use Rattle.packets.proofs.Readable.{ReadError, was_error}
use Rattle.errors.specs.declared.notice.Quote.{Quote}
use Rattle.errors.specs.declared.notice.Notice.{Notice}
use Rattle.packets.specs.declared.facts.Reading.TheVariants.{Packet, Error}
use Rattle.errors.specs.Quotes.{fragment_offset, protocol_of, quote_as, quote_in, quote_of, quote_or, quoted_in}
use Rattle.errors.specs.Messages.{message_in, with_quote}

-- an error has 28 bytes of its own
pub error_long : (bs : List ℕ) (d : Heading) → read_of bs ≡ Ok (Error d) → 28 ≤ length bs
error_long bs d e =
    let r : ReadError bs d = was_error bs d e in
    omega (arith, leb-true 8 (length (body_of bs)) r.fits, length-drop 20 bs)

-- and its kind is not 0
pub kind_some : (b : List ℕ) → is_error b ≡ true → 0 < icmp_kind b
kind_some b e = grind (arith, nat_tests)

-- READ AS A PACKET, and the other way round
packet_parts : (r : Result (Reading Heading) Refusal) (q : Result Quote Refusal) (f : Facts) → with_quote r q ≡ Ok (Packet f) → r ≡ Ok (Packet f)
packet_parts (Ok (Packet g)) q f e = cc
packet_parts (Ok (Error h)) (Ok q) f e = cc
packet_parts (Ok (Error h)) (Err d) f e = cc
packet_parts (Err d) q f e = cc

pub was_packet : (bs : List ℕ) (f : Facts) → message_in bs ≡ Ok (Packet f) → read_of bs ≡ Ok (Packet f)
unfolding message_in
was_packet bs f e = packet_parts (read_of bs) (quoted_in (quote_in bs)) f e

pub is_packet : (bs : List ℕ) (f : Facts) → read_of bs ≡ Ok (Packet f) → message_in bs ≡ Ok (Packet f)
unfolding message_in
is_packet bs f e = ap (λ r. with_quote r (quoted_in (quote_in bs))) e

-- READ AS AN ERROR, and the other way round
notice_parts : (r : Result (Reading Heading) Refusal) (q : Result Quote Refusal) (x : Notice) → with_quote r q ≡ Ok (Error x) → (r ≡ Ok (Error x.heading)) × (q ≡ Ok x.quote)
notice_parts (Ok (Packet g)) q x e = cc
notice_parts (Ok (Error h)) (Ok q) x e = (cc, cc)
notice_parts (Ok (Error h)) (Err d) x e = cc
notice_parts (Err d) q x e = cc

pub was_notice : (bs : List ℕ) (x : Notice) → message_in bs ≡ Ok (Error x) → (read_of bs ≡ Ok (Error x.heading)) × (quoted_in (quote_in bs) ≡ Ok x.quote)
unfolding message_in
was_notice bs x e = notice_parts (read_of bs) (quoted_in (quote_in bs)) x e

pub is_notice : (bs : List ℕ) (h : Heading) (q : Quote) → read_of bs ≡ Ok (Error h) → quoted_in (quote_in bs) ≡ Ok q → message_in bs ≡ Ok (Error (record { heading = h; quote = q }))
unfolding message_in
is_notice bs h q r e = ap (λ a. with_quote a (quoted_in (quote_in bs))) r ∙ ap (λ a. with_quote (Ok (Error h)) a) e

-- QUOTED, and the other way round
pub record Quoted (q : List ℕ) (x : Quote) : Type 0 where
  pub long : 28 ≤ length q
  pub start : (eqb (version_and_length (header_of q)) 0x45 && eqb (fragment_offset (header_of q)) 0) ≡ true
  pub protocol : protocol_of (protocol_number (header_of q)) (icmp_kind (body_of q)) ≡ Ok x.protocol
  pub is : x ≡ quote_of x.protocol (header_of q) (body_of q)

passed : {A : Type 0} (a b : Bool) (x : Result A Refusal) (d : Refusal) (y : A) → cond a (cond b x (Err d)) (Err d) ≡ Ok y → (a ≡ true) × (b ≡ true) × (x ≡ Ok y)
passed a b x d y e = grind (arith, nat_tests)

of_protocol : (r : Result Protocol Refusal) (h b : List ℕ) (x : Quote) → quote_or r h b ≡ Ok x → (r ≡ Ok x.protocol) × (x ≡ quote_of x.protocol h b)
of_protocol (Ok p) h b x e = grind arith
of_protocol (Err d) h b x e = cc

pub was_quoted : (q : List ℕ) (x : Quote) → quoted_in q ≡ Ok x → Quoted q x
unfolding quoted_in quote_as
was_quoted q x e =
    let h : List ℕ = header_of q in
    let b : List ℕ = body_of q in
    let test : Bool = eqb (version_and_length h) 0x45 && eqb (fragment_offset h) 0 in
    let t = passed (leb 28 (length q)) test (quote_or (protocol_of (protocol_number h) (icmp_kind b)) h b) UnknownProtocol x e in
    let o = of_protocol (protocol_of (protocol_number h) (icmp_kind b)) h b x t.2 in
    record { long = leb-true 28 (length q) t.0; start = t.1; protocol = o.0; is = o.1 }

pub is_quoted : (q : List ℕ) (x : Quote) → Quoted q x → quoted_in q ≡ Ok x
unfolding quoted_in quote_as
is_quoted q x t = grind (arith, nat_tests, t.start, t.is)

-- the quote stands 8 bytes behind the header
pub quote_behind : (bs : List ℕ) → drop 8 (body_of bs) ≡ quote_in bs
quote_behind bs = drop-drop 8 20 bs
