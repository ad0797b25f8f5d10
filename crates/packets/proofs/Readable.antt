-- What it means that a packet of one of the three protocols was read, taken apart and put together again.
use Rattle.std.proofs.Common.{◌≡◌, ℕ, ◌≤◌, Bool, true, cond, ◌&&◌, leb, List, length, Ok, Err, Result, arith}
use Rattle.std.proofs.lemmas.Bool.{leb-true}
use Rattle.std.proofs.lemmas.Bool.Decides.{nat_tests}
use Rattle.blocks.specs.declared.refusal.Refusal.{Refusal}
use Rattle.blocks.specs.declared.refusal.Refusal.TheVariants.{BadHeader, WrongSum}
use Rattle.sums.specs.Words.{word_sum}
use Rattle.sums.specs.Sums.{right}
use Rattle.packets.specs.declared.facts.Payload.{Payload}
use Rattle.packets.specs.declared.facts.Payload.TheVariants.{Datagram, Segment, Message, Other}
use Rattle.mappings.specs.declared.event.Protocol.{Protocol}
use Rattle.mappings.specs.declared.event.Protocol.TheVariants.{Udp, Tcp, Echo}
use Rattle.packets.specs.declared.facts.Facts.{Facts}
use Rattle.packets.specs.declared.facts.Heading.{Heading}
use Rattle.packets.specs.declared.facts.Reading.{Reading}
use Rattle.packets.specs.declared.facts.Reading.TheVariants.{Packet, Error}
use Rattle.packets.specs.Fields.{header_of, body_of, payload_of, protocol_number}
use Rattle.packets.specs.Reading.{plain_header, body_fits, body_right, facts_of, heading_of, is_echo, is_error, named_of, read_as, read_of}

abbrev pub payload_for : Protocol → Payload
payload_for Udp = Datagram
payload_for Tcp = Segment
payload_for Echo = Message

-- of ICMP messages only echoes
abbrev pub is_own : Protocol → List ℕ → Bool
is_own Udp b = true
is_own Tcp b = true
is_own Echo b = is_echo b

pub record Readable (p : Protocol) (h b : List ℕ) : Type 0 where
  pub payload : payload_of (protocol_number h) ≡ payload_for p
  pub plain : plain_header h b ≡ true
  pub fits : body_fits (payload_for p) b ≡ true
  pub header : right (word_sum h) ≡ true
  pub body : body_right (payload_for p) h b ≡ true
  pub own : is_own p b ≡ true

-- what is accepted has passed the tests
passed : {A : Type 0} (a b c d e : Bool) (x : Result A Refusal) (u v w : Refusal) (y : A) → cond a (cond (b && c) (cond (d && e) x (Err u)) (Err v)) (Err w) ≡ Ok y →
    (a ≡ true) × (b ≡ true) × (c ≡ true) × (d ≡ true) × (e ≡ true) × (x ≡ Ok y)
passed a b c d e x u v w y ok = grind (arith, nat_tests)

-- what was read, whatever it is, has passed the tests of what it carries, and was then named
record Through (bs : List ℕ) (x : Reading Heading) : Type 0 where
  long : 20 ≤ length bs
  plain : plain_header (header_of bs) (body_of bs) ≡ true
  fits : body_fits (payload_of (protocol_number (header_of bs))) (body_of bs) ≡ true
  header : right (word_sum (header_of bs)) ≡ true
  body : body_right (payload_of (protocol_number (header_of bs))) (header_of bs) (body_of bs) ≡ true
  name : named_of (payload_of (protocol_number (header_of bs))) (header_of bs) (body_of bs) ≡ Ok x

through : (bs : List ℕ) (x : Reading Heading) → read_of bs ≡ Ok x → Through bs x
unfolding read_of read_as
through bs x e =
    let h : List ℕ = header_of bs in
    let b : List ℕ = body_of bs in
    let y : Payload = payload_of (protocol_number h) in
    let t = passed (leb 20 (length bs)) (plain_header h b) (body_fits y b) (right (word_sum h)) (body_right y h b) (named_of y h b) WrongSum BadHeader BadHeader x e in
    record { long = leb-true 20 (length bs) t.0; plain = t.1; fits = t.2; header = t.3; body = t.4; name = t.5 }

-- READ. A packet that was read has passed every test, and its facts are those of its bytes.
pub record Read (bs : List ℕ) (f : Facts) : Type 0 where
  pub long : 20 ≤ length bs
  pub tests : Readable f.protocol (header_of bs) (body_of bs)
  pub facts : f ≡ facts_of f.protocol (header_of bs) (body_of bs)

-- what is named is of its own protocol
record Named (y : Payload) (h b : List ℕ) (f : Facts) : Type 0 where
  payload : y ≡ payload_for f.protocol
  own : is_own f.protocol b ≡ true
  facts : f ≡ facts_of f.protocol h b

named : (h b : List ℕ) (f : Facts) (y : Payload) → named_of y h b ≡ Ok (Packet f) → Named y h b f
named h b f Datagram e = grind (arith, nat_tests)
named h b f Segment e = grind (arith, nat_tests)
named h b f Message e = grind (arith, nat_tests)
named h b f Other e = grind (arith, nat_tests)

pub was_read : (bs : List ℕ) (f : Facts) → read_of bs ≡ Ok (Packet f) → Read bs f
was_read bs f e =
    let t : Through bs (Packet f) = through bs (Packet f) e in
    let n : Named (payload_of (protocol_number (header_of bs))) (header_of bs) (body_of bs) f = named (header_of bs) (body_of bs) f _ t.name in
    grind (arith, nat_tests)

-- and one that passes every test is read
pub is_read : (bs : List ℕ) (p : Protocol) → 20 ≤ length bs → Readable p (header_of bs) (body_of bs) → read_of bs ≡ Ok (Packet (facts_of p (header_of bs) (body_of bs)))
unfolding read_of read_as
is_read bs Udp long t = grind (arith, nat_tests)
is_read bs Tcp long t = grind (arith, nat_tests)
is_read bs Echo long t = grind (arith, nat_tests)

-- READ AS AN ERROR. It has passed every test of an ICMP message, and is of one of the four kinds.
pub record ReadError (bs : List ℕ) (d : Heading) : Type 0 where
  pub long : 20 ≤ length bs
  pub payload : payload_of (protocol_number (header_of bs)) ≡ Message
  pub plain : plain_header (header_of bs) (body_of bs) ≡ true
  pub fits : body_fits Message (body_of bs) ≡ true
  pub header : right (word_sum (header_of bs)) ≡ true
  pub body : right (word_sum (body_of bs)) ≡ true
  pub kind : is_error (body_of bs) ≡ true
  pub heading : d ≡ heading_of (header_of bs)

-- what is named an error is a message of one of the four kinds
record NamedError (y : Payload) (h b : List ℕ) (d : Heading) : Type 0 where
  payload : y ≡ Message
  kind : is_error b ≡ true
  heading : d ≡ heading_of h

named_error : (h b : List ℕ) (d : Heading) (y : Payload) → named_of y h b ≡ Ok (Error d) → NamedError y h b d
named_error h b d Datagram e = grind (arith, nat_tests)
named_error h b d Segment e = grind (arith, nat_tests)
named_error h b d Message e = grind (arith, nat_tests)
named_error h b d Other e = grind (arith, nat_tests)

pub was_error : (bs : List ℕ) (d : Heading) → read_of bs ≡ Ok (Error d) → ReadError bs d
was_error bs d e =
    let t : Through bs (Error d) = through bs (Error d) e in
    let n : NamedError (payload_of (protocol_number (header_of bs))) (header_of bs) (body_of bs) d = named_error (header_of bs) (body_of bs) d _ t.name in
    grind (arith, nat_tests)

-- and what passes them is read as an error
pub is_error_lem : (bs : List ℕ) (d : Heading) → ReadError bs d → read_of bs ≡ Ok (Error d)
unfolding read_of read_as
is_error_lem bs d t = grind (arith, nat_tests)
