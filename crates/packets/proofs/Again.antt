-- What leaves is read again, with the new facts: its tests pass, and its fields are those put and those left.
use Rattle.std.proofs.Common.{◌≡◌, ℕ, ◌+◌, ◌<◌, ◌≤◌, true, ◌⊎◌, List, ◌++◌, length, Ok, sym, refl, ap, ◌∙◌, inl, inr, arith}
use Rattle.std.proofs.lemmas.Bool.Decides.{nat_tests}
use Rattle.std.proofs.lemmas.List.{drop_at, length-append, take_at}
use Rattle.sums.specs.Words.{word_at}
use Rattle.mappings.specs.declared.event.Protocol.{Protocol}
use Rattle.mappings.specs.declared.event.Protocol.TheVariants.{Udp, Tcp, Echo}
use Rattle.packets.specs.declared.facts.End.{End}
use Rattle.packets.specs.declared.facts.End.TheVariants.{Source, Destination}
use Rattle.packets.specs.declared.facts.Endpoint.{Endpoint}
use Rattle.packets.specs.declared.facts.Facts.{Facts}
use Rattle.packets.specs.declared.facts.Reading.TheVariants.{Packet}
use Rattle.packets.specs.Fields.{header_of, body_of, opposite, payload_of, port_at, pseudo_sum, sum_at}
use Rattle.packets.specs.Reading.{body_fits, body_right, facts_of, read_of}
use Rattle.packets.specs.Writing.{besides, least_of, sent, sent_body, sent_header}
use Rattle.packets.specs.Laws.{ReadAgain, other_port, relocated}
use Rattle.packets.proofs.Readable.{Read, Readable, is_read, is_own, payload_for, was_read}
use Rattle.packets.proofs.Accepted.{fits_least, length_header}
use Rattle.packets.proofs.Headers.{length_sent_header}
use Rattle.packets.proofs.Bodies.{length_sent_body}
use Rattle.packets.proofs.SentHeaders.{address_put, address_stays, header_right, header_ttl, low_byte, plain_sent}
use Rattle.packets.proofs.SentBodies.{body_byte, port_put, sum_none, sum_right}

module _ (extra port : ℕ) (b : List ℕ) where
  -- a word that shares no byte with the port and the sum
  word_stays : (p : Protocol) (e : End) (j : ℕ) → (j + 1 < port_at p e) ⊎ (port_at p e + 1 < j) → (j + 1 < sum_at p) ⊎ (sum_at p + 1 < j) →
      word_at (sent_body p e extra port b) j ≡ word_at b j
  word_stays p e j out-port out-sum = grind (arith, body_byte p e extra port b j, body_byte p e extra port b (j + 1))

  -- the other end's port
  other_port_lem : (p : Protocol) (e : End) → least_of p ≤ length b →
      word_at (sent_body p e extra port b) (port_at p (opposite e)) ≡ other_port p port (word_at b (port_at p (opposite e)))
  other_port_lem Udp Source l = word_stays Udp Source 2 (inr (omega arith)) (inl (omega arith))
  other_port_lem Udp Destination l = word_stays Udp Destination 0 (inl (omega arith)) (inl (omega arith))
  other_port_lem Tcp Source l = word_stays Tcp Source 2 (inr (omega arith)) (inl (omega arith))
  other_port_lem Tcp Destination l = word_stays Tcp Destination 0 (inl (omega arith)) (inl (omega arith))
  other_port_lem Echo Source l = port_put Echo Source extra port b l
  other_port_lem Echo Destination l = port_put Echo Destination extra port b l

  -- the lengths inside still fit
  fits_sent : (p : Protocol) (e : End) → body_fits (payload_for p) b ≡ true → body_fits (payload_for p) (sent_body p e extra port b) ≡ true
  fits_sent Udp e t = grind (arith, nat_tests, length_sent_body Udp e extra port b, word_stays Udp e 4)
  fits_sent Tcp e t = grind (arith, nat_tests, length_sent_body Tcp e extra port b, body_byte Tcp e extra port b 12)
  fits_sent Echo e t = grind (arith, nat_tests, length_sent_body Echo e extra port b)

  -- an echo stays an echo
  own_sent : (p : Protocol) (e : End) → is_own p b ≡ true → is_own p (sent_body p e extra port b) ≡ true
  own_sent Udp e t = refl
  own_sent Tcp e t = refl
  own_sent Echo e t = grind (arith, nat_tests, body_byte Echo e extra port b 0, body_byte Echo e extra port b 1)

-- the body's sum is right, where there is one
right_sent : (p : Protocol) (e : End) (h : List ℕ) (port : ℕ) (b : List ℕ) → least_of p ≤ length b →
    body_right (payload_for p) h (sent_body p e (besides p h (length b)) port b) ≡ true
right_sent Udp e h port b l =
    let x : ℕ = pseudo_sum h (length b) in
    grind (arith, nat_tests, length_sent_body Udp e x port b, sum_none Udp e x port b l, sum_right Udp e x port b l)
right_sent Tcp e h port b l =
    let x : ℕ = pseudo_sum h (length b) in
    grind (arith, nat_tests, length_sent_body Tcp e x port b, sum_right Tcp e x port b l refl)
right_sent Echo e h port b l = grind (arith, sum_right Echo e 0 port b l refl)

-- the facts of the packet that leaves
module _ (hops : ℕ) (n : Endpoint) (h b : List ℕ) (extra : ℕ) (l : length h ≡ 20) where
  facts_sent : (p : Protocol) (e : End) → least_of p ≤ length b →
      facts_of p (sent_header hops e n.address h) (sent_body p e extra n.port b) ≡ relocated hops e n (facts_of p h b)
  facts_sent p Source k =
      grind (
        arith,
        address_put hops Source n.address h l,
        port_put p Source extra n.port b k,
        address_stays hops Source n.address h,
        other_port_lem extra n.port b p Source k,
        header_ttl hops Source n.address h l,
      )
  facts_sent p Destination k =
      grind (
        arith,
        address_put hops Destination n.address h l,
        port_put p Destination extra n.port b k,
        address_stays hops Destination n.address h,
        other_port_lem extra n.port b p Destination k,
        header_ttl hops Destination n.address h l,
      )

-- the packet that leaves, as its two parts
abbrev pub header_sent : ℕ → End → Endpoint → List ℕ → List ℕ
header_sent hops e n bs = sent_header hops e n.address (header_of bs)

abbrev pub body_sent : ℕ → Protocol → End → Endpoint → List ℕ → List ℕ
body_sent hops p e n bs = sent_body p e (besides p (header_sent hops e n bs) (length (body_of bs))) n.port (body_of bs)

pub sent_parts : (hops : ℕ) (p : Protocol) (e : End) (n : Endpoint) (bs : List ℕ) → sent hops p e n bs ≡ header_sent hops e n bs ++ body_sent hops p e n bs
unfolding sent
sent_parts hops p e n bs = refl

module _ (bs : List ℕ) (f : Facts) (hops : ℕ) (e : End) (n : Endpoint) (r : Read bs f) where
  pub header_long : length (header_sent hops e n bs) ≡ 20
  header_long = length_sent_header hops e n.address (header_of bs) ∙ length_header bs r.long

  pub header_there : header_of (sent hops f.protocol e n bs) ≡ header_sent hops e n bs
  header_there = ap header_of (sent_parts hops f.protocol e n bs) ∙ take_at (header_sent hops e n bs) (body_sent hops f.protocol e n bs) 20 header_long

  pub body_there : body_of (sent hops f.protocol e n bs) ≡ body_sent hops f.protocol e n bs
  body_there = ap body_of (sent_parts hops f.protocol e n bs) ∙ drop_at (header_sent hops e n bs) (body_sent hops f.protocol e n bs) 20 header_long

  pub least_there : least_of f.protocol ≤ length (body_of bs)
  least_there = fits_least f.protocol (body_of bs) r.tests.fits

  sent_long : 20 ≤ length (sent hops f.protocol e n bs)
  sent_long =
      omega (arith, ap length (sent_parts hops f.protocol e n bs), length-append (header_sent hops e n bs) (body_sent hops f.protocol e n bs), header_long)

  sent_tests : Readable f.protocol (header_sent hops e n bs) (body_sent hops f.protocol e n bs)
  sent_tests =
      let p : Protocol = f.protocol in
      let h : List ℕ = header_of bs in
      let b : List ℕ = body_of bs in
      let x : ℕ = besides p (header_sent hops e n bs) (length b) in
      record {
        payload = ap payload_of (low_byte hops e n.address h 9 (omega arith) (omega arith)) ∙ r.tests.payload;
        plain = plain_sent hops e n.address h b (body_sent hops p e n bs) (length_sent_body p e x n.port b) r.tests.plain;
        fits = fits_sent x n.port b p e r.tests.fits;
        header = header_right hops e n.address h (length_header bs r.long);
        body = right_sent p e (header_sent hops e n bs) n.port b least_there;
        own = own_sent x n.port b p e r.tests.own;
      }

  sent_facts : facts_of f.protocol (header_sent hops e n bs) (body_sent hops f.protocol e n bs) ≡ relocated hops e n f
  sent_facts =
      facts_sent hops n (header_of bs) (body_of bs) (besides f.protocol (header_sent hops e n bs) (length (body_of bs))) (length_header bs r.long) f.protocol e least_there
      ∙ ap (λ g. relocated hops e n g) (sym r.facts)

  sent_read : read_of (sent hops f.protocol e n bs) ≡ Ok (Packet (relocated hops e n f))
  sent_read =
      let tests : Readable f.protocol (header_of (sent hops f.protocol e n bs)) (body_of (sent hops f.protocol e n bs)) = rw (header_there, body_there) sent_tests in
      is_read (sent hops f.protocol e n bs) f.protocol sent_long tests ∙ rw (header_there, body_there, sent_facts) refl

pub read_again : ReadAgain
read_again bs f hops e n read = sent_read bs f hops e n (was_read bs f read)
