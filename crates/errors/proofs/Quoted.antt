-- What an error quotes is read as the packet was, as far as it is quoted.
use Rattle.std.proofs.Common.{◌≡◌, ℕ, ◌+◌, ◌<◌, ◌≤◌, true, false, List, length, Ok, Result, sym, refl, ap, ◌∙◌, arith}
use Rattle.std.proofs.lemmas.Bool.Decides.{nat_tests}
use Rattle.std.proofs.lemmas.List.{get_or-drop, get_or-take}
use Rattle.blocks.specs.declared.refusal.Refusal.{Refusal}
use Rattle.sums.specs.Words.{byte_at, word_at}
use Rattle.mappings.specs.declared.event.Protocol.{Protocol}
use Rattle.mappings.specs.declared.event.Protocol.TheVariants.{Udp, Tcp, Echo}
use Rattle.packets.specs.declared.facts.End.{End}
use Rattle.packets.specs.declared.facts.End.TheVariants.{Source, Destination}
use Rattle.packets.specs.declared.facts.Facts.{Facts}
use Rattle.packets.specs.Fields.{header_of, body_of, address_at, icmp_kind, payload_of, port_at, protocol_number}
use Rattle.packets.specs.Reading.{endpoint_of}
use Rattle.packets.specs.Laws.{within}
use Rattle.packets.proofs.Readable.{Read, is_own, payload_for}
use Rattle.errors.specs.declared.notice.Quote.{Quote}
use Rattle.errors.specs.Quotes.{protocol_of}
use Rattle.errors.specs.Laws.{Quotes, changes_on_the_way, quote_of_facts}
use Rattle.errors.proofs.Readings.{Quoted}

-- a packet's protocol is the one that its quote has
own_protocol : (p : Protocol) (h b : List ℕ) → payload_of (protocol_number h) ≡ payload_for p → is_own p b ≡ true → protocol_of (protocol_number h) (icmp_kind b) ≡ Ok p
own_protocol Udp h b y own = grind (arith, nat_tests)
own_protocol Tcp h b y own = grind (arith, nat_tests)
own_protocol Echo h b y own = grind (arith, nat_tests)

-- what stands behind the header's sum does not change on the way
pub settled_behind : (j : ℕ) → 11 < j → changes_on_the_way j ≡ false
settled_behind j far = grind (arith, nat_tests)

module _ (q packet : List ℕ) (s : Quotes q packet) (long : 28 ≤ length q) where
  header_quoted_lem : (j : ℕ) → j < 20 → changes_on_the_way j ≡ false → byte_at (header_of q) j ≡ byte_at (header_of packet) j
  header_quoted_lem j low still = get_or-take 20 q j 0 low ∙ (s.bytes j (omega arith) still ∙ sym (get_or-take 20 packet j 0 low))

  pub body_quoted_lem : (i : ℕ) → 20 + i < length q → byte_at (body_of q) i ≡ byte_at (body_of packet) i
  body_quoted_lem i within = get_or-drop 20 q i 0 ∙ (s.bytes (20 + i) within (settled_behind (20 + i) (omega arith)) ∙ sym (get_or-drop 20 packet i 0))

  pub body_word_quoted : (i : ℕ) → 20 + i + 1 < length q → word_at (body_of q) i ≡ word_at (body_of packet) i
  body_word_quoted i within = omega (arith, body_quoted_lem i (omega arith), body_quoted_lem (i + 1) (omega arith))

  pub header_word_quoted : (i : ℕ) → 11 < i → i + 1 < 20 → word_at (header_of q) i ≡ word_at (header_of packet) i
  header_word_quoted i far low =
      omega (arith, header_quoted_lem i (omega arith) (settled_behind i far), header_quoted_lem (i + 1) (omega arith) (settled_behind (i + 1) (omega arith)))

  pub port_quoted : (p : Protocol) (e : End) → word_at (body_of q) (port_at p e) ≡ word_at (body_of packet) (port_at p e)
  port_quoted Udp Source = body_word_quoted 0 (omega arith)
  port_quoted Udp Destination = body_word_quoted 2 (omega arith)
  port_quoted Tcp Source = body_word_quoted 0 (omega arith)
  port_quoted Tcp Destination = body_word_quoted 2 (omega arith)
  port_quoted Echo Source = body_word_quoted 4 (omega arith)
  port_quoted Echo Destination = body_word_quoted 4 (omega arith)

  pub address_quoted : (e : End) → (word_at (header_of q) (address_at e) ≡ word_at (header_of packet) (address_at e)) × (word_at (header_of q) (address_at e + 2) ≡ word_at (header_of packet) (address_at e + 2))
  address_quoted Source = (header_word_quoted 12 (omega arith) (omega arith), header_word_quoted 14 (omega arith) (omega arith))
  address_quoted Destination = (header_word_quoted 16 (omega arith) (omega arith), header_word_quoted 18 (omega arith) (omega arith))

  end_quoted : (p : Protocol) (e : End) → endpoint_of p e (header_of q) (body_of q) ≡ endpoint_of p e (header_of packet) (body_of packet)
  end_quoted p e =
      let high = (address_quoted e).0 in
      let low = (address_quoted e).1 in
      let port = port_quoted p e in
      cc

  pub as_read : (f : Facts) (x : Quote) → Read packet f → Quoted q x → x ≡ quote_of_facts f
  as_read f x r t =
      let p : Protocol = f.protocol in
      let number : byte_at (header_of q) 9 ≡ byte_at (header_of packet) 9 = header_quoted_lem 9 (omega arith) refl in
      let kind : byte_at (body_of q) 0 ≡ byte_at (body_of packet) 0 = body_quoted_lem 0 (omega arith) in
      let own : protocol_of (protocol_number (header_of packet)) (icmp_kind (body_of packet)) ≡ Ok p = own_protocol p (header_of packet) (body_of packet) r.tests.payload r.tests.own in
      let quoted : protocol_of (protocol_number (header_of q)) (icmp_kind (body_of q)) ≡ Ok p =
      ap (λ i. protocol_of i (icmp_kind (body_of q))) number ∙ (ap (λ k. protocol_of (protocol_number (header_of packet)) k) kind ∙ own) in
      let both : ◌≡◌ {A = Result Protocol Refusal} (Ok x.protocol) (Ok p) = sym t.protocol ∙ quoted in
      let same : x.protocol ≡ p = cc in
      grind (arith, t.is, r.facts, same, end_quoted p Source, end_quoted p Destination)
