-- Laws of a quote of which one end was replaced: what is read from it, and which bytes stay.
use Rattle.std.proofs.Common.{◌≡◌, ℕ, ◌+◌, ◌*◌, ◌<◌, ◌≤◌, true, ◌&&◌, eqb, ◌⊎◌, List, ◌++◌, length, Ok, sym, refl, ap, ◌∙◌, subst, inl, inr, arith}
use Rattle.std.proofs.lemmas.Bool.Decides.{nat_tests}
use Rattle.std.proofs.lemmas.List.{drop_at, length-append, length-drop, take_at}
use Rattle.std.proofs.lemmas.Bool.{cond_both}
use Rattle.sums.specs.Words.{byte_at, word_at, long_at, put_word, put_long, word_sum}
use Rattle.sums.specs.Sums.{moved}
use Rattle.sums.proofs.Edits.{byte_apart, byte_other, length_put, length_put_long, long_same, word_above, word_apart, word_same}
use Rattle.mappings.specs.declared.event.Protocol.{Protocol}
use Rattle.mappings.specs.declared.event.Protocol.TheVariants.{Udp, Tcp, Echo}
use Rattle.packets.specs.declared.facts.End.{End}
use Rattle.packets.specs.declared.facts.End.TheVariants.{Source, Destination}
use Rattle.packets.specs.declared.facts.Endpoint.{Endpoint}
use Rattle.packets.specs.Fields.{header_of, body_of, address_at, icmp_kind, opposite, port_at, protocol_number, sum_at, address_sum, halves}
use Rattle.packets.specs.Laws.{other_port}
use Rattle.packets.proofs.Accepted.{length_header}
use Rattle.errors.specs.declared.notice.Quote.{Quote}
use Rattle.errors.specs.Quotes.{fragment_offset, protocol_of, quote_of, quoted_in}
use Rattle.packets.specs.Writing.{respelled}
use Rattle.errors.specs.Requoting.{counted, has_sum, requoted, requoted_body, requoted_header}
use Rattle.errors.specs.Relocating.{relocated_quote}
use Rattle.errors.proofs.Readings.{Quoted, is_quoted}
use Rattle.errors.proofs.Changes.{Places, places}

-- the protocol is known by the number alone, but for an echo, which keeps its kind
abbrev KeepsKind : Protocol → ℕ → ℕ → Type 0
KeepsKind Udp k l = Unit {0}
KeepsKind Tcp k l = Unit {0}
KeepsKind Echo k l = l ≡ k

same_protocol_lem : (p : Protocol) (n k l : ℕ) → KeepsKind p k l → protocol_of n k ≡ Ok p → protocol_of n l ≡ Ok p
same_protocol_lem Udp n k l same e = grind (arith, nat_tests)
same_protocol_lem Tcp n k l same e = grind (arith, nat_tests)
same_protocol_lem Echo n k l same e = cc

-- THE HEADER
module _ (e : End) (a : ℕ) (h : List ℕ) where
  -- a byte that is neither of the sum nor of the address
  pub quoted_header_byte : (j : ℕ) → (j < 10) ⊎ (11 < j) → (j < address_at e) ⊎ (address_at e + 3 < j) → byte_at (requoted_header e a h) j ≡ byte_at h j
  quoted_header_byte j sum address = grind (arith, byte_other, byte_apart)

  pub length_quoted_header : length (requoted_header e a h) ≡ length h
  length_quoted_header = length_put (put_long h (address_at e) a) 10 (moved (word_at h 10) (address_sum e h) (halves a)) ∙ length_put_long h (address_at e) a

-- what stands before the sum stays
pub quoted_low_byte : (e : End) (a : ℕ) (h : List ℕ) (j : ℕ) → j < 10 → byte_at (requoted_header e a h) j ≡ byte_at h j
quoted_low_byte Source a h j low = quoted_header_byte Source a h j (inl low) (inl (omega arith))
quoted_low_byte Destination a h j low = quoted_header_byte Destination a h j (inl low) (inl (omega arith))

-- the address put is read back
put_there : (a s at : ℕ) (h : List ℕ) → 11 < at → at + 3 < length h → long_at (put_word (put_long h at a) 10 s) at ≡ a
put_there a s at h behind within = grind (arith, word_above, long_same)

quoted_address : (e : End) (a : ℕ) (h : List ℕ) → length h ≡ 20 → long_at (requoted_header e a h) (address_at e) ≡ a
quoted_address Source a h l = put_there a (moved (word_at h 10) (address_sum Source h) (halves a)) 12 h (omega arith) (omega arith)
quoted_address Destination a h l = put_there a (moved (word_at h 10) (address_sum Destination h) (halves a)) 16 h (omega arith) (omega arith)

-- and the other one stays
stays_there : (e : End) (a : ℕ) (h : List ℕ) (at : ℕ) → 11 < at → (at + 3 < address_at e) ⊎ (address_at e + 3 < at) → long_at (requoted_header e a h) at ≡ long_at h at
stays_there e a h at behind apart = grind (arith, quoted_header_byte e a h)

other_address : (e : End) (a : ℕ) (h : List ℕ) → long_at (requoted_header e a h) (address_at (opposite e)) ≡ long_at h (address_at (opposite e))
other_address Source a h = stays_there Source a h 16 (omega arith) (inr (omega arith))
other_address Destination a h = stays_there Destination a h 12 (omega arith) (inl (omega arith))

-- THE BODY
module _ (p : Protocol) (e : End) (gone new port : ℕ) (b : List ℕ) where
  -- the sum that is put, where one is
  abbrev pub spelled_sum : ℕ
  spelled_sum = respelled p (moved (word_at b (sum_at p)) (gone + word_at b (port_at p e)) (new + port)) (word_sum (put_word (put_word b (port_at p e) port) (sum_at p) 0))

  -- a byte that is neither of the port nor of the sum
  pub quoted_body_byte : (j : ℕ) → (j < port_at p e) ⊎ (port_at p e + 1 < j) → (j < sum_at p) ⊎ (sum_at p + 1 < j) → byte_at (requoted_body p e gone new port b) j ≡ byte_at b j
  quoted_body_byte j out-port out-sum = grind (arith, nat_tests, byte_other)

  pub length_quoted_body : length (requoted_body p e gone new port b) ≡ length b
  length_quoted_body = grind (arith, nat_tests, length_put)

  -- a word that shares no byte with the port and the sum
  quoted_word : (j : ℕ) → (j + 1 < port_at p e) ⊎ (port_at p e + 1 < j) → (j + 1 < sum_at p) ⊎ (sum_at p + 1 < j) →
      word_at (requoted_body p e gone new port b) j ≡ word_at b j
  quoted_word j out-port out-sum = grind (arith, quoted_body_byte j, quoted_body_byte (j + 1))

  -- the port put is read back
  pub quoted_port : 8 ≤ length b → word_at (requoted_body p e gone new port b) (port_at p e) ≡ port
  quoted_port l =
      let q : Places p e = places p e in
      let c : List ℕ = put_word b (port_at p e) port in
      let s : ℕ = spelled_sum in
      let there : word_at c (port_at p e) ≡ port = word_same b (port_at p e) port (omega (arith, q.port_is, q.near)) in
      let still : word_at (put_word c (2 * q.sum) s) (2 * q.port) ≡ word_at c (2 * q.port) = word_apart c q.sum s q.port (λ same. q.apart (sym same)) in
      let after : word_at (put_word c (sum_at p) s) (port_at p e) ≡ word_at c (port_at p e) =
      subst (λ i. word_at (put_word c i s) (port_at p e) ≡ word_at c (port_at p e)) (sym q.sum_is)
      (subst (λ i. word_at (put_word c (2 * q.sum) s) i ≡ word_at c i) (sym q.port_is) still) in
      cond_both (has_sum p b) (put_word c (sum_at p) s) c (λ xs. word_at xs (port_at p e) ≡ port) (λ _. after ∙ there) (λ _. there)

-- the other end's port
other_quoted_port : (p : Protocol) (e : End) (gone new port : ℕ) (b : List ℕ) → 8 ≤ length b →
    word_at (requoted_body p e gone new port b) (port_at p (opposite e)) ≡ other_port p port (word_at b (port_at p (opposite e)))
other_quoted_port Udp Source gone new port b l = quoted_word Udp Source gone new port b 2 (inr (omega arith)) (inl (omega arith))
other_quoted_port Udp Destination gone new port b l = quoted_word Udp Destination gone new port b 0 (inl (omega arith)) (inl (omega arith))
other_quoted_port Tcp Source gone new port b l = quoted_word Tcp Source gone new port b 2 (inr (omega arith)) (inl (omega arith))
other_quoted_port Tcp Destination gone new port b l = quoted_word Tcp Destination gone new port b 0 (inl (omega arith)) (inl (omega arith))
other_quoted_port Echo Source gone new port b l = quoted_port Echo Source gone new port b l
other_quoted_port Echo Destination gone new port b l = quoted_port Echo Destination gone new port b l

-- an echo keeps its kind
keeps_kind : (p : Protocol) (e : End) (gone new port : ℕ) (b : List ℕ) → KeepsKind p (icmp_kind b) (icmp_kind (requoted_body p e gone new port b))
keeps_kind Udp e gone new port b = tt
keeps_kind Tcp e gone new port b = tt
keeps_kind Echo Source gone new port b = quoted_body_byte Echo Source gone new port b 0 (inl (omega arith)) (inl (omega arith))
keeps_kind Echo Destination gone new port b = quoted_body_byte Echo Destination gone new port b 0 (inl (omega arith)) (inl (omega arith))

-- THE QUOTE
module _ (gone new : ℕ) (n : Endpoint) (h b : List ℕ) (l : length h ≡ 20) (k : 8 ≤ length b) where
  quote_relocated : (p : Protocol) (e : End) → relocated_quote e n (quote_of p h b) ≡ quote_of p (requoted_header e n.address h) (requoted_body p e gone new n.port b)
  quote_relocated p Source =
      grind (
        arith,
        quoted_address Source n.address h l,
        quoted_port p Source gone new n.port b k,
        other_address Source n.address h,
        other_quoted_port p Source gone new n.port b k,
      )
  quote_relocated p Destination =
      grind (
        arith,
        quoted_address Destination n.address h l,
        quoted_port p Destination gone new n.port b k,
        other_address Destination n.address h,
        other_quoted_port p Destination gone new n.port b k,
      )

module _ (p : Protocol) (e : End) (n : Endpoint) (q : List ℕ) where
  abbrev pub header_quoted : List ℕ
  header_quoted = requoted_header e n.address (header_of q)

  abbrev pub body_quoted : List ℕ
  body_quoted = requoted_body p e (counted p (address_sum e (header_of q))) (counted p (halves n.address)) n.port (body_of q)

  pub quote_parts : requoted p e n q ≡ header_quoted ++ body_quoted
  unfolding requoted
  quote_parts = refl

  module _ (long : 28 ≤ length q) where
    pub quoted_header_long : length header_quoted ≡ 20
    quoted_header_long = length_quoted_header e n.address (header_of q) ∙ length_header q (omega arith)

    pub quoted_header_there : header_of (requoted p e n q) ≡ header_quoted
    quoted_header_there = ap header_of quote_parts ∙ take_at header_quoted body_quoted 20 quoted_header_long

    pub quoted_body_there : body_of (requoted p e n q) ≡ body_quoted
    quoted_body_there = ap body_of quote_parts ∙ drop_at header_quoted body_quoted 20 quoted_header_long

    pub length_requoted : length (requoted p e n q) ≡ length q
    length_requoted =
        omega (
          arith,
          ap length quote_parts,
          length-append header_quoted body_quoted,
          quoted_header_long,
          length_quoted_body p e (counted p (address_sum e (header_of q))) (counted p (halves n.address)) n.port (body_of q),
          length-drop 20 q,
        )

pub quoted_again : (e : End) (n : Endpoint) (q : List ℕ) (x : Quote) → Quoted q x → quoted_in (requoted x.protocol e n q) ≡ Ok (relocated_quote e n x)
quoted_again e n q x t =
    let p : Protocol = x.protocol in
    let h : List ℕ = header_of q in
    let b : List ℕ = body_of q in
    let Q : List ℕ = requoted p e n q in
    let H : List ℕ = header_quoted p e n q in
    let B : List ℕ = body_quoted p e n q in
    let gone : ℕ = counted p (address_sum e h) in
    let new : ℕ = counted p (halves n.address) in
    let header : header_of Q ≡ H = quoted_header_there p e n q t.long in
    let body : body_of Q ≡ B = quoted_body_there p e n q t.long in
    let stays : (j : ℕ) → j < 10 → byte_at H j ≡ byte_at h j = λ j low. quoted_low_byte e n.address h j low in
    let version : byte_at H 0 ≡ byte_at h 0 = stays 0 (omega arith) in
    let flags : byte_at H 6 ≡ byte_at h 6 = stays 6 (omega arith) in
    let offset : byte_at H 7 ≡ byte_at h 7 = stays 7 (omega arith) in
    let number : byte_at H 9 ≡ byte_at h 9 = stays 9 (omega arith) in
    let protocol : protocol_of (protocol_number H) (icmp_kind B) ≡ Ok p =
    ap (λ i. protocol_of i (icmp_kind B)) number ∙ same_protocol_lem p (protocol_number h) (icmp_kind b) (icmp_kind B) (keeps_kind p e gone new n.port b) t.protocol in
    let start : (eqb (byte_at H 0) 0x45 && eqb (fragment_offset H) 0) ≡ true = cc t.start in
    let is : relocated_quote e n x ≡ quote_of p H B =
    ap (λ y. relocated_quote e n y) t.is ∙ quote_relocated gone new n h b (length_header q (omega arith)) (omega (arith, length-drop 20 q)) p e in
    is_quoted Q (relocated_quote e n x) (record {
      long = omega (arith, length_requoted p e n q t.long, t.long);
      start = rw header start;
      protocol = rw (header, body) (protocol ∙ ap Ok (kept_protocol e));
      is = rw (header, body) (is ∙ ap (λ r. quote_of r H B) (kept_protocol e));
    })
  where
    kept_protocol : (e : End) → x.protocol ≡ (relocated_quote e n x).protocol
    kept_protocol Source = refl
    kept_protocol Destination = refl
