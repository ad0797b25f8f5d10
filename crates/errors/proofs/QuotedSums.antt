-- A quoted sum that was moved is off by as much as it was, and right if it was right.
use Rattle.std.proofs.Common.{◌≡◌, ℕ, ◌+◌, ◌*◌, ◌%◌, ◌<◌, ◌≤◌, true, not, eqb, leb, ◌⊎◌, List, length, Ok, sym, refl, ap, ◌∙◌, subst, inl, inr, arith}
use Rattle.std.proofs.lemmas.Bool.Decides.{nat_tests}
use Rattle.std.proofs.lemmas.List.{length-drop}
use Rattle.std.proofs.lemmas.Bool.{and_parts, and_right, cond-false, cond-true, eq-eqb, eqb-true, not_from_true}
use Rattle.sums.specs.Words.{byte_at, word_at, put_word, put_long, word_sum}
use Rattle.sums.specs.Sums.{moved, ones}
use Rattle.sums.specs.Laws.{Edit}
use Rattle.sums.proofs.Carries.{ones_cases}
use Rattle.sums.proofs.WordSums.{sum_first}
use Rattle.sums.proofs.Edits.{length_put, sum_put, word_above, word_below, word_same}
use Rattle.sums.proofs.Moves.{left_out}
use Rattle.mappings.specs.declared.event.Protocol.{Protocol}
use Rattle.mappings.specs.declared.event.Protocol.TheVariants.{Udp, Tcp, Echo}
use Rattle.packets.specs.declared.facts.End.{End}
use Rattle.packets.specs.declared.facts.End.TheVariants.{Source, Destination}
use Rattle.packets.specs.declared.facts.Endpoint.{Endpoint}
use Rattle.packets.specs.Fields.{header_of, body_of, address_at, icmp_kind, opposite, port_at, protocol_number, pseudo_sum, sum_at, address_sum, halves}
use Rattle.packets.specs.Writing.{besides, has_no_sum, is_absent, respelled}
use Rattle.packets.proofs.Accepted.{length_header}
use Rattle.packets.specs.declared.facts.Reading.TheVariants.{Packet, Error}
use Rattle.errors.specs.declared.notice.Quote.{Quote}
use Rattle.errors.specs.Requoting.{counted, has_sum, requoted, requoted_body, requoted_header}
use Rattle.errors.specs.Quotes.{protocol_of, quote_in}
use Rattle.errors.specs.Laws.{AsRight, QuotedSums, QuotedSumsStayRight}
use Rattle.errors.proofs.Readings.{Quoted}
use Rattle.errors.proofs.Changes.{body_edit, header_edit, sum_apart}
use Rattle.errors.proofs.Requoted.{body_quoted, header_quoted, quoted_body_there, quoted_header_byte, quoted_header_there, quoted_low_byte, spelled_sum}
use Rattle.errors.proofs.Again.{quote_left, quote_read}

as_right : (before after : ℕ) → after % 65535 ≡ before % 65535 → 0 < after → AsRight before after
as_right before after off some = record {
  off = omega arith;
  still = λ r. eq-eqb (ones after) 65535 (omega (arith, eqb-true (ones before) 65535 r, ones_cases before, ones_cases after));
}

-- THE HEADER: X is the sum of all words after, x before
header_settled : (X x a w n : ℕ) → X + (a + w) ≡ x + (n + moved w a n) → X % 65535 ≡ x % 65535
header_settled X x a w n e = omega arith

header_off : (e : End) (a : ℕ) (h : List ℕ) → length h ≡ 20 → word_sum (requoted_header e a h) % 65535 ≡ word_sum h % 65535
header_off e a h l =
    header_settled (word_sum (requoted_header e a h)) (word_sum h) (address_sum e h) (word_at h 10) (halves a)
    (header_edit e a (moved (word_at h 10) (address_sum e h) (halves a)) h l).sum

-- WHAT COUNTS BESIDES THE BODY
words_put : (a s at : ℕ) (h : List ℕ) → 11 < at → at + 3 < length h →
    word_at (put_word (put_long h at a) 10 s) at + word_at (put_word (put_long h at a) 10 s) (at + 2) ≡ halves a
words_put a s at h behind within = grind (arith, word_above, word_below, word_same, length_put)

words_stay : (e : End) (a : ℕ) (h : List ℕ) (at : ℕ) → 11 < at → (at + 3 < address_at e) ⊎ (address_at e + 3 < at) →
    word_at (requoted_header e a h) at + word_at (requoted_header e a h) (at + 2) ≡ word_at h at + word_at h (at + 2)
words_stay e a h at behind apart = grind (arith, quoted_header_byte e a h)

pseudo_moved : (e : End) (a : ℕ) (h : List ℕ) (count : ℕ) → length h ≡ 20 → pseudo_sum (requoted_header e a h) count + address_sum e h ≡ pseudo_sum h count + halves a
pseudo_moved Source a h count l =
    omega (
      arith,
      words_put a (moved (word_at h 10) (address_sum Source h) (halves a)) 12 h (omega arith) (omega arith),
      words_stay Source a h 16 (omega arith) (inr (omega arith)),
      quoted_low_byte Source a h 9 (omega arith),
    )
pseudo_moved Destination a h count l =
    omega (
      arith,
      words_put a (moved (word_at h 10) (address_sum Destination h) (halves a)) 16 h (omega arith) (omega arith),
      words_stay Destination a h 12 (omega arith) (inl (omega arith)),
      quoted_low_byte Destination a h 9 (omega arith),
    )

besides_moved : (p : Protocol) (e : End) (a : ℕ) (h : List ℕ) (count : ℕ) → length h ≡ 20 →
    besides p (requoted_header e a h) count + counted p (address_sum e h) ≡ besides p h count + counted p (halves a)
besides_moved Udp e a h count l = pseudo_moved e a h count l
besides_moved Tcp e a h count l = pseudo_moved e a h count l
besides_moved Echo e a h count l = refl

-- THE BODY: P and p are what counts besides it, after and before
pub respelled_off : (p : Protocol) (c s : ℕ) → respelled p c s % 65535 ≡ c % 65535
respelled_off p c s = grind (arith, nat_tests)

pub sum_settled : (s w g n : ℕ) → s % 65535 ≡ moved w g n % 65535 → (s + n) % 65535 ≡ (w + g) % 65535
sum_settled s w g n e = omega arith

same_off : (A B u v : ℕ) → A + u ≡ B + v → v % 65535 ≡ u % 65535 → A % 65535 ≡ B % 65535
same_off A B u v e o = omega arith

body_settled : (P p X x g n port new w s rest : ℕ) → P + g ≡ p + n → X + (port + w) ≡ x + (new + s) → s % 65535 ≡ moved w (g + port) (n + new) % 65535 →
    (P + X + rest) % 65535 ≡ (p + x + rest) % 65535
body_settled P p X x g n port new w s rest beside edit sum =
    let off : (s + (n + new)) % 65535 ≡ (w + (g + port)) % 65535 = sum_settled s w (g + port) (n + new) sum in
    let whole : P + X + rest + (w + (g + port)) ≡ p + x + rest + (s + (n + new)) = omega (arith, beside, edit) in
    same_off (P + X + rest) (p + x + rest) (w + (g + port)) (s + (n + new)) whole off

module _ (p : Protocol) (e : End) (gone new port : ℕ) (b : List ℕ) (long : 8 ≤ length b) (has : has_sum p b ≡ true) where
  pub sum_within : sum_at p + 1 < length b
  sum_within = grind (arith, nat_tests)

  -- the body with its new sum in place
  pub body_put : requoted_body p e gone new port b ≡ put_word (put_word b (port_at p e) port) (sum_at p) (spelled_sum p e gone new port b)
  body_put = cond-true (has_sum p b) _ _ has

  body_edited : Edit b (requoted_body p e gone new port b) (word_at b (port_at p e) + word_at b (sum_at p)) (port + spelled_sum p e gone new port b)
  body_edited =
      let P : List ℕ → Type 0 = λ xs. Edit b xs (word_at b (port_at p e) + word_at b (sum_at p)) (port + spelled_sum p e gone new port b) in
      subst P (sym body_put) (body_edit p e port b long (spelled_sum p e gone new port b) sum_within)

  body_off : (P q rest : ℕ) → P + gone ≡ q + new → (P + word_sum (requoted_body p e gone new port b) + rest) % 65535 ≡ (q + word_sum b + rest) % 65535
  body_off P q rest beside =
      body_settled P q (word_sum (requoted_body p e gone new port b)) (word_sum b) gone new (word_at b (port_at p e)) port (word_at b (sum_at p)) (spelled_sum p e gone new port b) rest
      beside body_edited.sum
      (respelled_off p (moved (word_at b (sum_at p)) (gone + word_at b (port_at p e)) (new + port)) (word_sum (put_word (put_word b (port_at p e) port) (sum_at p) 0)))

-- the words of an echo are never all 0, once its sum is spelled
echo_spelled : (m t : ℕ) → 0 < t + respelled Echo m t
echo_spelled m t = grind (arith, nat_tests)

echo_some : (e : End) (gone new port : ℕ) (b : List ℕ) (long : 8 ≤ length b) → has_sum Echo b ≡ true → 0 < word_sum (requoted_body Echo e gone new port b)
echo_some e gone new port b long has =
    let c : List ℕ = put_word b (port_at Echo e) port in
    let s : ℕ = spelled_sum Echo e gone new port b in
    let within : 2 * 1 + 1 < length c = omega (arith, length_put b (port_at Echo e) port) in
    omega (
      arith,
      ap word_sum (body_put Echo e gone new port b long has),
      sum_put 1 c s within,
      left_out 1 c within,
      echo_spelled (moved (word_at b 2) (gone + word_at b (port_at Echo e)) (new + port)) (word_sum (put_word c 2 0)),
    )

-- all that counts is more than nothing
counts : (p : Protocol) (e : End) (gone new port a : ℕ) (h b : List ℕ) (count rest : ℕ) → 8 ≤ length b → has_sum p b ≡ true →
    protocol_of (protocol_number h) (icmp_kind b) ≡ Ok p → 0 < besides p (requoted_header e a h) count + word_sum (requoted_body p e gone new port b) + rest
counts Udp e gone new port a h b count rest long has is = grind (arith, nat_tests, quoted_low_byte e a h 9)
counts Tcp e gone new port a h b count rest long has is = grind (arith, nat_tests, quoted_low_byte e a h 9)
counts Echo e gone new port a h b count rest long has is = omega (arith, echo_some e gone new port b long has)

-- THE QUOTE
pub quote_sums : (e : End) (n : Endpoint) (q : List ℕ) (x : Quote) → Quoted q x → QuotedSums x.protocol q (requoted x.protocol e n q)
quote_sums e n q x t =
    let p : Protocol = x.protocol in
    let h : List ℕ = header_of q in
    let b : List ℕ = body_of q in
    let H : List ℕ = header_quoted p e n q in
    let B : List ℕ = body_quoted p e n q in
    let g : ℕ = counted p (address_sum e h) in
    let k : ℕ = counted p (halves n.address) in
    let header : header_of (requoted p e n q) ≡ H = quoted_header_there p e n q t.long in
    let body : body_of (requoted p e n q) ≡ B = quoted_body_there p e n q t.long in
    let l : length h ≡ 20 = length_header q (omega arith) in
    let long : 8 ≤ length b = omega (arith, length-drop 20 q) in
    let version : byte_at h 0 ≡ 0x45 = eqb-true (byte_at h 0) 0x45 (and_parts (eqb (byte_at h 0) 0x45) _ t.start).0 in
    let some : 0 < word_sum H = omega (arith, sum_first H, quoted_low_byte e n.address h 0 (omega arith), version) in
    record {
      header = subst (λ f. AsRight (word_sum h) (word_sum f)) (sym header) (as_right (word_sum h) (word_sum H) (header_off e n.address h l) some);
      body = λ count rest has.
          subst (λ f. AsRight (besides p h count + word_sum b + rest) (besides p f count + word_sum (body_of (requoted p e n q)) + rest)) (sym header)
          (subst (λ c. AsRight (besides p h count + word_sum b + rest) (besides p H count + word_sum c + rest)) (sym body)
          (as_right (besides p h count + word_sum b + rest) (besides p H count + word_sum B + rest)
          (body_off p e g k n.port b long has (besides p H count) (besides p h count) rest (besides_moved p e n.address h count l))
          (counts p e g k n.port n.address h b count rest long has t.protocol)));
      none = λ none.
          let ported : B ≡ put_word b (port_at p e) n.port =
          cond-false (has_sum p b) _ _ (and_right (leb (sum_at p + 2) (length b)) (not (has_no_sum p b)) (not_from_true (has_no_sum p b) none)) in
          ap (λ c. is_absent p (word_at c (sum_at p))) (body ∙ ported) ∙ (ap (λ w. is_absent p w) (sum_apart p e n.port b long) ∙ none);
    }

pub quoted_sums_stay_right : QuotedSumsStayRight
quoted_sums_stay_right bs (Packet f) hops e n m = tt
quoted_sums_stay_right bs (Error x) hops e n m =
    subst (λ q. QuotedSums x.quote.protocol (quote_in bs) q) (sym (quote_left bs x hops e n m)) (quote_sums (opposite e) n (quote_in bs) x.quote (quote_read bs x hops e n m))
