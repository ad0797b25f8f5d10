-- What leaves is read again, with the new facts.
use Rattle.std.proofs.Common.{◌≡◌, ℕ, ◌≤◌, true, ◌||◌, eqb, List, ◌++◌, length, drop, Ok, sym, refl, ap, ◌∙◌, subst, arith}
use Rattle.std.proofs.lemmas.List.{drop_at, length-append, length-drop, take_at}
use Rattle.std.proofs.lemmas.Bool.{le-leb}
use Rattle.sums.specs.Words.{byte_at, word_sum}
use Rattle.sums.specs.Sums.{right}
use Rattle.packets.specs.declared.facts.End.{End}
use Rattle.packets.specs.declared.facts.End.TheVariants.{Source, Destination}
use Rattle.packets.specs.declared.facts.Endpoint.{Endpoint}
use Rattle.packets.specs.declared.facts.Facts.{Facts}
use Rattle.packets.specs.declared.facts.Heading.{Heading}
use Rattle.packets.specs.Fields.{header_of, body_of, opposite, payload_of, protocol_number}
use Rattle.packets.specs.Reading.{heading_of, is_error, plain_header, read_of}
use Rattle.packets.specs.Writing.{sent, sent_header}
use Rattle.packets.proofs.Readable.{ReadError, is_error_lem, was_error}
use Rattle.packets.proofs.Accepted.{length_header}
use Rattle.packets.proofs.Headers.{length_sent_header}
use Rattle.packets.proofs.SentHeaders.{address_put, address_stays, header_right, header_ttl, low_byte, plain_sent}
use Rattle.packets.specs.Laws.{relocated}
use Rattle.packets.proofs.Again as packets
use Rattle.errors.specs.declared.notice.Notice.{Notice}
use Rattle.packets.specs.declared.facts.Reading.TheVariants.{Packet, Error}
use Rattle.errors.specs.Quotes.{quote_in, quoted_in}
use Rattle.errors.specs.Messages.{message_in}
use Rattle.errors.specs.Requoting.{error_body, left, requoted}
use Rattle.errors.specs.Relocating.{relocated_heading, relocated_message, relocated_quote}
use Rattle.errors.specs.Laws.{ReadAgain}
use Rattle.errors.proofs.Readings.{Quoted, is_notice, is_packet, quote_behind, was_notice, was_packet, was_quoted}
use Rattle.errors.proofs.Requoted.{quoted_again}
use Rattle.errors.proofs.ErrorBodies.{error_front, error_right, length_error_body, quote_there}

pub packet_left : (hops : ℕ) (f : Facts) (e : End) (n : Endpoint) (bs : List ℕ) → left hops (Packet f) e n bs ≡ sent hops f.protocol e n bs
unfolding left
packet_left hops f e n bs = refl

-- the new heading
same_heading : {s s' d d' t t' : ℕ} → s ≡ s' → d ≡ d' → t ≡ t' →
    ◌≡◌ {A = Heading} (record { source = s; destination = d; ttl = t }) (record { source = s'; destination = d'; ttl = t' })
same_heading s d t = cc

heading_sent : (hops : ℕ) (e : End) (a : ℕ) (h : List ℕ) → length h ≡ 20 → relocated_heading hops e a (heading_of h) ≡ heading_of (sent_header hops e a h)
heading_sent hops Source a h l =
    same_heading (sym (address_put hops Source a h l)) (sym (address_stays hops Source a h)) (sym (header_ttl hops Source a h l))
heading_sent hops Destination a h l =
    same_heading (sym (address_stays hops Destination a h)) (sym (address_put hops Destination a h l)) (sym (header_ttl hops Destination a h l))

-- an error keeps its kind
same_kind : (b c : List ℕ) → byte_at c 0 ≡ byte_at b 0 → is_error b ≡ true → is_error c ≡ true
same_kind b c e t = ap (λ k. eqb k 3 || eqb k 4 || eqb k 11 || eqb k 12) e ∙ t

module _ (bs : List ℕ) (x : Notice) (hops : ℕ) (e : End) (n : Endpoint) where
  -- the error that leaves, as its two parts
  abbrev pub header_left : List ℕ
  header_left = sent_header hops e n.address (header_of bs)

  abbrev pub body_left : List ℕ
  body_left = error_body x.quote.protocol (opposite e) n (body_of bs)

  pub left_parts : left hops (Error x) e n bs ≡ header_left ++ body_left
  unfolding left
  left_parts = refl

  module _ (m : message_in bs ≡ Ok (Error x)) where
    pub own_read : ReadError bs x.heading
    own_read = was_error bs x.heading (was_notice bs x m).0

    pub quote_read : Quoted (quote_in bs) x.quote
    quote_read = was_quoted (quote_in bs) x.quote (was_notice bs x m).1

    pub body_long : 36 ≤ length (body_of bs)
    body_long = omega (arith, quote_read.long, length-drop 28 bs, length-drop 20 bs)

    pub header_long : length header_left ≡ 20
    header_long = length_sent_header hops e n.address (header_of bs) ∙ length_header bs own_read.long

    pub header_there : header_of (left hops (Error x) e n bs) ≡ header_left
    header_there = ap header_of left_parts ∙ take_at header_left body_left 20 header_long

    pub body_there : body_of (left hops (Error x) e n bs) ≡ body_left
    body_there = ap body_of left_parts ∙ drop_at header_left body_left 20 header_long

    pub same_length : length body_left ≡ length (body_of bs)
    same_length = length_error_body x.quote.protocol (opposite e) n (body_of bs) body_long

    pub quote_left : quote_in (left hops (Error x) e n bs) ≡ requoted x.quote.protocol (opposite e) n (quote_in bs)
    quote_left =
        sym (quote_behind (left hops (Error x) e n bs))
        ∙ (ap (λ c. drop 8 c) body_there
        ∙ (quote_there x.quote.protocol (opposite e) n (body_of bs) body_long ∙ ap (λ q. requoted x.quote.protocol (opposite e) n q) (quote_behind bs)))

    error_again : read_of (left hops (Error x) e n bs) ≡ Ok (Error (relocated_heading hops e n.address x.heading))
    error_again =
        let out : List ℕ = left hops (Error x) e n bs in
        let H : List ℕ = header_left in
        let B : List ℕ = body_left in
        let r : ReadError bs x.heading = own_read in
        let plain : plain_header H B ≡ true = plain_sent hops e n.address (header_of bs) (body_of bs) B same_length r.plain in
        let kind : is_error B ≡ true =
        same_kind (body_of bs) B (error_front x.quote.protocol (opposite e) n (body_of bs) body_long 0 (omega arith) (omega arith) (omega arith)) r.kind in
        let heading : relocated_heading hops e n.address x.heading ≡ heading_of H =
        ap (λ d. relocated_heading hops e n.address d) r.heading ∙ heading_sent hops e n.address (header_of bs) (length_header bs r.long) in
        is_error_lem out (relocated_heading hops e n.address x.heading) (record {
          long = omega (arith, ap length left_parts, length-append H B, header_long);
          payload = ap (λ g. payload_of (protocol_number g)) header_there
              ∙ (ap payload_of (low_byte hops e n.address (header_of bs) 9 (omega arith) (omega arith)) ∙ r.payload);
          plain = subst (λ c. plain_header (header_of out) c ≡ true) (sym body_there) (subst (λ g. plain_header g B ≡ true) (sym header_there) plain);
          fits = le-leb 8 (length (body_of out)) (omega (arith, ap length body_there, same_length, body_long));
          header = subst (λ g. right (word_sum g) ≡ true) (sym header_there) (header_right hops e n.address (header_of bs) (length_header bs r.long));
          body = subst (λ c. right (word_sum c) ≡ true) (sym body_there) (error_right x.quote.protocol (opposite e) n (body_of bs) body_long);
          kind = subst (λ c. is_error c ≡ true) (sym body_there) kind;
          heading = heading ∙ ap heading_of (sym header_there);
        })

    notice_again : message_in (left hops (Error x) e n bs) ≡ Ok (relocated_message hops e n (Error x))
    notice_again =
        is_notice (left hops (Error x) e n bs) (relocated_heading hops e n.address x.heading) (relocated_quote (opposite e) n x.quote) error_again
        (ap quoted_in quote_left ∙ quoted_again (opposite e) n (quote_in bs) x.quote quote_read)

pub read_again : ReadAgain
read_again bs (Packet f) hops e n m =
    ap message_in (packet_left hops f e n bs) ∙ is_packet (sent hops f.protocol e n bs) (relocated hops e n f) (packets.read_again bs f hops e n (was_packet bs f m))
read_again bs (Error x) hops e n m = notice_again bs x hops e n m
