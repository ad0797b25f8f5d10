-- An error that quotes what had left, written by the same mapping, quotes what had come.
use Rattle.std.proofs.Common.{◌≡◌, ℕ, ◌+◌, ◌-◌, ◌%◌, ◌<◌, ◌≤◌, true, false, ◌≢◌, ◌⊎◌, List, length, take, Ok, sym, refl, ap, ◌∙◌, subst, inl, inr, arith, length-take}
use Rattle.std.proofs.lemmas.Bool.Decides.{nat_tests}
use Rattle.std.proofs.lemmas.List.{ext_get_or, get_or_append_left, get_or-append_right, get_or-drop, get_or-take, length-drop}
use Rattle.std.proofs.lemmas.Bool.{cases_eq, cond_both, cond-false}
use Rattle.sums.specs.Words.{byte_at, word_at, long_at, put_word, put_long, word_sum}
use Rattle.sums.specs.Sums.{fresh, moved}
use Rattle.sums.proofs.Edits.{byte_other, length_put, word_same}
use Rattle.mappings.specs.declared.event.Protocol.{Protocol}
use Rattle.mappings.specs.declared.event.Protocol.TheVariants.{Udp, Tcp, Echo}
use Rattle.packets.specs.declared.facts.End.{End}
use Rattle.packets.specs.declared.facts.End.TheVariants.{Source, Destination}
use Rattle.packets.specs.declared.facts.Endpoint.{Endpoint}
use Rattle.packets.specs.declared.facts.Facts.{Facts}
use Rattle.packets.specs.Fields.{header_of, body_of, address_at, opposite, port_at, pseudo_sum, sum_at, address_sum, halves}
use Rattle.packets.specs.Reading.{facts_of, read_of}
use Rattle.packets.specs.Writing.{besides, has_no_sum, is_absent, least_of, sent, sent_header, spelled, respelled}
use Rattle.packets.specs.Laws.{relocated, within}
use Rattle.packets.proofs.Readable.{Read, was_read}
use Rattle.packets.proofs.Accepted.{besides_fits, length_header, right_body}
use Rattle.packets.proofs.Bodies.{Moved, body_moved, settled}
use Rattle.packets.proofs.SentBodies.{port_put, sum_none}
use Rattle.packets.proofs.SentHeaders.{header_byte}
use Rattle.packets.proofs.Untouched as packets
use Rattle.packets.proofs.Again as sending
use Rattle.packets.proofs.Again.{body_there, body_sent, header_there, header_sent, least_there}
use Rattle.packets.specs.declared.facts.Reading.TheVariants.{Packet, Error}
use Rattle.errors.specs.Quotes.{quote_in}
use Rattle.errors.specs.Requoting.{counted, has_sum, left, requoted, requoted_body}
use Rattle.errors.specs.Relocating.{relocated_heading, relocated_quote}
use Rattle.errors.specs.Laws.{Bytes, Quotes, QuotesAgain, ThereAndBack, changes_on_the_way, end_at, quote_of_facts}
use Rattle.errors.proofs.Readings.{Quoted, was_notice, was_quoted}
use Rattle.errors.proofs.Bytes.{body_bytes, halves_there, header_bytes, high_put, long_put, low_put, word_put}
use Rattle.errors.proofs.Changes.{places}
use Rattle.errors.proofs.Requoted.{body_quoted, header_quoted, length_requoted, quote_parts, quoted_body_there, quoted_header_long, spelled_sum}
use Rattle.errors.proofs.QuotedSums.{body_put, quote_sums, quoted_sums_stay_right, respelled_off, sum_settled}
use Rattle.errors.proofs.Untouched.{Beside, quote_byte}
use Rattle.errors.proofs.Quoted.{address_quoted, as_read, body_word_quoted, port_quoted, settled_behind}
use Rattle.errors.proofs.Again.{quote_left, read_again}

both_ways : (e : End) → opposite (opposite e) ≡ e
both_ways Source = refl
both_ways Destination = refl

-- the facts are those that had come: an echo's identifier was both ports
facts_back : (p : Protocol) (e : End) (h b : List ℕ) (hops : ℕ) (n : Endpoint) →
    relocated_quote e (end_at e (facts_of p h b)) (quote_of_facts (relocated hops e n (facts_of p h b))) ≡ quote_of_facts (facts_of p h b)
facts_back Udp Source h b hops n = refl
facts_back Udp Destination h b hops n = refl
facts_back Tcp Source h b hops n = refl
facts_back Tcp Destination h b hops n = refl
facts_back Echo Source h b hops n = refl
facts_back Echo Destination h b hops n = refl

same_protocol_lem : (hops : ℕ) (e : End) (n : Endpoint) (f : Facts) → (relocated hops e n f).protocol ≡ f.protocol
same_protocol_lem hops Source n f = refl
same_protocol_lem hops Destination n f = refl

inside : (i m j : ℕ) → within i m j ≡ true → (i ≤ j) × (j < i + m)
inside i m j t = grind (arith, nat_tests)

end_address : (p : Protocol) (e : End) (h b : List ℕ) → (end_at e (facts_of p h b)).address ≡ long_at h (address_at e)
end_address p Source h b = refl
end_address p Destination h b = refl

end_port : (p : Protocol) (e : End) (h b : List ℕ) → (end_at e (facts_of p h b)).port ≡ word_at b (port_at p e)
end_port p Source h b = refl
end_port p Destination h b = refl

behind_sum : (e : End) → (11 < address_at e) × (address_at e + 3 < 20)
behind_sum Source = (omega arith, omega arith)
behind_sum Destination = (omega arith, omega arith)

-- a sum that left is never one that is not there
spelled_present : (p : Protocol) (m t : ℕ) → is_absent p (respelled p m t) ≡ false
spelled_present Udp m t = grind (arith, nat_tests)
spelled_present Tcp m t = refl
spelled_present Echo m t = refl

-- a sum moved there and back: w is the one that had come, v the one that had left
back_off : (w v before after port new old ours : ℕ) → after + old ≡ before + ours → v % 65535 ≡ moved w (before + port) (after + new) % 65535 →
    moved v (ours + new) (old + port) ≡ w % 65535
back_off w v before after port new old ours same off =
    let there : (v + (after + new)) % 65535 ≡ (w + (before + port)) % 65535 = sum_settled v w (before + port) (after + new) off in
    let m : ℕ = moved v (ours + new) (old + port) in
    let less : m < 65535 = omega arith in
    let back : (m + (old + port)) % 65535 ≡ (v + (ours + new)) % 65535 = sum_settled m v (ours + new) (old + port) refl in
    settle m v w after before new port old ours same there back less
  where
    settle : (m v w after before new port old ours : ℕ) → after + old ≡ before + ours → (v + (after + new)) % 65535 ≡ (w + (before + port)) % 65535 →
        (m + (old + port)) % 65535 ≡ (v + (ours + new)) % 65535 → m < 65535 → m ≡ w % 65535
    settle m v w after before new port old ours same there back less = omega arith

-- what counts besides the body, of the header that had come and of the one that had left
pseudo_there : (hops : ℕ) (e : End) (a : ℕ) (h : List ℕ) (count : ℕ) → pseudo_sum (sent_header hops e a h) count + address_sum e h ≡ pseudo_sum h count + address_sum e (sent_header hops e a h)
pseudo_there hops Source a h count = grind (arith, header_byte hops Source a h)
pseudo_there hops Destination a h count = grind (arith, header_byte hops Destination a h)

besides_there : (p : Protocol) (hops : ℕ) (e : End) (a : ℕ) (h : List ℕ) (count : ℕ) →
    besides p (sent_header hops e a h) count + counted p (address_sum e h) ≡ besides p h count + counted p (address_sum e (sent_header hops e a h))
besides_there Udp hops e a h count = pseudo_there hops e a h count
besides_there Tcp hops e a h count = pseudo_there hops e a h count
besides_there Echo hops e a h count = refl

not_within : (i s : ℕ) → i ≢ s → i ≢ s + 1 → within (20 + s) 2 (20 + i) ≡ false
not_within i s ne ne' = grind (arith, nat_tests)

-- THE BYTES: q quotes what had left, and is written with the end that had come
module _ (bs : List ℕ) (f : Facts) (hops : ℕ) (e : End) (n : Endpoint) (small : Bytes bs) (read : read_of bs ≡ Ok (Packet f))
    (q : List ℕ) (s : Quotes q (sent hops f.protocol e n bs)) (long : 28 ≤ length q) where
  r : Read bs f
  r = was_read bs f read

  address_is : (end_at e f).address ≡ long_at (header_of bs) (address_at e)
  address_is = ap (λ g. (end_at e g).address) r.facts ∙ end_address f.protocol e (header_of bs) (body_of bs)

  port_is : (end_at e f).port ≡ word_at (body_of bs) (port_at f.protocol e)
  port_is = ap (λ g. (end_at e g).port) r.facts ∙ end_port f.protocol e (header_of bs) (body_of bs)

  abbrev H : List ℕ
  H = header_quoted f.protocol e (end_at e f) q

  abbrev B : List ℕ
  B = body_quoted f.protocol e (end_at e f) q

  at_address : (j : ℕ) → within (address_at e) 4 j ≡ true → byte_at (requoted f.protocol e (end_at e f) q) j ≡ byte_at bs j
  at_address j t =
      let i = inside (address_at e) 4 j t in
      let k = behind_sum e in
      let low : j < 20 = omega (arith, i.1, k.1) in
      let sum : ℕ = moved (word_at (header_of q) 10) (address_sum e (header_of q)) (halves (end_at e f).address) in
      ap (λ xs. byte_at xs j) (quote_parts f.protocol e (end_at e f) q)
      ∙ (get_or_append_left H B 0 j (omega (arith, quoted_header_long f.protocol e (end_at e f) q long))
      ∙ (byte_other (put_long (header_of q) (address_at e) (end_at e f).address) 10 sum j (omega (arith, i.0, k.0)) (omega (arith, i.0, k.0))
      ∙ (ap (λ a. byte_at (put_long (header_of q) (address_at e) a) j) address_is
      ∙ (long_put (header_of q) (header_of bs) (address_at e) j (header_bytes bs small) (omega (arith, length_header q (omega arith), k.1)) i.0 i.1
      ∙ get_or-take 20 bs j 0 low))))

  at_port : (j : ℕ) → within (20 + port_at f.protocol e) 2 j ≡ true → within (20 + sum_at f.protocol) 2 j ≡ false →
      byte_at (requoted f.protocol e (end_at e f) q) j ≡ byte_at bs j
  at_port j t out =
      let p : Protocol = f.protocol in
      let i = inside (20 + port_at p e) 2 j t in
      let k : ℕ = j - 20 in
      let j-is : 20 + k ≡ j = omega (arith, i.0) in
      let apart : (j < 20 + sum_at p) ⊎ (20 + sum_at p + 1 < j) = grind (arith, nat_tests) in
      let c : List ℕ = put_word (body_of q) (port_at p e) (end_at e f).port in
      let sum : ℕ = spelled_sum p e (counted p (address_sum e (header_of q))) (counted p (halves (end_at e f).address)) (end_at e f).port (body_of q) in
      let near : port_at p e + 1 < length (body_of q) = omega (arith, (places p e).port_is, (places p e).near, length-drop 20 q) in
      let ported : byte_at c k ≡ byte_at (body_of bs) k =
      ap (λ w. byte_at (put_word (body_of q) (port_at p e) w) k) port_is
      ∙ word_put (body_of q) (body_of bs) (port_at p e) k (body_bytes bs small) near (omega (arith, i.0)) (omega (arith, i.1)) in
      ap (λ xs. byte_at xs j) (quote_parts p e (end_at e f) q)
      ∙ (get_or-append_right H B 20 j 0 (quoted_header_long p e (end_at e f) q long) (omega (arith, i.0))
      ∙ (cond_both (has_sum p (body_of q)) (put_word c (sum_at p) sum) c (λ xs. byte_at xs k ≡ byte_at (body_of bs) k)
      (λ _. byte_other c (sum_at p) sum k (omega arith) (omega arith) ∙ ported) (λ _. ported)
      ∙ (get_or-drop 20 bs k 0 ∙ ap (λ z. byte_at bs z) j-is)))

  elsewhere : (j : ℕ) → j < length q → changes_on_the_way j ≡ false → within (20 + sum_at f.protocol) 2 j ≡ false →
      within (address_at e) 4 j ≡ false → within (20 + port_at f.protocol e) 2 j ≡ false → byte_at (requoted f.protocol e (end_at e f) q) j ≡ byte_at bs j
  elsewhere j low still sum address port =
      let p : Protocol = f.protocol in
      let a : Beside p e (length q) j = grind (arith, nat_tests) in
      quote_byte p e (end_at e f) q long j a
      ∙ (s.bytes j low still
      ∙ (packets.others_stay bs f hops e n read).bytes j
      (grind (arith, nat_tests)))

  byte_back : (j : ℕ) → j < length q → changes_on_the_way j ≡ false → within (20 + sum_at f.protocol) 2 j ≡ false → byte_at (requoted f.protocol e (end_at e f) q) j ≡ byte_at bs j
  byte_back j low still sum = grind (arith, nat_tests, at_address j, at_port j, elsewhere j low still sum)

  -- THE SUM
  cut : length q ≤ length bs
  cut = omega (arith, s.cut, (packets.others_stay bs f hops e n read).long)

  -- what counts besides the body that had come, and besides the one that had left
  abbrev before : ℕ
  before = besides f.protocol (header_of bs) (length (body_of bs))

  abbrev after : ℕ
  after = besides f.protocol (header_sent hops e n bs) (length (body_of bs))

  abbrev ported : List ℕ
  ported = put_word (body_of bs) (port_at f.protocol e) n.port

  abbrev sum_moved : ℕ
  sum_moved = moved (word_at (body_of bs) (sum_at f.protocol)) (before + word_at (body_of bs) (port_at f.protocol e)) (after + n.port)

  -- of the quote
  abbrev gone : ℕ
  gone = counted f.protocol (address_sum e (header_of q))

  abbrev new : ℕ
  new = counted f.protocol (halves (end_at e f).address)

  least : least_of f.protocol ≤ length (body_of bs)
  least = least_there bs f hops e n r

  body_left_lem : body_of (sent hops f.protocol e n bs) ≡ body_sent hops f.protocol e n bs
  body_left_lem = body_there bs f hops e n r

  eight : 8 ≤ length (body_of q)
  eight = omega (arith, length-drop 20 q)

  port_left : word_at (body_of q) (port_at f.protocol e) ≡ n.port
  port_left =
      port_quoted q (sent hops f.protocol e n bs) s long f.protocol e
      ∙ (ap (λ c. word_at c (port_at f.protocol e)) body_left_lem ∙ port_put f.protocol e after n.port (body_of bs) least)

  address_left : address_sum e (header_of q) ≡ address_sum e (header_sent hops e n bs)
  address_left =
      let a = address_quoted q (sent hops f.protocol e n bs) s long e in
      let h = header_there bs f hops e n r in
      omega (arith, a.0, a.1, ap (λ g. word_at g (address_at e)) h, ap (λ g. word_at g (address_at e + 2)) h)

  address_came : halves (end_at e f).address ≡ address_sum e (header_of bs)
  address_came = ap halves address_is ∙ halves_there (header_of bs) (address_at e) (header_bytes bs small)

  addresses : after + new ≡ before + gone
  addresses =
      ap (λ a. after + counted f.protocol a) address_came
      ∙ (besides_there f.protocol hops e n.address (header_of bs) (length (body_of bs)) ∙ ap (λ a. before + counted f.protocol a) (sym address_left))

  module _ (whole : 22 + sum_at f.protocol ≤ length q) where
    sum_quoted : word_at (body_of q) (sum_at f.protocol) ≡ word_at (body_sent hops f.protocol e n bs) (sum_at f.protocol)
    sum_quoted =
        body_word_quoted q (sent hops f.protocol e n bs) s long (sum_at f.protocol) (omega arith) ∙ ap (λ c. word_at c (sum_at f.protocol)) body_left_lem

    -- a sum that is not there stays so
    none_quoted : has_no_sum f.protocol (body_of bs) ≡ true → has_no_sum f.protocol (body_of q) ≡ true
    none_quoted none = ap (λ w. is_absent f.protocol w) (sum_quoted ∙ sum_none f.protocol e after n.port (body_of bs) least none) ∙ none

    module _ (some : has_no_sum f.protocol (body_of bs) ≡ false) where
      sum_left : word_at (body_of q) (sum_at f.protocol) ≡ respelled f.protocol sum_moved (word_sum (put_word ported (sum_at f.protocol) 0))
      sum_left =
          let p : Protocol = f.protocol in
          let t : ℕ = word_sum (put_word ported (sum_at p) 0) in
          let v : Moved sum_moved (after + t) = body_moved (body_of bs) n.port before after (right_body p (header_of bs) (body_of bs) r.tests.body some) p e least in
          sum_quoted
          ∙ (ap (λ xs. word_at xs (sum_at p)) (cond-false (has_no_sum p (body_of bs)) ported (put_word ported (sum_at p) (spelled p (fresh (after + t)))) some)
          ∙ (word_same ported (sum_at p) (spelled p (fresh (after + t))) (omega (arith, cut, length-drop 20 bs, length_put (body_of bs) (port_at p e) n.port))
          ∙ settled p sum_moved after t (besides_fits p (header_sent hops e n bs) (length (body_of bs)) least) v))

      present : has_sum f.protocol (body_of q) ≡ true
      present =
          let p : Protocol = f.protocol in
          grind (arith, nat_tests, sum_left, spelled_present p sum_moved (word_sum (put_word ported (sum_at p) 0)), length-drop 20 q)

      moved_back : moved (word_at (body_of q) (sum_at f.protocol)) (gone + word_at (body_of q) (port_at f.protocol e)) (new + (end_at e f).port)
          ≡ word_at (body_of bs) (sum_at f.protocol) % 65535
      moved_back =
          let p : Protocol = f.protocol in
          let v : ℕ = word_at (body_of q) (sum_at p) in
          let off : v % 65535 ≡ sum_moved % 65535 = ap (λ w. w % 65535) sum_left ∙ respelled_off p sum_moved (word_sum (put_word ported (sum_at p) 0)) in
          rw (port_left, port_is) (back_off (word_at (body_of bs) (sum_at p)) v before after (word_at (body_of bs) (port_at p e)) n.port new gone addresses off)

      -- the quoted words besides the sum
      abbrev restored : List ℕ
      restored = put_word (body_of q) (port_at f.protocol e) (end_at e f).port

      in_place : requoted_body f.protocol e gone new (end_at e f).port (body_of q) ≡ put_word restored (sum_at f.protocol) (spelled_sum f.protocol e gone new (end_at e f).port (body_of q))
      in_place = body_put f.protocol e gone new (end_at e f).port (body_of q) eight present

      quoted_rest : length (body_of (take (length q) bs)) ≡ length (body_of q)
      quoted_rest = omega (arith, length-drop 20 (take (length q) bs), length-take (length q) bs, length-drop 20 q, cut)

      beside_sum : (i : ℕ) → i < length (body_of q) → i ≢ sum_at f.protocol → i ≢ sum_at f.protocol + 1 → byte_at restored i ≡ byte_at (body_of (take (length q) bs)) i
      beside_sum i low ne ne' =
          let p : Protocol = f.protocol in
          let here : 20 + i < length q = omega (arith, length-drop 20 q) in
          sym (byte_other restored (sum_at p) (spelled_sum p e gone new (end_at e f).port (body_of q)) i ne ne')
          ∙ (ap (λ xs. byte_at xs i) (sym in_place)
          ∙ (ap (λ xs. byte_at xs i) (sym (quoted_body_there p e (end_at e f) q long))
          ∙ (get_or-drop 20 (requoted p e (end_at e f) q) i 0
          ∙ (byte_back (20 + i) here (settled_behind (20 + i) (omega arith)) (not_within i (sum_at p) ne ne')
          ∙ sym (get_or-drop 20 (take (length q) bs) i 0 ∙ get_or-take (length q) bs (20 + i) 0 here)))))

      rest_same : put_word restored (sum_at f.protocol) 0 ≡ put_word (body_of (take (length q) bs)) (sum_at f.protocol) 0
      rest_same =
          let p : Protocol = f.protocol in
          let Y : List ℕ = body_of (take (length q) bs) in
          let x-long : length (put_word restored (sum_at p) 0) ≡ length (body_of q) = length_put restored (sum_at p) 0 ∙ length_put (body_of q) (port_at p e) (end_at e f).port in
          let y-long : length (put_word Y (sum_at p) 0) ≡ length (body_of q) = length_put Y (sum_at p) 0 ∙ quoted_rest in
          let room : sum_at p + 1 < length (body_of q) = omega (arith, length-drop 20 q) in
          let x-room : sum_at p + 1 < length restored = omega (arith, length_put (body_of q) (port_at p e) (end_at e f).port) in
          let y-room : sum_at p + 1 < length Y = omega (arith, quoted_rest) in
          ext_get_or 0 (put_word restored (sum_at p) 0) (put_word Y (sum_at p) 0) (x-long ∙ sym y-long) (λ i low. elim (cases_eq i (sum_at p)) [
            | inl same ↦
                ap (λ k. byte_at (put_word restored (sum_at p) 0) k) same
                ∙ (high_put restored (sum_at p) 0 x-room ∙ sym (ap (λ k. byte_at (put_word Y (sum_at p) 0) k) same ∙ high_put Y (sum_at p) 0 y-room))
            | inr ne ↦ elim (cases_eq i (sum_at p + 1)) [
              | inl same ↦
                  ap (λ k. byte_at (put_word restored (sum_at p) 0) k) same
                  ∙ (low_put restored (sum_at p) 0 x-room ∙ sym (ap (λ k. byte_at (put_word Y (sum_at p) 0) k) same ∙ low_put Y (sum_at p) 0 y-room))
              | inr ne' ↦
                  byte_other restored (sum_at p) 0 i ne ne' ∙ (beside_sum i (omega (arith, x-long)) ne ne' ∙ sym (byte_other Y (sum_at p) 0 i ne ne'))
            ]
          ])

      sum_back : word_at (body_of (requoted f.protocol e (end_at e f) q)) (sum_at f.protocol)
          ≡ respelled f.protocol (word_at (body_of bs) (sum_at f.protocol) % 65535) (word_sum (put_word (body_of (take (length q) bs)) (sum_at f.protocol) 0))
      sum_back =
          let p : Protocol = f.protocol in
          let room : sum_at p + 1 < length restored = omega (arith, length_put (body_of q) (port_at p e) (end_at e f).port, length-drop 20 q) in
          rw (quoted_body_there p e (end_at e f) q long, in_place, word_same restored (sum_at p) (spelled_sum p e gone new (end_at e f).port (body_of q)) room, moved_back, rest_same) refl

  -- THE QUOTE
  quotes_again : ((22 + sum_at f.protocol ≤ length q) → has_no_sum f.protocol (body_of q) ≡ true → has_no_sum f.protocol (body_of (requoted f.protocol e (end_at e f) q)) ≡ true) →
      QuotesAgain f.protocol (requoted f.protocol e (end_at e f) q) bs
  quotes_again stays-none =
      let p : Protocol = f.protocol in
      let l : length (requoted p e (end_at e f) q) ≡ length q = length_requoted p e (end_at e f) q long in
      record {
        bytes = λ j low still sum. byte_back j (omega (arith, l)) still sum;
        sum = λ whole some.
            sum_back (omega (arith, l)) some
            ∙ ap (λ k. respelled p (word_at (body_of bs) (sum_at p) % 65535) (word_sum (put_word (body_of (take k bs)) (sum_at p) 0))) (sym l);
        none = λ whole none. stays-none (omega (arith, l)) (none_quoted (omega (arith, l)) none);
      }

pub there_and_back : ThereAndBack
there_and_back bs error f x hops hops_back e n small read m s =
    let p : Protocol = f.protocol in
    let q : List ℕ = quote_in error in
    let N : Endpoint = end_at e f in
    let out : List ℕ = sent hops p e n bs in
    let t : Quoted q x.quote = was_quoted q x.quote (was_notice error x m).1 in
    let g : Facts = relocated hops e n f in
    let is : x.quote ≡ quote_of_facts g = as_read q out s t.long g x.quote (was_read out g (sending.read_again bs f hops e n read)) t in
    let same : x.quote.protocol ≡ p = ap (λ y. y.protocol) is ∙ same_protocol_lem hops e n f in
    let quote : quote_in (left hops_back (Error x) (opposite e) N error) ≡ requoted p e N q =
    quote_left error x hops_back (opposite e) N m
    ∙ (ap (λ z. requoted z (opposite (opposite e)) N q) same ∙ ap (λ d. requoted p d N q) (both_ways e)) in
    let facts : relocated_quote e N (quote_of_facts g) ≡ quote_of_facts f =
    subst (λ k. relocated_quote e (end_at e k) (quote_of_facts (relocated hops e n k)) ≡ quote_of_facts k) (sym (was_read bs f read).facts)
    (facts_back p e (header_of bs) (body_of bs) hops n) in
    let quoted : relocated_quote (opposite (opposite e)) N x.quote ≡ quote_of_facts f =
    ap (λ d. relocated_quote d N x.quote) (both_ways e) ∙ (ap (λ y. relocated_quote e N y) is ∙ facts) in
    let none : has_no_sum p (body_of q) ≡ true → has_no_sum p (body_of (requoted p e N q)) ≡ true =
    subst (λ z. has_no_sum z (body_of q) ≡ true → has_no_sum z (body_of (requoted z e N q)) ≡ true) same (quote_sums e N q x.quote t).none in
    record {
      read = read_again error (Error x) hops_back (opposite e) N m
          ∙ ap (λ y. Ok (Error (record { heading = relocated_heading hops_back (opposite e) N.address x.heading; quote = y }))) quoted;
      quotes = subst (λ z. QuotesAgain p z bs) (sym quote) (quotes_again bs f hops e n small read q s t.long (λ _. none));
      header = (quoted_sums_stay_right error (Error x) hops_back (opposite e) N m).header;
    }
