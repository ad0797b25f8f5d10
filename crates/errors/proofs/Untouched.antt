-- What leaves differs from what came in no byte besides those named, and in no length.
use Rattle.std.proofs.Common.{◌≡◌, ℕ, ◌+◌, ◌-◌, ◌<◌, ◌≤◌, false, ◌⊎◌, List, ◌++◌, length, Ok, sym, ap, ◌∙◌, inl, inr, arith}
use Rattle.std.proofs.lemmas.Bool.Decides.{nat_tests}
use Rattle.std.proofs.lemmas.List.{get_or_append_left, get_or-append_right, get_or-drop, get_or-take, length-append, length-drop}
use Rattle.std.proofs.lemmas.Bool.{cases_lt}
use Rattle.sums.specs.Words.{byte_at}
use Rattle.sums.proofs.Edits.{byte_other}
use Rattle.mappings.specs.declared.event.Protocol.{Protocol}
use Rattle.packets.specs.declared.facts.End.{End}
use Rattle.packets.specs.declared.facts.Endpoint.{Endpoint}
use Rattle.packets.specs.Fields.{header_of, body_of, address_at, opposite, port_at, sum_at, address_sum, halves}
use Rattle.packets.proofs.Untouched as packets
use Rattle.packets.proofs.SentHeaders.{header_byte}
use Rattle.errors.specs.declared.notice.Notice.{Notice}
use Rattle.packets.specs.declared.facts.Reading.TheVariants.{Packet, Error}
use Rattle.errors.specs.Quotes.{quote_in}
use Rattle.errors.specs.Messages.{message_in}
use Rattle.errors.specs.Requoting.{counted, left, requoted, requoted_body}
use Rattle.errors.specs.Laws.{OthersStay, is_quote_touched, is_touched_in}
use Rattle.errors.proofs.Readings.{was_packet}
use Rattle.errors.proofs.Requoted.{body_quoted, header_quoted, quote_parts, quoted_body_byte, quoted_header_byte, quoted_header_long}
use Rattle.errors.proofs.ErrorBodies.{error_front}
use Rattle.errors.proofs.Again.{body_left, body_long, header_left, header_long, left_parts, own_read, packet_left, quote_left, quote_read, same_length}

-- a sum of which not the whole is quoted stays
pub short_body_byte : (p : Protocol) (e : End) (gone new port : ℕ) (b : List ℕ) (j : ℕ) → length b < sum_at p + 2 → (j < port_at p e) ⊎ (port_at p e + 1 < j) →
    byte_at (requoted_body p e gone new port b) j ≡ byte_at b j
short_body_byte p e gone new port b j short out-port = grind (arith, nat_tests, byte_other)

-- a byte of the quote that lies outside each of the fields
pub record Beside (p : Protocol) (e : End) (n k : ℕ) : Type 0 where
  pub sum : (k < 10) ⊎ (11 < k)
  pub address : (k < address_at e) ⊎ (address_at e + 3 < k)
  pub port : (k < 20 + port_at p e) ⊎ (20 + port_at p e + 1 < k)
  pub body : ((k < 20 + sum_at p) ⊎ (20 + sum_at p + 1 < k)) ⊎ (n < 22 + sum_at p)

module _ (p : Protocol) (e : End) (n : Endpoint) (q : List ℕ) (long : 28 ≤ length q) where
  parts_byte : (k : ℕ) → Beside p e (length q) k → byte_at (header_quoted p e n q ++ body_quoted p e n q) k ≡ byte_at q k
  parts_byte k a = elim (cases_lt k 20) [
    | inl low ↦
        get_or_append_left (header_quoted p e n q) (body_quoted p e n q) 0 k (omega (arith, quoted_header_long p e n q long))
        ∙ (quoted_header_byte e n.address (header_of q) k a.sum a.address ∙ get_or-take 20 q k 0 low)
    | inr high ↦
        let i : ℕ = k - 20 in
        let k-is : 20 + i ≡ k = omega arith in
        get_or-append_right (header_quoted p e n q) (body_quoted p e n q) 20 k 0 (quoted_header_long p e n q long) high
        ∙ (in_body i k-is a.body ∙ (get_or-drop 20 q i 0 ∙ ap (λ z. byte_at q z) k-is))
  ]
    where
      in_body : (i : ℕ) → 20 + i ≡ k → ((k < 20 + sum_at p) ⊎ (20 + sum_at p + 1 < k)) ⊎ (length q < 22 + sum_at p) → byte_at (body_quoted p e n q) i ≡ byte_at (body_of q) i
      in_body i k-is (inl apart) =
          quoted_body_byte p e (counted p (address_sum e (header_of q))) (counted p (halves n.address)) n.port (body_of q) i
          (grind (arith, a.port)) (grind arith)
      in_body i k-is (inr short) =
          short_body_byte p e (counted p (address_sum e (header_of q))) (counted p (halves n.address)) n.port (body_of q) i
          (omega (arith, length-drop 20 q)) (grind (arith, a.port))

  pub quote_byte : (k : ℕ) → Beside p e (length q) k → byte_at (requoted p e n q) k ≡ byte_at q k
  quote_byte k a = ap (λ xs. byte_at xs k) (quote_parts p e n q) ∙ parts_byte k a

beside : (p : Protocol) (e : End) (n k j : ℕ) → 28 + k ≡ j → is_quote_touched p e (28 + n) j ≡ false → Beside p e n k
beside p e n k j j-is t = grind (arith, nat_tests)

module _ (bs : List ℕ) (x : Notice) (hops : ℕ) (e : End) (n : Endpoint) (m : message_in bs ≡ Ok (Error x)) where
  error_length : length (left hops (Error x) e n bs) ≡ length bs
  error_length =
      omega (
        arith,
        ap length (left_parts bs x hops e n),
        length-append (header_left bs x hops e n) (body_left bs x hops e n),
        header_long bs x hops e n m,
        same_length bs x hops e n m,
        length-drop 20 bs,
        (own_read bs x hops e n m).long,
      )

  error_byte : (j : ℕ) → is_touched_in (Error x) e (length bs) j ≡ false → byte_at (left hops (Error x) e n bs) j ≡ byte_at bs j
  error_byte j t =
      let p : Protocol = x.quote.protocol in
      let out : List ℕ = left hops (Error x) e n bs in
      let H : List ℕ = header_left bs x hops e n in
      let B : List ℕ = body_left bs x hops e n in
      elim (cases_lt j 20) [
        | inl low ↦
            ap (λ xs. byte_at xs j) (left_parts bs x hops e n)
            ∙ (get_or_append_left H B 0 j (omega (arith, header_long bs x hops e n m))
            ∙ (header_byte hops e n.address (header_of bs) j (grind (arith, nat_tests)) (grind (arith, nat_tests)) (grind (arith, nat_tests))
            ∙ get_or-take 20 bs j 0 low))
        | inr high ↦ elim (cases_lt j 28) [
          | inl low ↦
              let i : ℕ = j - 20 in
              let j-is : 20 + i ≡ j = omega arith in
              ap (λ xs. byte_at xs j) (left_parts bs x hops e n)
              ∙ (get_or-append_right H B 20 j 0 (header_long bs x hops e n m) high
              ∙ (error_front p (opposite e) n (body_of bs) (body_long bs x hops e n m) i (omega arith) (grind (arith, nat_tests)) (grind (arith, nat_tests))
              ∙ (get_or-drop 20 bs i 0 ∙ ap (λ z. byte_at bs z) j-is)))
          | inr far ↦
              let k : ℕ = j - 28 in
              let j-is : 28 + k ≡ j = omega arith in
              let whole : 28 + length (quote_in bs) ≡ length bs = omega (arith, length-drop 28 bs, (quote_read bs x hops e n m).long) in
              let a : Beside p (opposite e) (length (quote_in bs)) k =
              beside p (opposite e) (length (quote_in bs)) k j j-is (grind (arith, nat_tests)) in
              sym (get_or-drop 28 out k 0 ∙ ap (λ z. byte_at out z) j-is)
              ∙ (ap (λ xs. byte_at xs k) (quote_left bs x hops e n m)
              ∙ (quote_byte p (opposite e) n (quote_in bs) (quote_read bs x hops e n m).long k a
              ∙ (get_or-drop 28 bs k 0 ∙ ap (λ z. byte_at bs z) j-is)))
        ]
      ]

pub others_stay : OthersStay
others_stay bs (Packet f) hops e n m =
    let u = packets.others_stay bs f hops e n (was_packet bs f m) in
    record {
      long = omega (arith, ap length (packet_left hops f e n bs), u.long);
      bytes = λ j t. ap (λ xs. byte_at xs j) (packet_left hops f e n bs) ∙ u.bytes j t;
    }
others_stay bs (Error x) hops e n m = record { long = omega (arith, error_length bs x hops e n m); bytes = λ j t. error_byte bs x hops e n m j t }
