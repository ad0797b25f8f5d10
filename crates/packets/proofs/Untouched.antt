-- What leaves differs from what came in no byte besides those named, and in no length.
use Rattle.std.proofs.Common.{◌≡◌, ℕ, ◌+◌, ◌-◌, ◌<◌, false, ◌≢◌, ◌⊎◌, List, ◌++◌, length, ap, ◌∙◌, inl, inr, arith}
use Rattle.std.proofs.lemmas.Bool.Decides.{nat_tests}
use Rattle.std.proofs.lemmas.List.{get_or_append_left, get_or-append_right, get_or-drop, get_or-take, length-append, length-drop}
use Rattle.std.proofs.lemmas.Bool.{cases_lt}
use Rattle.sums.specs.Words.{byte_at}
use Rattle.mappings.specs.declared.event.Protocol.{Protocol}
use Rattle.packets.specs.declared.facts.End.{End}
use Rattle.packets.specs.declared.facts.Endpoint.{Endpoint}
use Rattle.packets.specs.declared.facts.Facts.{Facts}
use Rattle.packets.specs.Fields.{header_of, body_of, address_at, port_at, sum_at}
use Rattle.packets.specs.Writing.{besides}
use Rattle.packets.specs.Laws.{OthersStay, is_touched}
use Rattle.packets.proofs.Readable.{Read, was_read}
use Rattle.packets.proofs.Bodies.{length_sent_body}
use Rattle.packets.proofs.SentHeaders.{header_byte}
use Rattle.packets.proofs.SentBodies.{body_byte}
use Rattle.packets.proofs.Again.{header_sent, body_sent, header_long, sent_parts}

-- a byte that is not touched lies outside each of the fields
record Apart (p : Protocol) (e : End) (j : ℕ) : Type 0 where
  ttl : j ≢ 8
  sum : (j < 10) ⊎ (11 < j)
  address : (j < address_at e) ⊎ (address_at e + 3 < j)
  port : (j < 20 + port_at p e) ⊎ (20 + port_at p e + 1 < j)
  body : (j < 20 + sum_at p) ⊎ (20 + sum_at p + 1 < j)

apart : (p : Protocol) (e : End) (j : ℕ) → is_touched p e j ≡ false → Apart p e j
apart p e j t = grind (arith, nat_tests)

module _ (bs : List ℕ) (f : Facts) (hops : ℕ) (e : End) (n : Endpoint) (r : Read bs f) where
  parts_long : length (header_sent hops e n bs ++ body_sent hops f.protocol e n bs) ≡ length bs
  parts_long =
      omega (
        arith,
        length-append (header_sent hops e n bs) (body_sent hops f.protocol e n bs),
        header_long bs f hops e n r,
        length_sent_body f.protocol e (besides f.protocol (header_sent hops e n bs) (length (body_of bs))) n.port (body_of bs),
        length-drop 20 bs,
        r.long,
      )

  parts_byte : (j : ℕ) → Apart f.protocol e j → byte_at (header_sent hops e n bs ++ body_sent hops f.protocol e n bs) j ≡ byte_at bs j
  parts_byte j a = elim (cases_lt j 20) [
    | inl low ↦
        get_or_append_left (header_sent hops e n bs) (body_sent hops f.protocol e n bs) 0 j (omega (arith, header_long bs f hops e n r))
        ∙ (header_byte hops e n.address (header_of bs) j a.ttl a.sum a.address ∙ get_or-take 20 bs j 0 low)
    | inr high ↦
        get_or-append_right (header_sent hops e n bs) (body_sent hops f.protocol e n bs) 20 j 0 (header_long bs f hops e n r) high
        ∙ (body_byte f.protocol e _ n.port (body_of bs) (j - 20) (grind (arith, a.port)) (grind (arith, a.body)) ∙ grind (arith, get_or-drop 20 bs (j - 20) 0))
  ]

pub others_stay : OthersStay
others_stay bs f hops e n read =
    let r : Read bs f = was_read bs f read in
    record {
      long = ap length (sent_parts hops f.protocol e n bs) ∙ parts_long bs f hops e n r;
      bytes = λ j t. ap (λ xs. byte_at xs j) (sent_parts hops f.protocol e n bs) ∙ parts_byte bs f hops e n r j (apart f.protocol e j t);
    }
