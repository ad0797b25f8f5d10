-- Every sum of what leaves is fresh.
use Rattle.std.proofs.Common.{◌≡◌, ℕ, ◌≤◌, true, List, length, arith}
use Rattle.std.proofs.lemmas.Bool.Decides.{nat_tests}
use Rattle.sums.specs.Words.{word_at}
use Rattle.mappings.specs.declared.event.Protocol.{Protocol}
use Rattle.mappings.specs.declared.event.Protocol.TheVariants.{Udp, Tcp, Echo}
use Rattle.packets.specs.declared.facts.End.{End}
use Rattle.packets.specs.declared.facts.Endpoint.{Endpoint}
use Rattle.packets.specs.declared.facts.Facts.{Facts}
use Rattle.packets.specs.Fields.{header_of, body_of, sum_at}
use Rattle.packets.specs.Writing.{besides, has_no_sum, least_of, sent}
use Rattle.packets.specs.Laws.{FreshSums, SumsAreFresh}
use Rattle.packets.proofs.Readable.{Read, was_read}
use Rattle.packets.proofs.Accepted.{length_header}
use Rattle.packets.proofs.Bodies.{length_sent_body}
use Rattle.packets.proofs.SentHeaders.{header_fresh}
use Rattle.packets.proofs.SentBodies.{sum_fresh, sum_none}
use Rattle.packets.proofs.Again.{header_sent, body_sent, header_there, body_there, least_there}

absent_zero : (p : Protocol) (b : List ℕ) (w : ℕ) → has_no_sum p b ≡ true → w ≡ word_at b (sum_at p) → w ≡ 0
absent_zero Udp b w t e = grind (arith, nat_tests)
absent_zero Tcp b w t e = cc
absent_zero Echo b w t e = cc

module _ (bs : List ℕ) (f : Facts) (hops : ℕ) (e : End) (n : Endpoint) (r : Read bs f) where
  parts_fresh : FreshSums f.protocol bs (sent hops f.protocol e n bs)
  parts_fresh =
      let p : Protocol = f.protocol in
      let b : List ℕ = body_of bs in
      let H : List ℕ = header_sent hops e n bs in
      let B : List ℕ = body_sent hops p e n bs in
      let x : ℕ = besides p H (length b) in
      let same : length B ≡ length b = length_sent_body p e x n.port b in
      let least : least_of p ≤ length b = least_there bs f hops e n r in
      record {
        header = rw (header_there bs f hops e n r) (header_fresh hops e n.address (header_of bs) (length_header bs r.long));
        body = λ some. rw (header_there bs f hops e n r, body_there bs f hops e n r, same) (sum_fresh p e x n.port b least some);
        none = λ none. rw (body_there bs f hops e n r) (absent_zero p b _ none (sum_none p e x n.port b least none));
      }

pub sums_are_fresh : SumsAreFresh
sums_are_fresh bs f hops e n read = parts_fresh bs f hops e n (was_read bs f read)
