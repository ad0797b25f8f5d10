-- Every sum of a message itself is fresh when it leaves.
use Rattle.std.proofs.Common.{◌≡◌, sym, subst}
use Rattle.sums.specs.Words.{word_at}
use Rattle.sums.specs.Sums.{fresh, rest_sum}
use Rattle.packets.specs.Fields.{header_of, body_of, opposite}
use Rattle.packets.specs.Laws.{FreshSums}
use Rattle.packets.proofs.Accepted.{length_header}
use Rattle.packets.proofs.SentHeaders.{header_fresh}
use Rattle.packets.proofs.Fresh as packets
use Rattle.packets.specs.declared.facts.Reading.TheVariants.{Packet, Error}
use Rattle.errors.specs.Laws.{OwnSumsAreFresh}
use Rattle.errors.proofs.Readings.{was_packet}
use Rattle.errors.proofs.ErrorBodies.{error_fresh}
use Rattle.errors.proofs.Again.{body_long, body_there, header_there, own_read, packet_left}

pub own_sums_are_fresh : OwnSumsAreFresh
own_sums_are_fresh bs (Packet f) hops e n m =
    subst (λ out. FreshSums f.protocol bs out) (sym (packet_left hops f e n bs)) (packets.sums_are_fresh bs f hops e n (was_packet bs f m))
own_sums_are_fresh bs (Error x) hops e n m = record {
  header = subst (λ g. word_at g 10 ≡ fresh (rest_sum 0 g 10)) (sym (header_there bs x hops e n m))
      (header_fresh hops e n.address (header_of bs) (length_header bs (own_read bs x hops e n m).long));
  body = subst (λ c. word_at c 2 ≡ fresh (rest_sum 0 c 2)) (sym (body_there bs x hops e n m))
      (error_fresh x.quote.protocol (opposite e) n (body_of bs) (body_long bs x hops e n m));
}
