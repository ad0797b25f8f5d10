-- An answer to what went out, written in by the same mapping, comes to where that came from.
use Rattle.std.proofs.Common.{◌≡◌, ℕ, List, refl, ap, ◌∙◌, arith}
use Rattle.packets.specs.declared.facts.End.TheVariants.{Destination}
use Rattle.packets.specs.declared.facts.Endpoint.{Endpoint}
use Rattle.packets.specs.declared.facts.Facts.{Facts}
use Rattle.packets.specs.Laws.{OutAndBack, other_end, relocated}
use Rattle.packets.proofs.Readable.{Read, was_read}
use Rattle.packets.proofs.Again.{read_again}

-- the end that was not replaced is there again: an echo's identifier was both ports
end_back : (bs : List ℕ) (f : Facts) (x : Endpoint) → Read bs f → other_end f.protocol f.source (other_end f.protocol x f.destination) ≡ f.destination
end_back bs f x r = grind (arith, r.facts)

pub out_and_back : OutAndBack
out_and_back bs answer f g hops hops_back external read_out read_answer a = (
  relocated hops_back Destination f.source g,
  read_again answer g hops_back Destination f.source read_answer,
  record {
    protocol = a.protocol;
    source =
        ap (λ p. other_end p f.source g.source) a.protocol
        ∙ (ap (λ n. other_end f.protocol f.source n) a.source ∙ end_back bs f external (was_read bs f read_out));
    destination = refl;
  },
)
