-- Packets that were delivered: what is left of them, and which packet they answer.
use Rattle.std.proofs.Common.{◌≡◌, ℕ, ◌<◌, Bool, true, false, List, Some, Ok, unwrap_or, sym, refl, ap, ◌∙◌, subst}
use mathlib.Core.List.Memᴰ
use mathlib.Core.List.{Memᴰ}
use Rattle.blocks.specs.Config.{Config, within_limits}
use Rattle.blocks.specs.Ports.{address_of, subscriber_at}
use Rattle.blocks.proofs.Arithmetic.{one_subscriber}
use Rattle.mappings.specs.declared.event.Event.{Event}
use Rattle.mappings.specs.declared.event.Event.TheVariants as event
use Rattle.mappings.specs.declared.event.Inward.{Inward}
use Rattle.mappings.specs.declared.event.Outward.{Outward}
use Rattle.mappings.specs.declared.event.Verdict.{Verdict}
use Rattle.mappings.specs.declared.event.Verdict.TheVariants as verdict
use Rattle.mappings.specs.States.{State, fresh}
use Rattle.mappings.specs.Steps.{step}
use Rattle.mappings.specs.Runs.{Occurrence, run}
use Rattle.mappings.specs.Promise.{SentBefore}
use Rattle.mappings.proofs.Answers as answers
use Rattle.mappings.proofs.Options.{none_not_some, same_some}
use Rattle.mappings.proofs.Tracing.{clash}
use Rattle.packets.specs.declared.facts.End.TheVariants.{Destination}
use Rattle.packets.specs.declared.facts.Endpoint.{Endpoint}
use Rattle.packets.specs.declared.facts.Facts.{Facts}
use Rattle.packets.specs.declared.facts.Reading.TheVariants as reading
use Rattle.packets.specs.Laws.{FreshSums}
use Rattle.packets.specs.Reading.{read_of}
use Rattle.packets.specs.Writing.{sent}
use Rattle.packets.proofs.Again.{read_again}
use Rattle.packets.proofs.Fresh.{sums_are_fresh}
use Rattle.records.specs.Records.{Item}
use Rattle.hairpin.specs.declared.outcome.Outcome.TheVariants as outcome
use Rattle.hairpin.specs.Passages.{Passage, passage, passages, events, occurrence_in, left_by, rewritten, outcome_of}
use Rattle.hairpin.specs.Promise.{SentOut, BroughtIn, AnswersTo, Answered}
use Rattle.hairpin.proofs.Transcripts.{run_of_events}
use Rattle.hairpin.proofs.Tidings as tidings
use Rattle.hairpin.proofs.Tidings.{Tells, Made, made, all_made}
use Rattle.hairpin.proofs.Senders.{in_transcript, sent_out}

in_delivered : (ours : Bool) (v : Verdict) → outcome_of ours v ≡ outcome.In → (n : ℕ) × (q : ℕ) × (v ≡ verdict.Delivered n q)
in_delivered true (verdict.Sent p) o = clash (cc)
in_delivered false (verdict.Sent p) o = clash (cc)
in_delivered ours (verdict.Delivered n q) o = (n, q, refl)
in_delivered ours (verdict.Refused r) o = clash (cc)
in_delivered ours verdict.Ticked o = clash (cc)

-- a packet that was delivered to the subscriber n at its address a
brought_in : (c : Config) (s : State) (hops : ℕ) (e : Event) (bs : List ℕ) (n a q : ℕ) (f : Facts) → read_of bs ≡ Ok (reading.Packet f) → f.destination.address ≡ c.external →
    address_of c n ≡ Some a → (step c e s).verdict ≡ verdict.Delivered n q → BroughtIn c (passage c s hops e bs) n a q hops f
brought_in c s hops e bs n a q f read ours home v =
    let internal : Endpoint = record { address = a; port = q } in
    let left : left_by c hops (read_of bs) (step c e s).verdict bs ≡ sent hops f.protocol Destination internal bs =
    ap (λ y. left_by c hops y (step c e s).verdict bs) read
    ∙ (ap (λ y. rewritten c hops f y bs) v
    ∙ ap (λ o. sent hops f.protocol Destination (record { address = unwrap_or o 0; port = q }) bs) home) in
    record {
      came = read;
      ours = ours;
      home = home;
      left = ap read_of left ∙ read_again bs f hops Destination internal read;
      sums = subst (λ out. FreshSums f.protocol bs out) (sym left) (sums_are_fresh bs f hops Destination internal read);
    }

-- the packet of a passage that made this event outwards, and its subscriber's address
record Went (c : Config) (y : Passage) (o : Outward) (p : ℕ) (g : Facts) : Type 0 where
  sent : SentOut c y o.subscriber p g
  home : address_of c o.subscriber ≡ Some g.source.address
  port : g.source.port ≡ o.port
  protocol : g.protocol ≡ o.protocol
  to : g.destination.address ≡ o.to

tells_went : (c : Config) → within_limits c ≡ true → (s : State) (hops : ℕ) (e : Event) (bs : List ℕ) → Tells c hops bs e → (o : Outward) (p : ℕ) →
    e ≡ event.Goes o → (step c e s).verdict ≡ verdict.Sent p → (g : Facts) × Went c (passage c s hops e bs) o p g
tells_went c w s hops e bs (tidings.nothing r) o p a v = clash (cc)
tells_went c w s hops e bs (tidings.goes n g read its) o p a v =
    let same : record { subscriber = n; protocol = g.protocol; port = g.source.port; to = g.destination.address } ≡ o = cc in
    let number : n ≡ o.subscriber = ap (λ (x : Outward). x.subscriber) same in
    let whose : subscriber_at c g.source.address ≡ Some o.subscriber = its ∙ ap Some number in (
      g,
      record {
        sent = sent_out c s bs o.subscriber g read whose e p v;
        home = (one_subscriber c w).1 o.subscriber g.source.address whose;
        port = ap (λ (x : Outward). x.port) same;
        protocol = ap (λ (x : Outward). x.protocol) same;
        to = ap (λ (x : Outward). x.to) same;
      },
    )
tells_went c w s hops e bs (tidings.comes f read ours) o p a v = clash (cc)
tells_went c w s hops e bs tidings.ticks o p a v = clash (cc)

made_went : (c : Config) → within_limits c ≡ true → (y : Passage) → Made c y → (o : Outward) (p : ℕ) →
    y.occurrence.event ≡ event.Goes o → y.occurrence.verdict ≡ verdict.Sent p → (g : Facts) × Went c y o p g
made_went c w y (made s hops e bs t) o p a v = tells_went c w s hops e bs t o p a v

-- an occurrence of a run's events is that of one of its passages
passage_of : (c : Config) (is : List Item) (x : Occurrence) → Memᴰ x (run c (events c is)).transcript → (y : Passage) × Memᴰ y (passages c is) × (y.occurrence ≡ x)
passage_of c is x j = Memᴰ.of_map occurrence_in (passages c is) (subst (λ xs. Memᴰ x xs) (sym (run_of_events c is)) j)

Answer : (c : Config) (is : List Item) (x : Passage) → Type 0
Answer c is x =
    (n : ℕ) × (a : ℕ) × (q : ℕ) × (hops : ℕ) × (f : Facts) × BroughtIn c x n a q hops f
    × (y : Passage) × (g : Facts) × Memᴰ y (passages c is) × AnswersTo c x n a q f y g

-- the delivered packet of facts f, and the passage of the packet that it answers
answer : (c : Config) → within_limits c ≡ true → (is : List Item) (s : State) (hops : ℕ) (e : Event) (bs : List ℕ) (f : Facts) → read_of bs ≡ Ok (reading.Packet f) →
    f.destination.address ≡ c.external → (n q : ℕ) → (step c e s).verdict ≡ verdict.Delivered n q → (z : Occurrence) → Memᴰ z (run c (events c is)).transcript →
    SentBefore (passage c s hops e bs).occurrence f.destination.port (record { subscriber = n; protocol = f.protocol; port = q; to = f.source.address }) z →
    Answer c is (passage c s hops e bs)
unfolding Answer
answer c w is s hops e bs f read ours n q v z j before =
    let o : Outward = record { subscriber = n; protocol = f.protocol; port = q; to = f.source.address } in
    let found = passage_of c is z j in
    let y : Passage = found.0 in
    let went = made_went c w y (all_made c (fresh c) is y found.1) o f.destination.port
    (ap (λ (x : Occurrence). x.event) found.2 ∙ before.went) (ap (λ (x : Occurrence). x.verdict) found.2 ∙ before.port) in
    let g : Facts = went.0 in
    let a : ℕ = g.source.address in (
      n,
      a,
      q,
      hops,
      f,
      brought_in c s hops e bs n a q f read ours went.1.home v,
      y,
      g,
      found.1,
      record {
        before = subst (λ (x : Occurrence). x.moment < s.moment) (sym found.2) before.earlier;
        sent = went.1.sent;
        from = ap {B = Endpoint} (λ k. record { address = a; port = k }) went.1.port;
        protocol = went.1.protocol;
        to = went.1.to;
      },
    )

made_answered : (c : Config) → within_limits c ≡ true → (is : List Item) (s : State) (hops : ℕ) (e : Event) (bs : List ℕ) → Tells c hops bs e →
    Memᴰ (passage c s hops e bs).occurrence (run c (events c is)).transcript → (n q : ℕ) → (step c e s).verdict ≡ verdict.Delivered n q → Answer c is (passage c s hops e bs)
made_answered c w is s hops e bs (tidings.nothing r) k n q v =
    none_not_some (answers.answered c w (events c is) (passage c s hops e bs).occurrence n q k v).1
made_answered c w is s hops e bs (tidings.goes m f read its) k n q v =
    none_not_some (answers.answered c w (events c is) (passage c s hops e bs).occurrence n q k v).1
made_answered c w is s hops e bs (tidings.comes f read ours) k n q v =
    let known = answers.answered c w (events c is) (passage c s hops e bs).occurrence n q k v in
    let i : Inward = known.0 in
    let same : record { protocol = f.protocol; port = f.destination.port; from = f.source.address } ≡ i = same_some known.1 in
    answer c w is s hops e bs f read ours n q v known.2 known.3
    (subst (λ (x : Inward). SentBefore (passage c s hops e bs).occurrence x.port (record { subscriber = n; protocol = x.protocol; port = q; to = x.from }) known.2) (sym same) known.4)
made_answered c w is s hops e bs tidings.ticks k n q v =
    none_not_some (answers.answered c w (events c is) (passage c s hops e bs).occurrence n q k v).1

deliver : (c : Config) → within_limits c ≡ true → (is : List Item) (x : Passage) → Made c x → Memᴰ x.occurrence (run c (events c is)).transcript → x.outcome ≡ outcome.In → Answer c is x
deliver c w is x (made s hops e bs t) k o =
    let v = in_delivered _ (step c e s).verdict o in
    made_answered c w is s hops e bs t k v.0 v.1 v.2

pub answered : Answered
unfolding Answer
answered c w is x j o = deliver c w is x (all_made c (fresh c) is x j) (in_transcript c is x j) o
