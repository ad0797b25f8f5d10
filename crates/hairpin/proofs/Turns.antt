-- A packet to our own external address, as it comes in right after it went out.
use Rattle.std.proofs.Common.{◌≡◌, ℕ, Bool, true, false, eqb, List, ◌∷◌, Ok, sym, refl, ap, ◌∙◌}
use Rattle.std.proofs.lemmas.Bool.{cond-true, eq-eqb, eqb-true}
use Rattle.blocks.specs.Config.{Config}
use Rattle.blocks.specs.declared.refusal.Refusal.TheVariants.{NoMapping}
use Rattle.mappings.specs.declared.event.Event.{Event}
use Rattle.mappings.specs.declared.event.Event.TheVariants as event
use Rattle.mappings.specs.declared.event.Verdict.{Verdict}
use Rattle.mappings.specs.declared.event.Verdict.TheVariants as verdict
use Rattle.mappings.specs.States.{State}
use Rattle.mappings.specs.Steps.{step}
use Rattle.mappings.proofs.Options.{none_not_some}
use Rattle.mappings.proofs.Shapes.{shape}
use Rattle.mappings.proofs.Tracing.{clash}
use Rattle.packets.specs.declared.facts.End.TheVariants.{Source, Destination}
use Rattle.packets.specs.declared.facts.Endpoint.{Endpoint}
use Rattle.packets.specs.declared.facts.Facts.{Facts}
use Rattle.packets.specs.declared.facts.Reading.TheVariants as reading
use Rattle.packets.specs.Laws.{relocated, other_port}
use Rattle.packets.specs.Reading.{read_of}
use Rattle.packets.specs.Writing.{sent}
use Rattle.packets.proofs.Again.{read_again}
use Rattle.hairpin.specs.declared.outcome.Outcome.TheVariants as outcome
use Rattle.hairpin.specs.Events.{accepted, event_of, inward, return_of}
use Rattle.hairpin.specs.Passages.{Passage, passage, returning, is_to_us, left_by, rewritten, outcome_of, home_of}
use Rattle.hairpin.specs.Promise.{TurnedOnce}
use Rattle.hairpin.proofs.Tidings as tidings
use Rattle.hairpin.proofs.Tidings.{Tells, packet_tells}
use Rattle.hairpin.proofs.Senders.{sender}

-- what is turned was sent, and was to us
turned_sent : (ours : Bool) (v : Verdict) → outcome_of ours v ≡ outcome.Turned → (ours ≡ true) × (p : ℕ) × (v ≡ verdict.Sent p)
turned_sent true (verdict.Sent p) o = (refl, p, refl)
turned_sent false (verdict.Sent p) o = clash (cc)
turned_sent ours (verdict.Delivered n q) o = clash (cc)
turned_sent ours (verdict.Refused r) o = clash (cc)
turned_sent ours verdict.Ticked o = clash (cc)

-- what is sent is a packet that was read
sent_read : (c : Config) (s : State) {hops : ℕ} {bs : List ℕ} {e : Event} → Tells c hops bs e → (p : ℕ) → (step c e s).verdict ≡ verdict.Sent p → (f : Facts) × (read_of bs ≡ Ok (reading.Packet f))
sent_read c s {hops} {bs} {e} (tidings.nothing r) p v = none_not_some (sender c s (shape c e s) p v).1
sent_read c s {hops} {bs} {e} (tidings.goes n f read its) p v = (f, read)
sent_read c s {hops} {bs} {e} (tidings.comes f read ours) p v = none_not_some (sender c s (shape c e s) p v).1
sent_read c s {hops} {bs} {e} tidings.ticks p v = none_not_some (sender c s (shape c e s) p v).1

abbrev face : Config → ℕ → Endpoint
face c p = record { address = c.external; port = p }

module _ (c : Config) (bytes : List ℕ) (f : Facts) (p : ℕ) (read : read_of bytes ≡ Ok (reading.Packet (relocated 1 Source (face c p) f))) where
  back_event : f.destination.address ≡ c.external →
      return_of c bytes ≡ event.Comes (record { protocol = f.protocol; port = other_port f.protocol p f.destination.port; from = c.external })
  back_event ours =
      ap (accepted (inward c)) read
      ∙ cond-true (eqb f.destination.address c.external)
      (event.Comes (record { protocol = f.protocol; port = other_port f.protocol p f.destination.port; from = c.external }))
      (event.Unreadable NoMapping) (eq-eqb f.destination.address c.external ours)

  back_left : (v : Verdict) (n q : ℕ) → v ≡ verdict.Delivered n q →
      read_of (left_by c 0 (read_of bytes) v bytes) ≡ Ok (reading.Packet (relocated 0 Destination (record { address = home_of c n; port = q }) (relocated 1 Source (face c p) f)))
  back_left v n q d =
      let out : Facts = relocated 1 Source (face c p) f in
      ap read_of (ap (λ r. left_by c 0 r v bytes) read ∙ ap (λ w. rewritten c 0 out w bytes) d)
      ∙ read_again bytes out 0 Destination (record { address = home_of c n; port = q }) read

pub turned_once : TurnedOnce
turned_once c s side bs o =
    let e : Event = event_of c side bs in
    let x : Passage = passage c s 1 e bs in
    let t = turned_sent (is_to_us c (read_of bs)) (step c e s).verdict o in
    let p : ℕ = t.1 in
    let known = sent_read c s (packet_tells c bs side) p t.2 in
    let f : Facts = known.0 in
    let ours : f.destination.address ≡ c.external = eqb-true f.destination.address c.external (sym (ap (is_to_us c) known.1) ∙ t.0) in
    let left : x.left ≡ sent 1 f.protocol Source (face c p) bs =
    ap (λ y. left_by c 1 y (step c e s).verdict bs) known.1 ∙ ap (λ y. rewritten c 1 f y bs) t.2 in
    let read : read_of x.left ≡ Ok (reading.Packet (relocated 1 Source (face c p) f)) = ap read_of left ∙ read_again bs f 1 Source (face c p) known.1 in
    let y : Passage = passage c (step c e s).state 0 (return_of c x.left) x.left in (
      y,
      ap (λ k. x ∷ returning c (step c e s).state x.left k) o,
      f,
      p,
      record {
        came = known.1;
        went = t.2;
        same = refl;
        event = back_event c x.left f p read ours;
        left = λ n q d. back_left c x.left f p read y.occurrence.verdict n q d;
      },
    )
