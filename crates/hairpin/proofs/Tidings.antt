-- What the event of a passage tells of its bytes.
use Rattle.std.proofs.Common.{◌≡◌, ℕ, Bool, true, false, cond, eqb, leb, List, [], ◌∷◌, map, Some, None, Ok, Err, Option, Result, sym, refl, subst, inl, inr}
use mathlib.Core.List.Memᴰ
use mathlib.Core.List.{Memᴰ}
use Rattle.std.proofs.lemmas.Bool.{eqb-true}
use Rattle.blocks.specs.Config.{Config}
use Rattle.blocks.specs.Ports.{subscriber_at}
use Rattle.blocks.specs.declared.refusal.Refusal.{Refusal}
use Rattle.blocks.specs.declared.refusal.Refusal.TheVariants.{NoSubscriber, NoMapping, UnrelatedError, Expired}
use Rattle.mappings.specs.declared.event.Event.{Event}
use Rattle.mappings.specs.declared.event.Event.TheVariants as event
use Rattle.mappings.specs.States.{State}
use Rattle.mappings.specs.Steps.{step}
use Rattle.mappings.specs.Runs.{state_after}
use Rattle.packets.specs.declared.facts.Facts.{Facts}
use Rattle.packets.specs.declared.facts.Heading.{Heading}
use Rattle.packets.specs.declared.facts.Reading.{Reading}
use Rattle.packets.specs.declared.facts.Reading.TheVariants as reading
use Rattle.packets.specs.Reading.{read_of, source_of, ttl_of}
use Rattle.records.specs.declared.record.Side.{Side}
use Rattle.records.specs.declared.record.Side.TheVariants.{Inside, Outside}
use Rattle.records.specs.Records.{Item, Packet, Tick}
use Rattle.hairpin.specs.declared.outcome.Outcome.{Outcome}
use Rattle.hairpin.specs.declared.outcome.Outcome.TheVariants.{Out, In, Turned, Refused, Ticked}
use Rattle.hairpin.specs.Events.{accepted, arriving, event_of, from_subscriber, inward, outward, return_of}
use Rattle.hairpin.specs.Passages.{Passage, passage, returning, passages_of, passages_from, event_in}

-- an event that some bytes make, their time to live falling by some hops: nothing, a subscriber's packet, a packet to us; or a tick, which has no bytes
pub data Tells (c : Config) : ℕ → List ℕ → Event → Type 0 where
  nothing : {hops : ℕ} {bs : List ℕ} (r : Refusal) → Tells c hops bs (event.Unreadable r)
  goes : {bs : List ℕ} (n : ℕ) (f : Facts) → read_of bs ≡ Ok (reading.Packet f) → subscriber_at c f.source.address ≡ Some n →
      Tells c 1 bs (event.Goes (record { subscriber = n; protocol = f.protocol; port = f.source.port; to = f.destination.address }))
  comes : {hops : ℕ} {bs : List ℕ} (f : Facts) → read_of bs ≡ Ok (reading.Packet f) → f.destination.address ≡ c.external →
      Tells c hops bs (event.Comes (record { protocol = f.protocol; port = f.destination.port; from = f.source.address }))
  ticks : Tells c 0 [] event.Tick

module _ (c : Config) (bs : List ℕ) where
  inward_tells : (hops : ℕ) (r : Reading Heading) → read_of bs ≡ Ok r → Tells c hops bs (inward c r)
  inward_tells hops (reading.Packet f) read = go (eqb f.destination.address c.external) refl
    where
      go : (b : Bool) → eqb f.destination.address c.external ≡ b →
          Tells c hops bs (cond b (event.Comes (record { protocol = f.protocol; port = f.destination.port; from = f.source.address })) (event.Unreadable NoMapping))
      go true e = comes f read (eqb-true f.destination.address c.external e)
      go false e = nothing NoMapping
  inward_tells hops (reading.Error h) read = nothing UnrelatedError

  outward_tells : (n : ℕ) (r : Reading Heading) → read_of bs ≡ Ok r → subscriber_at c (source_of r) ≡ Some n → Tells c 1 bs (outward n r)
  outward_tells n (reading.Packet f) read its = goes n f read its
  outward_tells n (reading.Error h) read its = nothing UnrelatedError

  -- what has no time to live left tells nothing
  admitted_tells : (go : Reading Heading → Event) (r : Reading Heading) → Tells c 1 bs (go r) → (expired : Bool) → Tells c 1 bs (accepted go (cond expired (Err Expired) (Ok r)))
  admitted_tells go r t true = nothing Expired
  admitted_tells go r t false = t

  from_tells : (r : Reading Heading) → read_of bs ≡ Ok r → (o : Option ℕ) → subscriber_at c (source_of r) ≡ o → Tells c 1 bs (from_subscriber o r)
  from_tells r read None e = nothing NoSubscriber
  from_tells r read (Some n) e = admitted_tells (outward n) r (outward_tells n r read e) (leb (ttl_of r) 1)

  arriving_tells : (side : Side) (r : Reading Heading) → read_of bs ≡ Ok r → Tells c 1 bs (arriving c side r)
  arriving_tells Inside r read = from_tells r read (subscriber_at c (source_of r)) refl
  arriving_tells Outside r read = admitted_tells (inward c) r (inward_tells 1 r read) (leb (ttl_of r) 1)

  accepted_tells : (hops : ℕ) (go : Reading Heading → Event) → ((r : Reading Heading) → read_of bs ≡ Ok r → Tells c hops bs (go r)) → (q : Result (Reading Heading) Refusal) → read_of bs ≡ q → Tells c hops bs (accepted go q)
  accepted_tells hops go t (Ok r) e = t r e
  accepted_tells hops go t (Err x) e = nothing x

  pub packet_tells : (side : Side) → Tells c 1 bs (event_of c side bs)
  packet_tells side = accepted_tells 1 (arriving c side) (arriving_tells side) (read_of bs) refl

  pub return_tells : Tells c 0 bs (return_of c bs)
  return_tells = accepted_tells 0 (inward c) (inward_tells 0) (read_of bs) refl

-- every passage of a run is made by an event that tells of its bytes
pub data Made (c : Config) : Passage → Type 0 where
  made : (s : State) (hops : ℕ) (e : Event) (bs : List ℕ) → Tells c hops bs e → Made c (passage c s hops e bs)

returning_made : (c : Config) (s : State) (bs : List ℕ) (o : Outcome) (x : Passage) → Memᴰ x (returning c s bs o) → Made c x
returning_made c s bs Out x j = elim j [ ]
returning_made c s bs In x j = elim j [ ]
returning_made c s bs Turned x j = subst (λ y. Made c y) (sym (Memᴰ.eq_of_singleton j)) (made s 0 (return_of c bs) bs (return_tells c bs))
returning_made c s bs (Refused r) x j = elim j [ ]
returning_made c s bs Ticked x j = elim j [ ]

item_made : (c : Config) (s : State) (i : Item) (x : Passage) → Memᴰ x (passages_of c s i) → Made c x
item_made c s (Packet side bs) x j = elim (Memᴰ.cases_cons j) [
  | inl e ↦ subst (λ y. Made c y) (sym e) (made s 1 (event_of c side bs) bs (packet_tells c bs side))
  | inr k ↦
      let y : Passage = passage c s 1 (event_of c side bs) bs in
      returning_made c (step c (event_of c side bs) s).state y.left y.outcome x k
]
item_made c s Tick x j = subst (λ y. Made c y) (sym (Memᴰ.eq_of_singleton j)) (made s 0 event.Tick [] ticks)

pub all_made : (c : Config) (s : State) (is : List Item) (x : Passage) → Memᴰ x (passages_from c s is) → Made c x
unfolding passages_from
all_made c s [] x j = elim j [ ]
all_made c s (i ∷ is) x j = elim (Memᴰ.append_cases (passages_of c s i) j) [
  | inl k ↦ item_made c s i x k
  | inr k ↦ all_made c (state_after c s (map event_in (passages_of c s i))) is x k
]
