-- A run on bytes has the transcript of its events.
use Rattle.std.proofs.Common.{◌≡◌, ℕ, List, [], ◌∷◌, ◌++◌, map, sym, refl, ap, ◌∙◌}
use mathlib.Core.List.{map-append}
use Rattle.blocks.specs.Config.{Config}
use Rattle.mappings.specs.declared.event.Event.{Event}
use Rattle.mappings.specs.States.{State, fresh}
use Rattle.mappings.specs.Steps.{step}
use Rattle.mappings.specs.Runs.{state_after, transcript_from}
use Rattle.mappings.proofs.Continued.{transcript_on}
use Rattle.records.specs.Records.{Item, Packet, Tick}
use Rattle.hairpin.specs.declared.outcome.Outcome.{Outcome}
use Rattle.hairpin.specs.declared.outcome.Outcome.TheVariants.{Out, In, Turned, Refused, Ticked}
use Rattle.hairpin.specs.Events.{event_of}
use Rattle.hairpin.specs.Passages.{Passage, passage, returning, passages_of, passages_from, occurrence_in, event_in}
use Rattle.hairpin.specs.Promise.{RunOfEvents}

with_return_lem : (c : Config) (s : State) (hops : ℕ) (e : Event) (bs left : List ℕ) (o : Outcome) →
    map occurrence_in (passage c s hops e bs ∷ returning c (step c e s).state left o)
    ≡ transcript_from c s (map event_in (passage c s hops e bs ∷ returning c (step c e s).state left o))
unfolding transcript_from
with_return_lem c s hops e bs left Out = refl
with_return_lem c s hops e bs left In = refl
with_return_lem c s hops e bs left Turned = refl
with_return_lem c s hops e bs left (Refused r) = refl
with_return_lem c s hops e bs left Ticked = refl

of_item : (c : Config) (s : State) (i : Item) → map occurrence_in (passages_of c s i) ≡ transcript_from c s (map event_in (passages_of c s i))
unfolding transcript_from
of_item c s (Packet side bs) =
    let x : Passage = passage c s 1 (event_of c side bs) bs in
    with_return_lem c s 1 (event_of c side bs) bs x.left x.outcome
of_item c s Tick = refl

of_items : (c : Config) (s : State) (is : List Item) → map occurrence_in (passages_from c s is) ≡ transcript_from c s (map event_in (passages_from c s is))
unfolding transcript_from passages_from
of_items c s [] = refl
of_items c s (i ∷ is) =
    let here : List Passage = passages_of c s i in
    let t : State = state_after c s (map event_in here) in
    let later : List Passage = passages_from c t is in
    map-append occurrence_in here later
    ∙ (ap (λ xs. xs ++ map occurrence_in later) (of_item c s i)
    ∙ (ap (λ xs. transcript_from c s (map event_in here) ++ xs) (of_items c t is)
    ∙ (sym (transcript_on c s (map event_in here) (map event_in later))
    ∙ ap (transcript_from c s) (sym (map-append event_in here later)))))

pub run_of_events : RunOfEvents
run_of_events c is = of_items c (fresh c) is
