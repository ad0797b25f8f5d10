-- Packets that went out, and those that were refused: what is left of them, and who sent them.
use Rattle.std.proofs.Common.{◌≡◌, ℕ, Bool, true, false, List, Some, Ok, Err, Result, sym, refl, ap, ◌∙◌, subst}
use mathlib.Core.List.Memᴰ
use mathlib.Core.List.{Memᴰ}
use Rattle.blocks.specs.Config.{Config, within_limits}
use Rattle.blocks.specs.Ports.{subscriber_at}
use Rattle.blocks.specs.declared.refusal.Refusal.{Refusal}
use Rattle.mappings.specs.declared.event.Event.{Event}
use Rattle.mappings.specs.declared.event.Verdict.{Verdict}
use Rattle.mappings.specs.declared.event.Verdict.TheVariants as verdict
use Rattle.mappings.specs.States.{State, fresh}
use Rattle.mappings.specs.Steps.{Step, step}
use Rattle.mappings.specs.Runs.{run}
use Rattle.mappings.specs.Books.{who}
use Rattle.mappings.specs.Promise.{sender_of}
use Rattle.mappings.proofs.Options.{none_not_some, true_not_false}
use Rattle.mappings.proofs.Shapes.{Shape, refuses, stops, delivers, errs, again, makes, gives, ticks, shape}
use Rattle.mappings.proofs.Tracing as tracing
use Rattle.packets.specs.declared.facts.End.TheVariants.{Source}
use Rattle.packets.specs.declared.facts.Endpoint.{Endpoint}
use Rattle.packets.specs.declared.facts.Facts.{Facts}
use Rattle.packets.specs.declared.facts.Heading.{Heading}
use Rattle.packets.specs.declared.facts.Reading.{Reading}
use Rattle.packets.specs.declared.facts.Reading.TheVariants as reading
use Rattle.packets.specs.Laws.{FreshSums}
use Rattle.packets.specs.Reading.{read_of}
use Rattle.packets.specs.Writing.{sent}
use Rattle.packets.proofs.Again.{read_again}
use Rattle.packets.proofs.Fresh.{sums_are_fresh}
use Rattle.records.specs.Records.{Item}
use Rattle.hairpin.specs.declared.outcome.Outcome.TheVariants as outcome
use Rattle.hairpin.specs.Passages.{Passage, passage, passages, events, book, occurrence_in, left_by, rewritten, outcome_of}
use Rattle.hairpin.specs.Promise.{SentOut, Traced, Untouched, moment, went_out}
use Rattle.hairpin.proofs.Transcripts.{run_of_events}
use Rattle.hairpin.proofs.Tidings as tidings
use Rattle.hairpin.proofs.Tidings.{Tells, Made, made, all_made}

-- whatever is sent has a sender
pub sender : (c : Config) (s : State) {e : Event} {r : Step} → Shape c s e r → (p : ℕ) → r.verdict ≡ verdict.Sent p → (n : ℕ) × (sender_of e ≡ Some n)
sender c s (refuses r) p v = tracing.clash (cc)
sender c s stops p v = tracing.clash (cc)
sender c s (delivers i m a k) p v = tracing.clash (cc)
sender c s (errs o q m a f k) p v = (o.subscriber, refl)
sender c s (again o q m a f) p v = (o.subscriber, refl)
sender c s (makes o q f k) p v = (o.subscriber, refl)
sender c s (gives o b f k l) p v = (o.subscriber, refl)
sender c s (ticks a) p v = tracing.clash (cc)

went_sent : (ours : Bool) (v : Verdict) → went_out (outcome_of ours v) ≡ true → (p : ℕ) × (v ≡ verdict.Sent p)
went_sent ours (verdict.Sent p) w = (p, refl)
went_sent ours (verdict.Delivered n q) w = true_not_false (sym w)
went_sent ours (verdict.Refused r) w = true_not_false (sym w)
went_sent ours verdict.Ticked w = true_not_false (sym w)

-- a passage of a run happened in the run of its events
pub in_transcript : (c : Config) (is : List Item) (x : Passage) → Memᴰ x (passages c is) → Memᴰ x.occurrence (run c (events c is)).transcript
in_transcript c is x j = subst (λ xs. Memᴰ x.occurrence xs) (run_of_events c is) (Memᴰ.map occurrence_in j)

module _ (c : Config) (s : State) (bs : List ℕ) (n : ℕ) (f : Facts) (read : read_of bs ≡ Ok (reading.Packet f)) (its : subscriber_at c f.source.address ≡ Some n) where
  -- a packet that went out by the port p
  pub sent_out : (e : Event) (p : ℕ) → (step c e s).verdict ≡ verdict.Sent p → SentOut c (passage c s 1 e bs) n p f
  sent_out e p v =
      let external : Endpoint = record { address = c.external; port = p } in
      let left : left_by c 1 (read_of bs) (step c e s).verdict bs ≡ sent 1 f.protocol Source external bs =
      ap (λ y. left_by c 1 y (step c e s).verdict bs) read ∙ ap (λ y. rewritten c 1 f y bs) v in
      record {
        came = read;
        its = its;
        left = ap read_of left ∙ read_again bs f 1 Source external read;
        sums = subst (λ out. FreshSums f.protocol bs out) (sym left) (sums_are_fresh bs f 1 Source external read);
      }

made_traced : (c : Config) → within_limits c ≡ true → (is : List Item) (s : State) (hops : ℕ) (e : Event) (bs : List ℕ) → Tells c hops bs e →
    Memᴰ (passage c s hops e bs).occurrence (run c (events c is)).transcript → (p : ℕ) → (step c e s).verdict ≡ verdict.Sent p →
    (n : ℕ) × (p : ℕ) × (f : Facts) × SentOut c (passage c s hops e bs) n p f × (who c (book c is) p s.moment ≡ Some n)
made_traced c w is s hops e bs (tidings.nothing r) k p v = none_not_some (sender c s (shape c e s) p v).1
made_traced c w is s hops e bs (tidings.goes n f read its) k p v =
    (n, p, f, sent_out c s bs n f read its e p v, tracing.traced c w (events c is) (passage c s hops e bs).occurrence n p k refl v)
made_traced c w is s hops e bs (tidings.comes f read ours) k p v = none_not_some (sender c s (shape c e s) p v).1
made_traced c w is s hops e bs tidings.ticks k p v = none_not_some (sender c s (shape c e s) p v).1

trace : (c : Config) → within_limits c ≡ true → (is : List Item) (x : Passage) → Made c x → Memᴰ x.occurrence (run c (events c is)).transcript → went_out x.outcome ≡ true →
    (n : ℕ) × (p : ℕ) × (f : Facts) × SentOut c x n p f × (who c (book c is) p (moment x) ≡ Some n)
trace c w is x (made s hops e bs t) k out =
    let v = went_sent _ (step c e s).verdict out in
    made_traced c w is s hops e bs t k v.0 v.1

pub traced : Traced
traced c w is x j out = trace c w is x (all_made c (fresh c) is x j) (in_transcript c is x j) out

refused_verdict : (ours : Bool) (v : Verdict) (r : Refusal) → outcome_of ours v ≡ outcome.Refused r → v ≡ verdict.Refused r
refused_verdict true (verdict.Sent p) r o = tracing.clash (cc)
refused_verdict false (verdict.Sent p) r o = tracing.clash (cc)
refused_verdict ours (verdict.Delivered n q) r o = tracing.clash (cc)
refused_verdict ours (verdict.Refused k) r o = cc
refused_verdict ours verdict.Ticked r o = tracing.clash (cc)

refused_left : (c : Config) (hops : ℕ) (q : Result (Reading Heading) Refusal) (r : Refusal) (bs : List ℕ) → left_by c hops q (verdict.Refused r) bs ≡ bs
refused_left c hops (Ok (reading.Packet f)) r bs = refl
refused_left c hops (Ok (reading.Error h)) r bs = refl
refused_left c hops (Err e) r bs = refl

made_untouched : (c : Config) (x : Passage) (r : Refusal) → Made c x → x.outcome ≡ outcome.Refused r → x.left ≡ x.came
made_untouched c x r (made s hops e bs t) o =
    ap (λ v. left_by c hops (read_of bs) v bs) (refused_verdict _ (step c e s).verdict r o) ∙ refused_left c hops (read_of bs) r bs

pub untouched : Untouched
untouched c is x r j o = made_untouched c x r (all_made c (fresh c) is x j) o
