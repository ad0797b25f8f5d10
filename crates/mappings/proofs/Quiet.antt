-- What a refusal leaves as it was, and how a run ends.
use Rattle.std.proofs.Common.{◌≡◌, ℕ, ◌<◌, ◌≤◌, Bool, true, false, cond, ◌||◌, ltb, leb, ◌⊎◌, List, [], ◌∷◌, ◌++◌, Some, None, Option, sym, refl, ap, ◌∙◌, inl, inr, append-nil, arith}
use Rattle.std.proofs.lemmas.Bool.{or_parts, leb-false}
use Rattle.blocks.specs.Config.{Config}
use Rattle.blocks.specs.declared.refusal.Refusal.{Refusal}
use Rattle.blocks.specs.declared.refusal.Refusal.TheVariants.{NoSubscriber, NoMapping, NotRemembered, UnrelatedError}
use Rattle.blocks.specs.Refusals.{number_of}
use Rattle.mappings.specs.declared.event.Outward.{Outward}
use Rattle.mappings.specs.Mappings.{Mapping, is_in}
use Rattle.mappings.specs.declared.event.Event.{Event}
use Rattle.mappings.specs.declared.event.Event.TheVariants.{Unreadable, Goes, Comes, ErrorGoes, ErrorComes, Tick}
use Rattle.mappings.specs.declared.event.Verdict.TheVariants.{Sent, Delivered, Refused}
use Rattle.mappings.specs.Searches.{first}
use Rattle.mappings.specs.States.{State, fresh, ports_of}
use Rattle.mappings.specs.Steps.{Step, counted, ended, exhausted, handled, ticked, only, is_free, face_of, next_block, by_next_block, by_free, by_face, by_face_only, goes, remembers, arrival, live_and, is_of_protocol, step, last_tick, last_moment}
use Rattle.mappings.specs.Runs.{state_after, book_from}
use Rattle.mappings.specs.Promise.{after, refusal_number, changes_mappings, at_limit, Refusals, InwardsQuiet, Over, Limits}
use Rattle.mappings.proofs.Options.{true_not_false}
use Rattle.mappings.proofs.Shapes.{Shape, refuses, stops, delivers, errs, again, makes, gives, ticks, shape, handled_shape}
use Rattle.mappings.proofs.Continued.{state_on, book_on}
use Rattle.mappings.proofs.Moments.{Counted, step_counted, over_step, over_state, over_book}
use Rattle.mappings.proofs.Tracing.{clash}

abbrev Quiet : State → Step → Type 0
Quiet s r = ((r.state ≡ counted s.slots s) ⊎ (r.state ≡ ended s)) × (r.lines ≡ [])

refused_quiet : (c : Config) (s : State) {e : Event} {r : Step} → Shape c s e r → (k : Refusal) → r.verdict ≡ Refused k → Quiet s r
refused_quiet c s (refuses r) k v = (inl refl, refl)
refused_quiet c s stops k v = (inr refl, refl)
refused_quiet c s (delivers j m a b) k v = (inl refl, refl)
refused_quiet c s (errs o p m a f b) k v = (inl refl, refl)
refused_quiet c s (again o p m a f) k v = clash (cc)
refused_quiet c s (makes o p f e) k v = clash (cc)
refused_quiet c s (gives o b f a e) k v = clash (cc)
refused_quiet c s (ticks a) k v = clash (cc)

pub refusals : Refusals
refusals c es e r v = refused_quiet c (after c es) (shape c e (after c es)) r v

inward_quiet : (c : Config) (s : State) {e : Event} {r : Step} → Shape c s e r → changes_mappings e ≡ false → Quiet s r
inward_quiet c s (refuses r) v = (inl refl, refl)
inward_quiet c s stops v = (inr refl, refl)
inward_quiet c s (delivers j m a b) v = (inl refl, refl)
inward_quiet c s (errs o p m a f b) v = (inl refl, refl)
inward_quiet c s (again o p m a f) v = true_not_false v
inward_quiet c s (makes o p f e) v = true_not_false v
inward_quiet c s (gives o b f a e) v = true_not_false v
inward_quiet c s (ticks a) v = true_not_false v

pub inwards_quiet : InwardsQuiet
inwards_quiet c es e v = inward_quiet c (after c es) (shape c e (after c es)) v

pub over : Over
over c es later e h = (
  state_on c (fresh c) es later ∙ over_state c (after c es) h later,
  book_on c (fresh c) es later ∙ ap (λ ls. book_from c (fresh c) es ++ ls) (over_book c (after c es) h later) ∙ append-nil (book_from c (fresh c) es),
  ap (λ (r : Step). refusal_number r.verdict) (over_step c e (after c es) h),
)

-- a packet outwards never ends a run
module _ (c : Config) (o : Outward) (s : State) where
  next_over : (x : Option ℕ) → (by_next_block c o s x).state.over ≡ s.over
  next_over None = refl
  next_over (Some b) = refl

  free_over : (x : Option ℕ) → (by_free c o s x).state.over ≡ s.over
  free_over None = next_over (next_block c s o.subscriber)
  free_over (Some p) = refl

  face_over : (x : Option ℕ) → (by_face c o s x).state.over ≡ s.over
  face_over None = free_over (first (is_free s.slots) (ports_of c s o.subscriber))
  face_over (Some p) = refl

  goes_over : (goes c o s).state.over ≡ s.over
  goes_over = go (ltb o.subscriber c.subscribers)
    where
      go : (b : Bool) → (cond b (by_face c o s (face_of c o s)) (only (Refused NoSubscriber) s)).state.over ≡ s.over
      go true = face_over (face_of c o s)
      go false = refl

-- how an event that can be counted may end the run
abbrev Ends : State → Event → Step → Type 0
Ends s e r = (r.state.over ≡ at_limit s e) × (r.state.over ≡ true → refusal_number r.verdict ≡ 12)

never_ends : (s : State) (e : Event) (r : Step) → s.over ≡ false → r.state.over ≡ s.over → at_limit s e ≡ false → Ends s e r
never_ends s e r a b d = (b ∙ a ∙ sym d, λ h. true_not_false (sym h ∙ b ∙ a))

handled_ends : (c : Config) (e : Event) (s : State) → s.over ≡ false → leb last_moment s.moment ≡ false → Ends s e (handled c e s)
handled_ends c (Unreadable r) s a b = never_ends s (Unreadable r) (handled c (Unreadable r) s) a refl b
handled_ends c (Goes o) s a b = never_ends s (Goes o) (goes c o s) a (goes_over c o s) b
handled_ends c (Comes i) s a b = never_ends s (Comes i) (handled c (Comes i) s) a refl b
handled_ends c (ErrorGoes o) s a b = never_ends s (ErrorGoes o) (handled c (ErrorGoes o) s) a refl b
handled_ends c (ErrorComes i) s a b = never_ends s (ErrorComes i) (handled c (ErrorComes i) s) a refl b
handled_ends c Tick s a b = go (leb last_tick s.tick) refl
  where
    limit : (x : Bool) → leb last_tick s.tick ≡ x → at_limit s Tick ≡ x
    limit x h = ap (λ y. y || leb last_tick s.tick) b ∙ h

    go : (x : Bool) → leb last_tick s.tick ≡ x → Ends s Tick (cond x (exhausted s) (ticked c s))
    go true h = (sym (limit true h), λ k. refl)
    go false h = (a ∙ sym (limit false h), λ k. true_not_false (sym k ∙ a))

-- at its last moment an event of any kind is past its limit
last_limit : (s : State) (e : Event) → leb last_moment s.moment ≡ true → at_limit s e ≡ true
last_limit s (Unreadable r) h = h
last_limit s (Goes o) h = h
last_limit s (Comes i) h = h
last_limit s (ErrorGoes o) h = h
last_limit s (ErrorComes i) h = h
last_limit s Tick h = ap (λ y. y || leb last_tick s.tick) h

abbrev EndsOr : State → Event → Step → Type 0
EndsOr s e r = (r.state.over ≡ (s.over || at_limit s e)) × (r.state.over ≡ true → refusal_number r.verdict ≡ 12)

step_ends : (c : Config) (e : Event) (s : State) → EndsOr s e (step c e s)
step_ends c e s = go s.over (leb last_moment s.moment) refl refl
  where
    go : (x y : Bool) → s.over ≡ x → leb last_moment s.moment ≡ y → EndsOr s e (cond (x || y) (exhausted s) (handled c e s))
    go true y a b = (ap (λ z. z || at_limit s e) (sym a), λ k. refl)
    go false true a b = (sym (ap (λ z. z || at_limit s e) a ∙ last_limit s e b), λ k. refl)
    go false false a b = let h = handled_ends c e s a b in (h.0 ∙ sym (ap (λ z. z || at_limit s e) a), h.1)

-- what was read and can be counted is refused with 12 at the last tick alone
module _ (c : Config) (o : Outward) (s : State) where
  next_number : (x : Option ℕ) → refusal_number (by_next_block c o s x).verdict ≡ 12 → ⊥
  next_number None e = omega arith
  next_number (Some b) e = omega arith

  free_number : (x : Option ℕ) → refusal_number (by_free c o s x).verdict ≡ 12 → ⊥
  free_number None e = next_number (next_block c s o.subscriber) e
  free_number (Some p) e = omega arith

  face_number : (x : Option ℕ) → refusal_number (by_face c o s x).verdict ≡ 12 → ⊥
  face_number None e = free_number (first (is_free s.slots) (ports_of c s o.subscriber)) e
  face_number (Some p) e = omega arith

  goes_number : (b : Bool) → refusal_number (cond b (by_face c o s (face_of c o s)) (only (Refused NoSubscriber) s)).verdict ≡ 12 → ⊥
  goes_number true e = face_number (face_of c o s) e
  goes_number false e = omega arith

  error_number : (b : Bool) (x : Option ℕ) → refusal_number (cond b (by_face_only o s x) (Refused NoSubscriber)) ≡ 12 → ⊥
  error_number false x e = omega arith
  error_number true None e = omega arith
  error_number true (Some p) e = go (remembers o.to (s.slots p)) e
    where
      go : (b : Bool) → refusal_number (cond b (Sent p) (Refused UnrelatedError)) ≡ 12 → ⊥
      go true h = omega arith
      go false h = omega arith

arrival_number : (missing forgotten : Refusal) (a : ℕ) (v : Option Mapping) → (number_of missing ≡ 12 → ⊥) → (number_of forgotten ≡ 12 → ⊥) → refusal_number (arrival missing forgotten a v) ≡ 12 → ⊥
arrival_number missing forgotten a None f g e = f e
arrival_number missing forgotten a (Some m) f g e = go (is_in a m.remembered) e
  where
    go : (b : Bool) → refusal_number (cond b (Delivered m.subscriber m.port) (Refused forgotten)) ≡ 12 → ⊥
    go true h = omega arith
    go false h = g h

handled_twelve : (c : Config) (e : Event) (s : State) → ((r : Refusal) → e ≡ Unreadable r → ⊥) → refusal_number (handled c e s).verdict ≡ 12 → (handled c e s).state.over ≡ true
handled_twelve c (Unreadable r) s read e = absurd (read r refl)
handled_twelve c (Goes o) s read e = absurd (goes_number c o s (ltb o.subscriber c.subscribers) e)
handled_twelve c (Comes i) s read e = absurd (arrival_number NoMapping NotRemembered i.from (live_and c s.tick (is_of_protocol i) (s.slots i.port)) (λ h. omega arith) (λ h. omega arith) e)
handled_twelve c (ErrorGoes o) s read e = absurd (error_number c o s (ltb o.subscriber c.subscribers) (face_of c o s) e)
handled_twelve c (ErrorComes i) s read e = absurd (arrival_number UnrelatedError UnrelatedError i.from (live_and c s.tick (is_of_protocol i) (s.slots i.port)) (λ h. omega arith) (λ h. omega arith) e)
handled_twelve c Tick s read e = go (leb last_tick s.tick) e
  where
    go : (b : Bool) → refusal_number (cond b (exhausted s) (ticked c s)).verdict ≡ 12 → (cond b (exhausted s) (ticked c s)).state.over ≡ true
    go true h = refl
    go false h = absurd (omega arith)

step_twelve : (c : Config) (e : Event) (s : State) → ((r : Refusal) → e ≡ Unreadable r → ⊥) → refusal_number (step c e s).verdict ≡ 12 → (step c e s).state.over ≡ true
step_twelve c e s read h = go (s.over || leb last_moment s.moment) h
  where
    go : (b : Bool) → refusal_number (cond b (exhausted s) (handled c e s)).verdict ≡ 12 → (cond b (exhausted s) (handled c e s)).state.over ≡ true
    go true k = refl
    go false k = handled_twelve c e s read k

-- neither number passes its last value
pub record Below (s : State) : Type 0 where
  pub moment : s.moment ≤ last_moment
  pub tick : s.tick ≤ last_tick

shape_tick : (c : Config) (s : State) {e : Event} {r : Step} → Shape c s e r → s.tick ≤ last_tick → r.state.tick ≤ last_tick
shape_tick c s (refuses r) l = l
shape_tick c s stops l = l
shape_tick c s (delivers j m a b) l = l
shape_tick c s (errs o p m a f b) l = l
shape_tick c s (again o p m a f) l = l
shape_tick c s (makes o p f e) l = l
shape_tick c s (gives o b f a e) l = l
shape_tick c s (ticks a) l = omega arith

step_moment : (c : Config) (e : Event) (s : State) → s.moment ≤ last_moment → (step c e s).state.moment ≤ last_moment
step_moment c e s l = go (s.over || leb last_moment s.moment) refl
  where
    counted_on : s.moment < last_moment → Counted s (handled c e s) → (handled c e s).state.moment ≤ last_moment
    counted_on h (inl k) = omega arith
    counted_on h (inr k) = omega (arith, k.0)

    go : (b : Bool) → (s.over || leb last_moment s.moment) ≡ b → (cond b (exhausted s) (handled c e s)).state.moment ≤ last_moment
    go true h = l
    go false h = counted_on (leb-false last_moment s.moment (or_parts s.over (leb last_moment s.moment) h).1) (step_counted c s (handled_shape c e s))

run_below : (c : Config) (s : State) → Below s → (es : List Event) → Below (state_after c s es)
unfolding state_after
run_below c s b [] = b
run_below c s b (e ∷ es) = run_below c (step c e s).state (record { moment = step_moment c e s b.moment; tick = shape_tick c s (shape c e s) b.tick }) es

pub limits : Limits
limits c es e =
    let b = run_below c (fresh c) (record { moment = omega arith; tick = omega arith }) es in
    let h = step_ends c e (after c es) in
    (b.moment, b.tick, h.0, h.1, step_twelve c e (after c es))
