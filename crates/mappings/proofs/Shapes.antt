-- The shapes that a step can have, each with what is known where it has it. Every law of one step goes by these cases.
use Rattle.std.proofs.Common.{◌≡◌, ℕ, ◌<◌, Bool, true, false, cond, ◌&&◌, ◌||◌, ltb, leb, is_some, Some, None, Option, sym, refl, subst}
use mathlib.Core.List.{Memᴰ}
use Rattle.std.proofs.lemmas.Bool.{and_parts, ltb-true, leb-false}
use Rattle.blocks.specs.Config.{Config}
use Rattle.blocks.specs.declared.refusal.Refusal.{Refusal}
use Rattle.blocks.specs.declared.refusal.Refusal.TheVariants.{NoSubscriber, NoPort, NoMapping, NotRemembered, UnrelatedError}
use Rattle.mappings.specs.declared.event.Outward.{Outward}
use Rattle.mappings.specs.declared.event.Inward.{Inward}
use Rattle.mappings.specs.declared.event.Event.{Event}
use Rattle.mappings.specs.declared.event.Event.TheVariants.{Unreadable, Goes, Comes, ErrorGoes, ErrorComes, Tick}
use Rattle.mappings.specs.declared.event.Verdict.TheVariants.{Sent, Delivered, Refused}
use Rattle.mappings.specs.Searches.{first}
use Rattle.mappings.specs.Mappings.{Mapping, live, is_of, is_in, made, noting}
use Rattle.mappings.specs.States.{State, ports_of}
use Rattle.mappings.specs.Steps.{Step, only, exhausted, sent_by, by_next_block, by_free, by_face, by_face_only, noting_at, ticked, face_of, is_face, is_free, is_of_protocol, live_and, remembers, arrival, next_block, handled, last_tick, last_moment, step}
use Rattle.mappings.specs.Promise.{inward_of}
use Rattle.mappings.proofs.Options.{true_not_false}
use Rattle.mappings.proofs.Firsts.{first_some}

-- the live mapping m of the subscriber's port is at the port p
pub record Face (c : Config) (s : State) (o : Outward) (p : ℕ) (m : Mapping) : Type 0 where
  pub among : Memᴰ p (ports_of c s o.subscriber)
  pub there : s.slots p ≡ Some m
  pub lives : live c s.tick m ≡ true
  pub its : is_of o m ≡ true

-- the live mapping m at the port of what comes in remembers where it comes from
pub record Known (c : Config) (s : State) (i : Inward) (m : Mapping) : Type 0 where
  pub there : s.slots i.port ≡ Some m
  pub lives : live c s.tick m ≡ true
  pub its : is_of_protocol i m ≡ true
  pub remembered : is_in i.from m.remembered ≡ true

-- a subscriber's port has no face, and gets one
pub record Faceless (c : Config) (s : State) (o : Outward) : Type 0 where
  pub one : o.subscriber < c.subscribers
  pub none : face_of c o s ≡ None

pub data Shape (c : Config) (s : State) : Event → Step → Type 0 where
  refuses : {e : Event} (r : Refusal) → Shape c s e (only (Refused r) s)
  stops : {e : Event} → Shape c s e (exhausted s)
  delivers : {e : Event} (i : Inward) (m : Mapping) → inward_of e ≡ Some i → Known c s i m → Shape c s e (only (Delivered m.subscriber m.port) s)
  errs : (o : Outward) (p : ℕ) (m : Mapping) → o.subscriber < c.subscribers → Face c s o p m → is_in o.to m.remembered ≡ true → Shape c s (ErrorGoes o) (only (Sent p) s)
  again : (o : Outward) (p : ℕ) (m : Mapping) → o.subscriber < c.subscribers → Face c s o p m → Shape c s (Goes o) (sent_by p (Some (noting s.tick o.to m)) s)
  makes : (o : Outward) (p : ℕ) → Faceless c s o → first (is_free s.slots) (ports_of c s o.subscriber) ≡ Some p →
      Shape c s (Goes o) (sent_by p (Some (made s.tick o)) s)
  gives : (o : Outward) (b : ℕ) → Faceless c s o → first (is_free s.slots) (ports_of c s o.subscriber) ≡ None → next_block c s o.subscriber ≡ Some b →
      Shape c s (Goes o) (by_next_block c o s (Some b))
  ticks : s.tick < last_tick → Shape c s Tick (ticked c s)

face_known : (c : Config) (s : State) (o : Outward) (p : ℕ) (v : Option Mapping) → face_of c o s ≡ Some p → s.slots p ≡ v → (m : Mapping) × (v ≡ Some m) × Face c s o p m
face_known c s o p v e k = go v k (subst (λ w. is_some (live_and c s.tick (is_of o) w) ≡ true) k found.1)
  where
    found : Memᴰ p (ports_of c s o.subscriber) × (is_face c s.tick s.slots o p ≡ true)
    found = first_some (is_face c s.tick s.slots o) (ports_of c s o.subscriber) p e

    at : (m : Mapping) → s.slots p ≡ Some m → (b : Bool) → (live c s.tick m && is_of o m) ≡ b → is_some (cond b (Some m) None) ≡ true → Face c s o p m
    at m h true q t = let both = and_parts (live c s.tick m) (is_of o m) q in record { among = found.0; there = h; lives = both.0; its = both.1 }
    at m h false q t = true_not_false (sym t)

    go : (w : Option Mapping) → s.slots p ≡ w → is_some (live_and c s.tick (is_of o) w) ≡ true → (m : Mapping) × (w ≡ Some m) × Face c s o p m
    go None h t = true_not_false (sym t)
    go (Some m) h t = (m, refl, at m h (live c s.tick m && is_of o m) refl t)

module _ (c : Config) (s : State) (o : Outward) where
  next_shape : Faceless c s o → first (is_free s.slots) (ports_of c s o.subscriber) ≡ None → (x : Option ℕ) → next_block c s o.subscriber ≡ x → Shape c s (Goes o) (by_next_block c o s x)
  next_shape f e None k = refuses NoPort
  next_shape f e (Some b) k = gives o b f e k

  free_shape : Faceless c s o → (x : Option ℕ) → first (is_free s.slots) (ports_of c s o.subscriber) ≡ x → Shape c s (Goes o) (by_free c o s x)
  free_shape f None e = next_shape f e (next_block c s o.subscriber) refl
  free_shape f (Some p) e = makes o p f e

  face_shape : o.subscriber < c.subscribers → (x : Option ℕ) → face_of c o s ≡ x → Shape c s (Goes o) (by_face c o s x)
  face_shape h None e = free_shape (record { one = h; none = e }) (first (is_free s.slots) (ports_of c s o.subscriber)) refl
  face_shape h (Some p) e =
      let k = face_known c s o p (s.slots p) e refl in
      subst (λ v. Shape c s (Goes o) (sent_by p (noting_at s.tick o.to v) s)) (sym k.1) (again o p k.0 h k.2)

  goes_shape : (b : Bool) → ltb o.subscriber c.subscribers ≡ b → Shape c s (Goes o) (cond b (by_face c o s (face_of c o s)) (only (Refused NoSubscriber) s))
  goes_shape true h = face_shape (ltb-true o.subscriber c.subscribers h) (face_of c o s) refl
  goes_shape false h = refuses NoSubscriber

  remembered_shape : o.subscriber < c.subscribers → (p : ℕ) (m : Mapping) → Face c s o p m → (b : Bool) → is_in o.to m.remembered ≡ b → Shape c s (ErrorGoes o) (only (cond b (Sent p) (Refused UnrelatedError)) s)
  remembered_shape h p m f true k = errs o p m h f k
  remembered_shape h p m f false k = refuses UnrelatedError

  error_shape : o.subscriber < c.subscribers → (x : Option ℕ) → face_of c o s ≡ x → Shape c s (ErrorGoes o) (only (by_face_only o s x) s)
  error_shape h None e = refuses UnrelatedError
  error_shape h (Some p) e =
      let k = face_known c s o p (s.slots p) e refl in
      subst (λ v. Shape c s (ErrorGoes o) (only (cond (remembers o.to v) (Sent p) (Refused UnrelatedError)) s)) (sym k.1)
      (remembered_shape h p k.0 k.2 (is_in o.to k.0.remembered) refl)

  error_goes_shape : (b : Bool) → ltb o.subscriber c.subscribers ≡ b → Shape c s (ErrorGoes o) (only (cond b (by_face_only o s (face_of c o s)) (Refused NoSubscriber)) s)
  error_goes_shape true h = error_shape (ltb-true o.subscriber c.subscribers h) (face_of c o s) refl
  error_goes_shape false h = refuses NoSubscriber

module _ (c : Config) (s : State) (e : Event) (i : Inward) (its : inward_of e ≡ Some i) (missing forgotten : Refusal) where
  here_shape : (m : Mapping) → s.slots i.port ≡ Some m → (b : Bool) → (live c s.tick m && is_of_protocol i m) ≡ b → (d : Bool) → is_in i.from m.remembered ≡ d →
      Shape c s e (only (arrival missing forgotten i.from (cond b (Some m) None)) s)
  here_shape m h false k d j = refuses missing
  here_shape m h true k true j =
      let both = and_parts (live c s.tick m) (is_of_protocol i m) k in
      subst (λ x. Shape c s e (only (cond x (Delivered m.subscriber m.port) (Refused forgotten)) s)) (sym j)
      (delivers i m its (record { there = h; lives = both.0; its = both.1; remembered = j }))
  here_shape m h true k false j = subst (λ x. Shape c s e (only (cond x (Delivered m.subscriber m.port) (Refused forgotten)) s)) (sym j) (refuses forgotten)

  comes_shape : (v : Option Mapping) → s.slots i.port ≡ v → Shape c s e (only (arrival missing forgotten i.from (live_and c s.tick (is_of_protocol i) v)) s)
  comes_shape None h = refuses missing
  comes_shape (Some m) h = here_shape m h (live c s.tick m && is_of_protocol i m) refl (is_in i.from m.remembered) refl

tick_shape : (c : Config) (s : State) (b : Bool) → leb last_tick s.tick ≡ b → Shape c s Tick (cond b (exhausted s) (ticked c s))
tick_shape c s true h = stops
tick_shape c s false h = ticks (leb-false last_tick s.tick h)

pub handled_shape : (c : Config) (e : Event) (s : State) → Shape c s e (handled c e s)
handled_shape c (Unreadable r) s = refuses r
handled_shape c (Goes o) s = goes_shape c s o (ltb o.subscriber c.subscribers) refl
handled_shape c (Comes i) s = comes_shape c s (Comes i) i refl NoMapping NotRemembered (s.slots i.port) refl
handled_shape c (ErrorGoes o) s = error_goes_shape c s o (ltb o.subscriber c.subscribers) refl
handled_shape c (ErrorComes i) s = comes_shape c s (ErrorComes i) i refl UnrelatedError UnrelatedError (s.slots i.port) refl
handled_shape c Tick s = tick_shape c s (leb last_tick s.tick) refl

pub shape : (c : Config) (e : Event) (s : State) → Shape c s e (step c e s)
shape c e s = go (s.over || leb last_moment s.moment)
  where
    go : (b : Bool) → Shape c s e (cond b (exhausted s) (handled c e s))
    go true = stops
    go false = handled_shape c e s
