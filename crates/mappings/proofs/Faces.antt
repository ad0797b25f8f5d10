-- One port, one owner; one live port, one face; and the port stays its own until it has rested.
use Rattle.std.proofs.Common.{◌≡◌, ℕ, ◌+◌, ◌<◌, ◌≤◌, true, cond, ltb, leb, ◌⊎◌, List, get_or, is_some, Some, None, Option, sym, refl, ap, ◌∙◌, subst, inl, inr, arith}
use mathlib.Core.List.Memᴰ
use mathlib.Core.List.{Memᴰ}
use Rattle.std.proofs.lemmas.Bool.{cond-true, cond-false, le-leb, lt-ltb, le-ltb, cases_eq, not-true}
use Rattle.blocks.specs.Config.{Config, within_limits, lowest_port}
use Rattle.blocks.specs.Ports.{block_of, port_of}
use Rattle.mappings.specs.declared.event.Outward.{Outward}
use Rattle.mappings.specs.declared.event.Event.{Event}
use Rattle.mappings.specs.declared.event.Event.TheVariants.{Goes}
use Rattle.mappings.specs.declared.event.Verdict.TheVariants.{Refused}
use Rattle.blocks.specs.declared.refusal.Refusal.TheVariants.{NoSubscriber}
use Rattle.mappings.specs.Mappings.{Mapping, live, live_or_resting, is_of, made, noting}
use Rattle.mappings.specs.States.{State, further_of, ports_of, fresh}
use Rattle.mappings.specs.Steps.{Step, put, only, is_face, is_free, left_of, face_of, by_face}
use Rattle.mappings.specs.Promise.{after, holder_now, OneOwner, Agreed, OneFace, FaceUsed, FaceStays}
use Rattle.mappings.proofs.Options.{none_not_some, same_some, not_some}
use Rattle.mappings.proofs.Firsts.{first_some, first_only}
use Rattle.mappings.proofs.Ports.{Good, good, blocks_for, block_port}
use Rattle.mappings.proofs.Shapes.{Shape, refuses, stops, delivers, errs, again, makes, gives, ticks, shape}
use Rattle.mappings.proofs.Sound.{Sound, put_same, put_other, of_parts, is_face_lem, face_test}
use Rattle.mappings.proofs.Soundness.{Next, next_known, lowest_in, fresh_sound, run_sound}
use Rattle.mappings.proofs.Continued.{state_more, running}

pub sound : (c : Config) → within_limits c ≡ true → (es : List Event) → Sound c (after c es)
sound c w es = run_sound c (good c w) (fresh c) (fresh_sound c) es

-- a port of a subscriber's block: the subscriber holds it
pub holds : (c : Config) (s : State) → Sound c s → (n p : ℕ) → n < c.subscribers → lowest_port ≤ p → Memᴰ (block_of c p) (blocks_for s n) → holder_now c s p ≡ Some n
holds c s i n p one low j = cond-true (leb lowest_port p) _ None (le-leb lowest_port p low) ∙ go (Memᴰ.cases_cons j)
  where
    go : (block_of c p ≡ n) ⊎ Memᴰ (block_of c p) (further_of s n) → cond (ltb (block_of c p) c.subscribers) (Some (block_of c p)) (get_or s.holders (block_of c p) None) ≡ Some n
    go (inl e) = cond-true (ltb (block_of c p) c.subscribers) _ _ (lt-ltb (block_of c p) c.subscribers (subst (λ b. b < c.subscribers) (sym e) one)) ∙ ap Some e
    go (inr k) = let h = i.held n (block_of c p) k in cond-false (ltb (block_of c p) c.subscribers) _ _ (le-ltb (block_of c p) c.subscribers h.1) ∙ h.0

pub one_owner : OneOwner
one_owner c w es p m e =
    let i = sound c w es in
    let own = i.owned p m e in
    (holds c (after c es) i m.subscriber p own.0 own.1 own.2, i.rests p m e)

pub agreed : Agreed
agreed c w es n = let i = sound c w es in (λ b j. i.held n b j, λ b e. i.listed n b e, i.most n)

pub one_face : OneFace
one_face c w es p q m n e f l k a b d = (sound c w es).face p q m n e f l k (record { subscriber = a; protocol = b; port = d })

-- the face of a live mapping's port is found
pub face_found : (c : Config) → Good c → (s : State) → Sound c s → (o : Outward) (p : ℕ) (m : Mapping) → s.slots p ≡ Some m → live c s.tick m ≡ true → is_of o m ≡ true → face_of c o s ≡ Some p
face_found c g s i o p m e l k =
    let own = i.owned p m e in
    let its = of_parts o m k in
    first_only (is_face c s.tick s.slots o) (ports_of c s o.subscriber) p
    (subst (λ n. Memᴰ p (ports_of c s n)) its.0 (block_port c g s m.subscriber p own.1 own.2))
    (is_face_lem c s.tick s.slots o p m e l k)
    (λ z h. let t = face_test c s.tick s.slots o z h in let z-its = of_parts o t.0 t.3 in
    i.face z p t.0 m t.1 e t.2 l (record { subscriber = z-its.0 ∙ sym its.0; protocol = z-its.1 ∙ sym its.1; port = z-its.2 ∙ sym its.2 }))

pub face_used : FaceUsed
face_used c w es r p m o e l k =
    let s = after c es in
    let i = sound c w es in
    let one : o.subscriber < c.subscribers = subst (λ n. n < c.subscribers) (of_parts o m k).0 (i.owned p m e).0 in
    ap (λ x. x.verdict) (running c (Goes o) s r
    ∙ cond-true (ltb o.subscriber c.subscribers) (by_face c o s (face_of c o s)) (only (Refused NoSubscriber) s) (lt-ltb o.subscriber c.subscribers one)
    ∙ ap (by_face c o s) (face_found c (good c w) s i o p m e l k))

-- no mapping has a port of a further block that nobody has
pub given_free : (c : Config) (s : State) → Sound c s → (n b : ℕ) → Next c s n b → (p : ℕ) (m : Mapping) → block_of c p ≡ b → s.slots p ≡ Some m → ⊥
given_free c s i n b new p m at e =
    let own = i.owned p m e in
    go (Memᴰ.cases_cons (Memᴰ.cast (sym at) own.2)) own.0
  where
    go : (b ≡ m.subscriber) ⊎ Memᴰ b (further_of s m.subscriber) → m.subscriber < c.subscribers → ⊥
    go (inl k) one = omega (arith, new.from)
    go (inr k) one = none_not_some (sym new.unheld ∙ (i.held m.subscriber b k).0)

abbrev Stays : (ℕ → Option Mapping) → ℕ → Mapping → Type 0
Stays slots p m = (n : Mapping) × (slots p ≡ Some n) × (n.subscriber ≡ m.subscriber) × (n.protocol ≡ m.protocol) × (n.port ≡ m.port)

pub stays : (c : Config) → Good c → (s : State) → Sound c s → {e : Event} {r : Step} → Shape c s e r → (p : ℕ) (m : Mapping) → s.slots p ≡ Some m → live_or_resting c r.state.tick m ≡ true → Stays r.state.slots p m
stays c g s i (refuses r) p m h l = (m, h, refl, refl, refl)
stays c g s i stops p m h l = (m, h, refl, refl, refl)
stays c g s i (delivers j x a k) p m h l = (m, h, refl, refl, refl)
stays c g s i (errs o q x a f k) p m h l = (m, h, refl, refl, refl)
stays c g s i (again o q x a f) p m h l = go (cases_eq p q)
  where
    go : (p ≡ q) ⊎ (p ≡ q → ⊥) → Stays (put s.slots q (Some (noting s.tick o.to x))) p m
    go (inl e) =
        let same : x ≡ m = same_some (sym f.there ∙ ap s.slots (sym e) ∙ h) in
        (noting s.tick o.to x, put_same s.slots q (Some (noting s.tick o.to x)) p e, ap (λ y. y.subscriber) same, ap (λ y. y.protocol) same, ap (λ y. y.port) same)
    go (inr ne) = (m, put_other s.slots q (Some (noting s.tick o.to x)) p ne ∙ h, refl, refl, refl)
stays c g s i (makes o q f e) p m h l =
    (m, put_other s.slots q (Some (made s.tick o)) p (λ k. none_not_some (sym (free k) ∙ h)) ∙ h, refl, refl, refl)
  where
    free : p ≡ q → s.slots p ≡ None
    free k = ap s.slots k ∙ not_some (s.slots q) (not-true (is_some (s.slots q)) (first_some (is_free s.slots) (ports_of c s o.subscriber) q e).1)
stays c g s i (gives o b f a e) p m h l = (
  m,
  put_other s.slots (port_of c b 0) (Some (made s.tick o)) p
      (λ k. given_free c s i o.subscriber b (next_known c g s o.subscriber b e) p m (ap (block_of c) k ∙ (lowest_in c g b).1) h) ∙ h,
  refl,
  refl,
  refl,
)
stays c g s i (ticks a) p m h l =
    (m, ap (left_of c (s.tick + 1)) h ∙ cond-true (live_or_resting c (s.tick + 1) m) (Some m) None l, refl, refl, refl)

pub face_stays : FaceStays
face_stays c w es e p m h l =
    let on = state_more c es e in
    subst (λ s. Stays s.slots p m) (sym on)
    (stays c (good c w) (after c es) (sound c w es) (shape c e (after c es)) p m h (subst (λ s. live_or_resting c s.tick m ≡ true) on l))
