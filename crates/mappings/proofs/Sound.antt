-- What holds of every state that a run comes to: each mapping lies in a block of its subscriber, the lists of further blocks and their holders agree,
-- no mapping is kept past its rest, and no live port has two faces.
use Rattle.std.proofs.Common.{◌≡◌, ℕ, ◌<◌, ◌≤◌, Bool, true, false, cond, ◌&&◌, eqb, ◌⊎◌, length, get_or, is_some, Some, None, Option, sym, refl, ◌∙◌, subst, inl, inr}
use mathlib.Core.List.{Memᴰ}
use Rattle.std.proofs.lemmas.Bool.{cond-true, cond-false, ne_eqb, and_parts, and_from, eqb-true, eqb-false, eq-eqb}
use Rattle.blocks.specs.Config.{Config, lowest_port, blocks_of}
use Rattle.blocks.specs.Ports.{block_of}
use Rattle.mappings.specs.declared.event.Protocol.{Protocol}
use Rattle.mappings.specs.declared.event.Protocol.TheVariants.{Udp, Tcp, Echo}
use Rattle.mappings.specs.declared.event.Outward.{Outward}
use Rattle.mappings.specs.Mappings.{Mapping, live, live_or_resting, same_protocol, is_of}
use Rattle.mappings.specs.States.{State, further_of, ports_of}
use Rattle.mappings.specs.Steps.{put, live_and, is_face, face_of}
use Rattle.mappings.proofs.Options.{true_not_false}
use Rattle.mappings.proofs.Firsts.{first_none}
use Rattle.mappings.proofs.Ports.{Good, blocks_for, block_port}

-- the same subscriber's protocol and port
pub record Same (m n : Mapping) : Type 0 where
  pub subscriber : m.subscriber ≡ n.subscriber
  pub protocol : m.protocol ≡ n.protocol
  pub port : m.port ≡ n.port

pub record Sound (c : Config) (s : State) : Type 0 where
  pub lists : length s.further ≡ c.subscribers
  pub blocks : length s.holders ≡ blocks_of c
  pub owned : (p : ℕ) (m : Mapping) → s.slots p ≡ Some m → (m.subscriber < c.subscribers) × (lowest_port ≤ p) × Memᴰ (block_of c p) (blocks_for s m.subscriber)
  pub held : (n b : ℕ) → Memᴰ b (further_of s n) → (get_or s.holders b None ≡ Some n) × (c.subscribers ≤ b)
  pub listed : (n b : ℕ) → get_or s.holders b None ≡ Some n → Memᴰ b (further_of s n)
  pub most : (n : ℕ) → length (further_of s n) ≤ c.further
  pub rests : (p : ℕ) (m : Mapping) → s.slots p ≡ Some m → live_or_resting c s.tick m ≡ true
  pub face : (p q : ℕ) (m n : Mapping) → s.slots p ≡ Some m → s.slots q ≡ Some n → live c s.tick m ≡ true → live c s.tick n ≡ true → Same m n → p ≡ q

-- what a slot holds after another was written
pub put_cases : (slots : ℕ → Option Mapping) (p : ℕ) (v : Option Mapping) (q : ℕ) (w : Option Mapping) → put slots p v q ≡ w → ((q ≡ p) × (v ≡ w)) ⊎ ((q ≡ p → ⊥) × (slots q ≡ w))
put_cases slots p v q w e = go (eqb q p) refl e
  where
    go : (b : Bool) → eqb q p ≡ b → cond b v (slots q) ≡ w → ((q ≡ p) × (v ≡ w)) ⊎ ((q ≡ p → ⊥) × (slots q ≡ w))
    go true h k = inl (eqb-true q p h, k)
    go false h k = inr (eqb-false q p h, k)

pub put_same : (slots : ℕ → Option Mapping) (p : ℕ) (v : Option Mapping) (q : ℕ) → q ≡ p → put slots p v q ≡ v
put_same slots p v q e = cond-true (eqb q p) v (slots q) (eq-eqb q p e)

pub put_other : (slots : ℕ → Option Mapping) (p : ℕ) (v : Option Mapping) (q : ℕ) → (q ≡ p → ⊥) → put slots p v q ≡ slots q
put_other slots p v q ne = cond-false (eqb q p) v (slots q) (ne_eqb q p ne)

pub same_protocol_lem : (x y : Protocol) → same_protocol x y ≡ true → x ≡ y
same_protocol_lem Udp Udp e = refl
same_protocol_lem Udp Tcp e = true_not_false (sym e)
same_protocol_lem Udp Echo e = true_not_false (sym e)
same_protocol_lem Tcp Udp e = true_not_false (sym e)
same_protocol_lem Tcp Tcp e = refl
same_protocol_lem Tcp Echo e = true_not_false (sym e)
same_protocol_lem Echo Udp e = true_not_false (sym e)
same_protocol_lem Echo Tcp e = true_not_false (sym e)
same_protocol_lem Echo Echo e = refl

protocol_same : (x y : Protocol) → x ≡ y → same_protocol x y ≡ true
protocol_same x y e = subst (λ z. same_protocol x z ≡ true) e (itself x)
  where
    itself : (z : Protocol) → same_protocol z z ≡ true
    itself Udp = refl
    itself Tcp = refl
    itself Echo = refl

-- the parts of the test that a mapping is of a subscriber's port
pub of_parts : (o : Outward) (m : Mapping) → is_of o m ≡ true → (m.subscriber ≡ o.subscriber) × (m.protocol ≡ o.protocol) × (m.port ≡ o.port)
of_parts o m e =
    let a = and_parts (eqb m.subscriber o.subscriber && same_protocol m.protocol o.protocol) (eqb m.port o.port) e in
    let b = and_parts (eqb m.subscriber o.subscriber) (same_protocol m.protocol o.protocol) a.0 in
    (eqb-true m.subscriber o.subscriber b.0, same_protocol_lem m.protocol o.protocol b.1, eqb-true m.port o.port a.1)

pub of_from : (o : Outward) (m : Mapping) → m.subscriber ≡ o.subscriber → m.protocol ≡ o.protocol → m.port ≡ o.port → is_of o m ≡ true
of_from o m a b d =
    and_from (eqb m.subscriber o.subscriber && same_protocol m.protocol o.protocol) (eqb m.port o.port)
    (and_from (eqb m.subscriber o.subscriber) (same_protocol m.protocol o.protocol) (eq-eqb m.subscriber o.subscriber a) (protocol_same m.protocol o.protocol b))
    (eq-eqb m.port o.port d)

-- a live mapping of a subscriber's port is its face
pub is_face_lem : (c : Config) (t : ℕ) (slots : ℕ → Option Mapping) (o : Outward) (p : ℕ) (m : Mapping) → slots p ≡ Some m → live c t m ≡ true → is_of o m ≡ true → is_face c t slots o p ≡ true
is_face_lem c t slots o p m e l k =
    subst (λ v. is_some (live_and c t (is_of o) v) ≡ true) (sym e)
    (subst (λ b. is_some (cond b (Some m) None) ≡ true) (sym (and_from (live c t m) (is_of o m) l k)) refl)

-- where a subscriber's port has no face, no live mapping is of it
pub faceless : (c : Config) → Good c → (s : State) → Sound c s → (o : Outward) → face_of c o s ≡ None → (p : ℕ) (m : Mapping) → s.slots p ≡ Some m → live c s.tick m ≡ true → is_of o m ≡ true → ⊥
faceless c g s i o e p m h l k =
    let own = i.owned p m h in
    let among : Memᴰ p (ports_of c s o.subscriber) = subst (λ n. Memᴰ p (ports_of c s n)) (of_parts o m k).0 (block_port c g s m.subscriber p own.1 own.2) in
    true_not_false (sym (is_face_lem c s.tick s.slots o p m h l k) ∙ first_none (is_face c s.tick s.slots o) (ports_of c s o.subscriber) e p among)

pub face_test : (c : Config) (t : ℕ) (slots : ℕ → Option Mapping) (o : Outward) (p : ℕ) → is_face c t slots o p ≡ true → (m : Mapping) × (slots p ≡ Some m) × (live c t m ≡ true) × (is_of o m ≡ true)
face_test c t slots o p e = go (slots p) refl e
  where
    at : (m : Mapping) → (b : Bool) → (live c t m && is_of o m) ≡ b → is_some (cond b (Some m) None) ≡ true → (live c t m ≡ true) × (is_of o m ≡ true)
    at m true q k = and_parts (live c t m) (is_of o m) q
    at m false q k = true_not_false (sym k)

    go : (v : Option Mapping) → slots p ≡ v → is_some (live_and c t (is_of o) v) ≡ true → (m : Mapping) × (slots p ≡ Some m) × (live c t m ≡ true) × (is_of o m ≡ true)
    go None h k = true_not_false (sym k)
    go (Some m) h k = let both = at m (live c t m && is_of o m) refl k in (m, h, both.0, both.1)
