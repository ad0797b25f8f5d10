-- Who has a free port is served, blocks are given in need alone, and what is remembered is let in.
use Rattle.std.proofs.Common.{◌≡◌, ℕ, ◌-◌, ◌<◌, ◌≤◌, Bool, true, false, cond, ◌&&◌, ltb, leb, ◌⊎◌, List, length, get_or, is_some as option_is_some, Some, None, Option, sym, refl, ap, ◌∙◌, subst, inl, inr, arith}
use mathlib.Core.List.{Memᴰ}
use Rattle.std.proofs.lemmas.Bool.{cond-true, and_parts, and_from, lt-ltb, ltb-true, ltb-false, le-leb, leb-true, not-false}
use Rattle.blocks.specs.Config.{Config, blocks_of}
use Rattle.blocks.specs.Ports.{is_further}
use Rattle.blocks.specs.declared.refusal.Refusal.{Refusal}
use Rattle.blocks.specs.declared.refusal.Refusal.TheVariants.{NoSubscriber, NoMapping, NotRemembered, UnrelatedError}
use Rattle.mappings.specs.declared.event.Outward.{Outward}
use Rattle.mappings.specs.declared.event.Inward.{Inward}
use Rattle.mappings.specs.declared.event.Event.TheVariants.{Goes, Comes, ErrorComes}
use Rattle.mappings.specs.declared.event.Verdict.{Verdict}
use Rattle.mappings.specs.declared.event.Verdict.TheVariants.{Sent, Delivered, Refused}
use Rattle.mappings.specs.declared.line.Line.{Line}
use Rattle.mappings.specs.Searches.{range, first}
use Rattle.mappings.specs.Mappings.{Mapping, live, is_in}
use Rattle.mappings.specs.States.{State, further_of, ports_of}
use Rattle.mappings.specs.Steps.{Step, only, is_free, is_unheld, is_of_protocol, live_and, arrival, face_of, next_block, by_next_block, by_free, by_face, comes}
use Rattle.mappings.specs.Promise.{after, sender_of, refusal_number, AllTaken, NoBlock, Served, GivenInNeed, LetIn}
use Rattle.mappings.proofs.Options.{is_some}
use Rattle.mappings.proofs.Firsts.{first_none, first_lowest, range_has}
use Rattle.mappings.proofs.Ports.{Good, good}
use Rattle.mappings.proofs.Shapes.{shape}
use Rattle.mappings.proofs.Sound.{Sound}
use Rattle.mappings.proofs.Soundness.{next_known}
use Rattle.mappings.proofs.Continued.{running}
use Rattle.mappings.proofs.Faces.{sound}
use Rattle.mappings.proofs.Givings.{given_by}

-- where no port is free, each has a mapping that lives or rests
pub all_taken : (c : Config) (s : State) → Sound c s → (n : ℕ) → first (is_free s.slots) (ports_of c s n) ≡ None → AllTaken c s n
all_taken c s i n e p j =
    let m = is_some (s.slots p) (not-false (option_is_some (s.slots p)) (first_none (is_free s.slots) (ports_of c s n) e p j)) in
    (m.0, m.1, i.rests p m.0 m.1)

-- the blocks in which a further one is looked for
further_range : (c : Config) → Good c → (b : ℕ) → is_further c b ≡ true → Memᴰ b (range c.subscribers (blocks_of c - c.subscribers))
further_range c g b e =
    let both = and_parts (leb c.subscribers b) (ltb b (blocks_of c)) e in
    let from : c.subscribers ≤ b = leb-true c.subscribers b both.0 in
    let below : b < blocks_of c = ltb-true b (blocks_of c) both.1 in
    range_has c.subscribers (blocks_of c - c.subscribers) b from (omega arith)

no_block : (c : Config) → Good c → (s : State) (n : ℕ) → next_block c s n ≡ None → NoBlock c s n
no_block c g s n e = go (ltb (length (further_of s n)) c.further) refl e
  where
    search_list : List ℕ
    search_list = range c.subscribers (blocks_of c - c.subscribers)

    go : (b : Bool) → ltb (length (further_of s n)) c.further ≡ b → cond b (first (is_unheld s.holders) search_list) None ≡ None → NoBlock c s n
    go false h k = inl (ltb-false (length (further_of s n)) c.further h)
    go true h k = inr (λ b f. not-false (option_is_some (get_or s.holders b None)) (first_none (is_unheld s.holders) search_list k b (further_range c g b f)))

abbrev ServedOr : Config → State → ℕ → Verdict → Type 0
ServedOr c s n v = ((p : ℕ) × (v ≡ Sent p)) ⊎ ((refusal_number v ≡ 8) × AllTaken c s n × NoBlock c s n)

module _ (c : Config) (g : Good c) (s : State) (i : Sound c s) (o : Outward) where
  by_next : first (is_free s.slots) (ports_of c s o.subscriber) ≡ None → (x : Option ℕ) → next_block c s o.subscriber ≡ x → ServedOr c s o.subscriber (by_next_block c o s x).verdict
  by_next e None k = inr (refl, all_taken c s i o.subscriber e, no_block c g s o.subscriber k)
  by_next e (Some b) k = inl (_, refl)

  by_free_lem : (x : Option ℕ) → first (is_free s.slots) (ports_of c s o.subscriber) ≡ x → ServedOr c s o.subscriber (by_free c o s x).verdict
  by_free_lem None e = by_next e (next_block c s o.subscriber) refl
  by_free_lem (Some p) e = inl (p, refl)

  by_face_lem : (x : Option ℕ) → ServedOr c s o.subscriber (by_face c o s x).verdict
  by_face_lem None = by_free_lem (first (is_free s.slots) (ports_of c s o.subscriber)) refl
  by_face_lem (Some p) = inl (p, refl)

pub served : Served
served c w es r o l =
    let s = after c es in
    subst (λ (x : Step). ServedOr c s o.subscriber x.verdict)
    (sym (running c (Goes o) s r ∙ cond-true (ltb o.subscriber c.subscribers) (by_face c o s (face_of c o s)) (only (Refused NoSubscriber) s) (lt-ltb o.subscriber c.subscribers l)))
    (by_face_lem c (good c w) s (sound c w es) o (face_of c o s))

pub given_in_need : GivenInNeed
given_in_need c w es e l j h =
    let s = after c es in
    let i = sound c w es in
    let x = given_by c s (shape c e s) l j h in
    let n = x.packet.subscriber in
    let new = next_known c (good c w) s n x.block x.next in
    let same_one : n ≡ l.subscriber = ap (λ (y : Line). y.subscriber) (sym x.line) in
    let same_block : x.block ≡ l.block = ap (λ (y : Line). y.block) (sym x.line) in (
      ap sender_of x.event ∙ ap Some same_one,
      subst (λ y. y < c.subscribers) same_one x.without.one,
      subst (λ y. AllTaken c s y) same_one (all_taken c s i n x.full),
      subst (λ y. length (further_of s y) < c.further) same_one new.fewer,
      subst (λ b. is_further c b ≡ true) same_block (and_from (leb c.subscribers x.block) (ltb x.block (blocks_of c)) (le-leb c.subscribers x.block new.from) (lt-ltb x.block (blocks_of c) new.below)),
      subst (λ b. get_or s.holders b None ≡ None) same_block new.unheld,
      λ b f k. not-false (option_is_some (get_or s.holders b None))
          (first_lowest (is_unheld s.holders) c.subscribers (blocks_of c - c.subscribers) x.block b new.found
          (leb-true c.subscribers b (and_parts (leb c.subscribers b) (ltb b (blocks_of c)) f).0) (subst (λ y. b < y) (sym same_block) k)),
    )

-- a live mapping of the protocol that remembers the address lets in
let_in_by : (c : Config) (s : State) (i : Inward) (m : Mapping) (missing forgotten : Refusal) → s.slots i.port ≡ Some m → live c s.tick m ≡ true → is_of_protocol i m ≡ true → is_in i.from m.remembered ≡ true →
    (comes missing forgotten c i s).verdict ≡ Delivered m.subscriber m.port
let_in_by c s i m missing forgotten e l k r =
    ap (λ v. arrival missing forgotten i.from (live_and c s.tick (is_of_protocol i) v)) e
    ∙ ap (arrival missing forgotten i.from) (cond-true (live c s.tick m && is_of_protocol i m) (Some m) None (and_from (live c s.tick m) (is_of_protocol i m) l k))
    ∙ cond-true (is_in i.from m.remembered) (Delivered m.subscriber m.port) (Refused forgotten) r

pub let_in : LetIn
let_in c w es r i m e l k d =
    let s = after c es in (
      ap (λ (x : Step). x.verdict) (running c (Comes i) s r) ∙ let_in_by c s i m NoMapping NotRemembered e l k d,
      ap (λ (x : Step). x.verdict) (running c (ErrorComes i) s r) ∙ let_in_by c s i m UnrelatedError UnrelatedError e l k d,
    )
