-- What the others do changes nothing for a subscriber that does with its first block.
use Rattle.std.proofs.Common.{◌≡◌, ℕ, ◌+◌, ◌<◌, ◌≤◌, Bool, true, false, cond, not, ◌||◌, eqb, ltb, leb, ◌⊎◌, List, [], ◌∷◌, ◌++◌, is_some, Some, None, Option, sym, refl, ap, ◌∙◌, subst, inl, inr, ⊎_elim, arith}
use mathlib.Core.List.Memᴰ
use mathlib.Core.List.{Memᴰ}
use Rattle.std.specs.List.{filter, flat_map}
use Rattle.std.proofs.lemmas.List.{get_or-set_other}
use Rattle.std.proofs.lemmas.Bool.{and_parts, and_from, or_left, or_from, cond-true, cond-false, eq-eqb, ne_eqb, eqb-true, eqb-false, le-leb, leb-true, lt-ltb}
use Rattle.blocks.specs.Config.{Config, lowest_port}
use Rattle.blocks.specs.Ports.{block_of, port_of}
use Rattle.blocks.specs.declared.refusal.Refusal.{Refusal}
use Rattle.blocks.specs.declared.refusal.Refusal.TheVariants.{NoSubscriber, NoMapping, NotRemembered, UnrelatedError}
use Rattle.mappings.specs.declared.event.Outward.{Outward}
use Rattle.mappings.specs.declared.event.Inward.{Inward}
use Rattle.mappings.specs.declared.event.Event.{Event}
use Rattle.mappings.specs.declared.event.Event.TheVariants.{Unreadable, Goes, Comes, ErrorGoes, ErrorComes, Tick}
use Rattle.mappings.specs.declared.event.Verdict.{Verdict}
use Rattle.mappings.specs.declared.event.Verdict.TheVariants.{Sent, Refused}
use Rattle.mappings.specs.declared.line.Change.TheVariants.{Given}
use Rattle.mappings.specs.declared.line.Line.{Line}
use Rattle.mappings.specs.Searches.{first}
use Rattle.mappings.specs.Mappings.{Mapping, is_of, made, noting}
use Rattle.mappings.specs.States.{State, fresh, block_ports, further_of, ports_of}
use Rattle.mappings.specs.Steps.{Step, only, put, sent_by, exhausted, counted, is_face, is_free, is_used, face_of, next_block, by_next_block, by_free, by_face, by_face_only, noting_at, remembers, left_of, left_at, ticked, goes, comes, arrival, live_and, is_of_protocol, error_goes, handled, step, last_tick, last_moment}
use Rattle.mappings.specs.Runs.{Occurrence, occurrence, state_after, transcript_from, book_from}
use Rattle.mappings.specs.Promise.{sender_of, inward_of, refusal_number, to_first_block, concerns, is_delivered_to, Sight, seen, Alone}
use Rattle.mappings.proofs.Options.{none_not_some, same_some, true_not_false}
use Rattle.mappings.proofs.Firsts.{first_some, first_same}
use Rattle.mappings.proofs.Ports.{Good, good, blocks_for, port_block}
use Rattle.mappings.proofs.Shapes.{Shape, refuses, stops, delivers, errs, again, makes, gives, ticks, shape}
use Rattle.mappings.proofs.Sound.{Sound, put_other}
use Rattle.mappings.proofs.Soundness.{next_known, lowest_in, fresh_sound, step_sound, list_kept, none_there}
use Rattle.mappings.proofs.Moments.{over_state}
use Rattle.mappings.proofs.Givings.{given_by, given_not_taken, taken_line}

-- a port of the subscriber's first block
abbrev First : Config → ℕ → ℕ → Type 0
First c n p = (lowest_port ≤ p) × (block_of c p ≡ n)

first_from : (c : Config) (n p : ℕ) → to_first_block c n p ≡ true → First c n p
first_from c n p e = let both = and_parts (leb lowest_port p) (eqb (block_of c p) n) e in (leb-true lowest_port p both.0, eqb-true (block_of c p) n both.1)

to_first : (c : Config) (n p : ℕ) → First c n p → to_first_block c n p ≡ true
to_first c n p h = and_from (leb lowest_port p) (eqb (block_of c p) n) (le-leb lowest_port p h.0) (eq-eqb (block_of c p) n h.1)

-- a port of another's blocks is none of the first block
elsewhere : (c : Config) (s : State) → Sound c s → (n k : ℕ) → n < c.subscribers → (k ≡ n → ⊥) → (p : ℕ) → Memᴰ (block_of c p) (blocks_for s k) → First c n p → ⊥
elsewhere c s i n k one ne p j f = go (Memᴰ.cases_cons j)
  where
    go : (block_of c p ≡ k) ⊎ Memᴰ (block_of c p) (further_of s k) → ⊥
    go (inl e) = ne (sym e ∙ f.1)
    go (inr m) = let h : c.subscribers ≤ block_of c p = (i.held k (block_of c p) m).1 in omega (arith, f.1)

-- what a step leaves to a subscriber: what it sees of the tables
pub record Left (c : Config) (n : ℕ) (s t : State) : Type 0 where
  pub tick : s.tick ≡ t.tick
  pub none : further_of t n ≡ []
  pub slots : (p : ℕ) → First c n p → s.slots p ≡ t.slots p

left_on : (c : Config) (n : ℕ) (s t u : State) → Left c n s t → Left c n t u → Left c n s u
left_on c n s t u a b = record { tick = a.tick ∙ b.tick; none = b.none; slots = λ p f. a.slots p f ∙ b.slots p f }

left_back : (c : Config) (n : ℕ) (s t : State) → further_of s n ≡ [] → Left c n s t → Left c n t s
left_back c n s t e a = record { tick = sym a.tick; none = e; slots = λ p f. sym (a.slots p f) }

-- a step gives the subscriber no block and does not refuse it for want of a port
pub record Keeps (n : ℕ) (e : Event) (r : Step) : Type 0 where
  pub gives_none : (l : Line) → Memᴰ l r.lines → l.change ≡ Given → l.subscriber ≡ n → ⊥
  pub refuses_not : sender_of e ≡ Some n → refusal_number r.verdict ≡ 8 → ⊥

-- what concerns the subscriber by its packets and its first block
sender_concerned : (c : Config) (n : ℕ) (e : Event) → sender_of e ≡ Some n → concerns c n e ≡ true
sender_concerned c n (Unreadable r) h = none_not_some h
sender_concerned c n (Goes o) h = eq-eqb o.subscriber n (same_some h)
sender_concerned c n (Comes i) h = none_not_some h
sender_concerned c n (ErrorGoes o) h = eq-eqb o.subscriber n (same_some h)
sender_concerned c n (ErrorComes i) h = none_not_some h
sender_concerned c n Tick h = none_not_some h

inward_concerned : (c : Config) (n : ℕ) (e : Event) (i : Inward) → inward_of e ≡ Some i → First c n i.port → concerns c n e ≡ true
inward_concerned c n (Unreadable r) i h f = none_not_some h
inward_concerned c n (Goes o) i h f = none_not_some h
inward_concerned c n (Comes j) i h f = to_first c n j.port (subst (λ (x : Inward). First c n x.port) (sym (same_some h)) f)
inward_concerned c n (ErrorGoes o) i h f = none_not_some h
inward_concerned c n (ErrorComes j) i h f = to_first c n j.port (subst (λ (x : Inward). First c n x.port) (sym (same_some h)) f)
inward_concerned c n Tick i h f = none_not_some h

-- what does not concern the subscriber leaves it everything, and brings it nothing
module _ (c : Config) (g : Good c) (n : ℕ) (one : n < c.subscribers) (s : State) (i : Sound c s) (mine : further_of s n ≡ []) where
  put_left : (p : ℕ) (v : Option Mapping) → (First c n p → ⊥) → Left c n s (counted (put s.slots p v) s)
  put_left p v away = record { tick = refl; none = mine; slots = λ q f. sym (put_other s.slots p v q (λ e. away (subst (λ x. First c n x) e f))) }

  not_mine : (o : Outward) → concerns c n (Goes o) ≡ false → o.subscriber ≡ n → ⊥
  not_mine o h e = eqb-false o.subscriber n h e

  other_left : {e : Event} {r : Step} → Shape c s e r → concerns c n e ≡ false → Left c n s r.state
  other_left (refuses r) h = record { tick = refl; none = mine; slots = λ p f. refl }
  other_left stops h = record { tick = refl; none = mine; slots = λ p f. refl }
  other_left (delivers j m a k) h = record { tick = refl; none = mine; slots = λ p f. refl }
  other_left (errs o p m a f k) h = record { tick = refl; none = mine; slots = λ q x. refl }
  other_left (again o p m a f) h =
      put_left p (Some (noting s.tick o.to m)) (elsewhere c s i n o.subscriber one (not_mine o h) p (port_block c g s o.subscriber p f.among).1)
  other_left (makes o p f e) h =
      put_left p (Some (made s.tick o)) (elsewhere c s i n o.subscriber one (not_mine o h) p (port_block c g s o.subscriber p (first_some (is_free s.slots) (ports_of c s o.subscriber) p e).0).1)
  other_left (gives o b f a e) h =
      let new = next_known c g s o.subscriber b e in
      let away : First c n (port_of c b 0) → ⊥ = λ x. omega (arith, (lowest_in c g b).1, x.1, new.from) in
      record {
        tick = refl;
        none = get_or-set_other s.further o.subscriber n (further_of s o.subscriber ++ b ∷ []) [] (λ x. not_mine o h (sym x)) ∙ mine;
        slots = (put_left (port_of c b 0) (Some (made s.tick o)) away).slots;
      }
  other_left (ticks a) h = true_not_false h

  owner_first : (p : ℕ) (m : Mapping) → s.slots p ≡ Some m → m.subscriber ≡ n → First c n p
  owner_first p m e k =
      let own = i.owned p m e in
      (own.1, Memᴰ.eq_of_singleton (subst (λ bs. Memᴰ (block_of c p) (n ∷ bs)) mine (subst (λ x. Memᴰ (block_of c p) (blocks_for s x)) k own.2)))

  other_unseen : {e : Event} {r : Step} → Shape c s e r → concerns c n e ≡ false → is_delivered_to n r.verdict ≡ false
  other_unseen (refuses r) h = refl
  other_unseen stops h = refl
  other_unseen {e} (delivers j m a k) h = ne_eqb m.subscriber n (λ x. true_not_false (sym (inward_concerned c n e j a (owner_first j.port m k.there x)) ∙ h))
  other_unseen (errs o p m a f k) h = refl
  other_unseen (again o p m a f) h = refl
  other_unseen (makes o p f e) h = refl
  other_unseen (gives o b f a e) h = refl
  other_unseen (ticks a) h = refl

  other_keeps : {e : Event} {r : Step} → Shape c s e r → concerns c n e ≡ false → Keeps n e r
  other_keeps {e} {r} x h = record {
    gives_none = λ l j k m. let y = given_by c s x l j k in
        true_not_false (sym (sender_concerned c n e (ap sender_of y.event ∙ ap Some (ap (λ (z : Line). z.subscriber) (sym y.line) ∙ m))) ∙ h);
    refuses_not = λ k j. true_not_false (sym (sender_concerned c n e k) ∙ h);
  }

-- what concerns the subscriber does the same in two states that look the same to it
pub record Mine (c : Config) (n : ℕ) (e : Event) (r q : Step) : Type 0 where
  pub verdict : r.verdict ≡ q.verdict
  pub left : Left c n r.state q.state
  pub none : further_of r.state n ≡ []
  pub keeps : Keeps n e q

keeps_sent : (n : ℕ) (e : Event) (r : Step) (p : ℕ) → r.lines ≡ [] → r.verdict ≡ Sent p → Keeps n e r
keeps_sent n e r p a b = record {
  gives_none = λ l j k m. Memᴰ.not-nil (subst (λ ls. Memᴰ l ls) a j);
  refuses_not = λ k j. let z : ◌≡◌ {A = ℕ} 0 8 = ap refusal_number (sym b) ∙ j in omega arith;
}

-- an event that sends nothing gives nothing
keeps_quiet : (n : ℕ) (e : Event) (r : Step) → sender_of e ≡ None → ((l : Line) → Memᴰ l r.lines → l.change ≡ Given → ⊥) → Keeps n e r
keeps_quiet n e r a b = record { gives_none = λ l j k m. b l j k; refuses_not = λ k j. none_not_some (sym a ∙ k) }

module _ (c : Config) (g : Good c) (n : ℕ) (one : n < c.subscribers) (s t : State) (mine : further_of s n ≡ []) (a : Left c n s t) where
  ports_same : (k : ℕ) → k ≡ n → ports_of c s k ≡ ports_of c t k
  ports_same k e = subst (λ x. ports_of c s x ≡ ports_of c t x) (sym e) (ap (λ bs. flat_map (block_ports c) (n ∷ bs)) (mine ∙ sym a.none))

  port_first : (k p : ℕ) → k ≡ n → Memᴰ p (ports_of c s k) → First c n p
  port_first k p e j =
      let h = port_block c g s n p (subst (λ x. Memᴰ p (ports_of c s x)) e j) in
      (h.0, Memᴰ.eq_of_singleton (subst (λ bs. Memᴰ (block_of c p) (n ∷ bs)) mine h.1))

  face_same : (o : Outward) → o.subscriber ≡ n → face_of c o s ≡ face_of c o t
  face_same o e =
      first_same (is_face c s.tick s.slots o) (is_face c t.tick t.slots o) (ports_of c s o.subscriber)
      (λ p j. ap (λ x. is_face c x s.slots o p) a.tick ∙ ap (λ v. is_some (live_and c t.tick (is_of o) v)) (a.slots p (port_first o.subscriber p e j)))
      ∙ ap (first (is_face c t.tick t.slots o)) (ports_same o.subscriber e)

  free_same : (k : ℕ) → k ≡ n → first (is_free s.slots) (ports_of c s k) ≡ first (is_free t.slots) (ports_of c t k)
  free_same k e =
      first_same (is_free s.slots) (is_free t.slots) (ports_of c s k) (λ p j. ap (λ v. not (is_some v)) (a.slots p (port_first k p e j)))
      ∙ ap (first (is_free t.slots)) (ports_same k e)

  put_mine : (e : Event) (p : ℕ) (v w : Option Mapping) → v ≡ w → Mine c n e (sent_by p v s) (sent_by p w t)
  put_mine e p v w same = record {
    verdict = refl;
    left = record {
      tick = a.tick;
      none = a.none;
      slots = λ q f. ap (λ x. cond (eqb q p) x (s.slots q)) same ∙ ap (λ x. cond (eqb q p) w x) (a.slots q f);
    };
    none = mine;
    keeps = keeps_sent n e (sent_by p w t) p refl refl;
  }

  only_mine : (e : Event) (v w : Verdict) → v ≡ w → Keeps n e (only w t) → Mine c n e (only v s) (only w t)
  only_mine e v w same k = record { verdict = same; left = record { tick = a.tick; none = a.none; slots = a.slots }; none = mine; keeps = k }

  module _ (o : Outward) (its : o.subscriber ≡ n) where
    next_out : (x : Option ℕ) → Keeps n (Goes o) (by_next_block c o s x) → ⊥
    next_out None k = k.refuses_not (ap Some its) refl
    next_out (Some b) k = k.gives_none _ (Memᴰ.head refl) refl its

    free_mine : (x : Option ℕ) → Keeps n (Goes o) (by_free c o s x) → Mine c n (Goes o) (by_free c o s x) (by_free c o t x)
    free_mine None k = absurd (next_out (next_block c s o.subscriber) k)
    free_mine (Some p) k = put_mine (Goes o) p (Some (made s.tick o)) (Some (made t.tick o)) (ap (λ x. Some (made x o)) a.tick)

    face_mine : (x : Option ℕ) → face_of c o s ≡ x → Keeps n (Goes o) (by_face c o s x) → Mine c n (Goes o) (by_face c o s x) (by_face c o t x)
    face_mine None e k =
        subst (λ x. Mine c n (Goes o) (by_face c o s None) (by_free c o t x)) (free_same o.subscriber its) (free_mine (first (is_free s.slots) (ports_of c s o.subscriber)) k)
    face_mine (Some p) e k =
        let f = port_first o.subscriber p its (first_some (is_face c s.tick s.slots o) (ports_of c s o.subscriber) p e).0 in
        put_mine (Goes o) p (noting_at s.tick o.to (s.slots p)) (noting_at t.tick o.to (t.slots p))
        (ap (λ x. noting_at x o.to (s.slots p)) a.tick ∙ ap (noting_at t.tick o.to) (a.slots p f))

    known : ltb o.subscriber c.subscribers ≡ true
    known = lt-ltb o.subscriber c.subscribers (subst (λ x. x < c.subscribers) (sym its) one)

    goes_mine : Keeps n (Goes o) (goes c o s) → Mine c n (Goes o) (goes c o s) (goes c o t)
    goes_mine k =
        let at-s : goes c o s ≡ by_face c o s (face_of c o s) = cond-true (ltb o.subscriber c.subscribers) (by_face c o s (face_of c o s)) (only (Refused NoSubscriber) s) known in
        let at-t : goes c o t ≡ by_face c o t (face_of c o t) = cond-true (ltb o.subscriber c.subscribers) (by_face c o t (face_of c o t)) (only (Refused NoSubscriber) t) known in
        subst (λ r. Mine c n (Goes o) r (goes c o t)) (sym at-s)
        (subst (λ q. Mine c n (Goes o) (by_face c o s (face_of c o s)) q) (sym (at-t ∙ ap (by_face c o t) (sym (face_same o its))))
        (face_mine (face_of c o s) refl (subst (λ r. Keeps n (Goes o) r) at-s k)))

    error_verdict : (x : Option ℕ) → face_of c o s ≡ x → by_face_only o s x ≡ by_face_only o t x
    error_verdict None e = refl
    error_verdict (Some p) e =
        let f = port_first o.subscriber p its (first_some (is_face c s.tick s.slots o) (ports_of c s o.subscriber) p e).0 in
        ap (λ v. cond (remembers o.to v) (Sent p) (Refused UnrelatedError)) (a.slots p f)

    not_eight : (b : Bool) (x : Option ℕ) → refusal_number (cond b (by_face_only o t x) (Refused NoSubscriber)) ≡ 8 → ⊥
    not_eight false x e = omega arith
    not_eight true None e = omega arith
    not_eight true (Some p) e = go (remembers o.to (t.slots p)) e
      where
        go : (b : Bool) → refusal_number (cond b (Sent p) (Refused UnrelatedError)) ≡ 8 → ⊥
        go true h = omega arith
        go false h = omega arith

    error_mine : Mine c n (ErrorGoes o) (error_goes c o s) (error_goes c o t)
    error_mine = only_mine (ErrorGoes o) (cond (ltb o.subscriber c.subscribers) (by_face_only o s (face_of c o s)) (Refused NoSubscriber)) (cond (ltb o.subscriber c.subscribers) (by_face_only o t (face_of c o t)) (Refused NoSubscriber))
        (ap (λ v. cond (ltb o.subscriber c.subscribers) v (Refused NoSubscriber)) (error_verdict (face_of c o s) refl ∙ ap (by_face_only o t) (face_same o its)))
        (record { gives_none = λ l j k m. Memᴰ.not-nil j; refuses_not = λ k j. not_eight (ltb o.subscriber c.subscribers) (face_of c o t) j })

  comes_mine : (e : Event) (i : Inward) (missing forgotten : Refusal) → sender_of e ≡ None → to_first_block c n i.port ≡ true → Mine c n e (comes missing forgotten c i s) (comes missing forgotten c i t)
  comes_mine e i missing forgotten h f =
      only_mine e (arrival missing forgotten i.from (live_and c s.tick (is_of_protocol i) (s.slots i.port))) (arrival missing forgotten i.from (live_and c t.tick (is_of_protocol i) (t.slots i.port)))
      (ap (λ x. arrival missing forgotten i.from (live_and c x (is_of_protocol i) (s.slots i.port))) a.tick
      ∙ ap (λ v. arrival missing forgotten i.from (live_and c t.tick (is_of_protocol i) v)) (a.slots i.port (first_from c n i.port f)))
      (keeps_quiet n e _ h (λ l j k. Memᴰ.not-nil j))

  none_after : (u : State) → further_of u n ≡ [] → further_of (ticked c u).state n ≡ []
  none_after u e = list_kept (is_used c (left_at c (u.tick + 1) u.slots)) u.further n ∙ ap (filter (is_used c (left_at c (u.tick + 1) u.slots))) e

  tick_mine : Mine c n Tick (handled c Tick s) (handled c Tick t)
  tick_mine = subst (λ x. Mine c n Tick (handled c Tick s) (cond (leb last_tick x) (exhausted t) (ticked c t))) a.tick (go (leb last_tick s.tick) refl)
    where
      given_never : (l : Line) → Memᴰ l (ticked c t).lines → l.change ≡ Given → ⊥
      given_never l j k = given_not_taken (sym k ∙ taken_line c (left_at c (t.tick + 1) t.slots) t.moment (t.tick + 1) 0 t.holders l j)

      go : (b : Bool) → leb last_tick s.tick ≡ b → Mine c n Tick (cond b (exhausted s) (ticked c s)) (cond b (exhausted t) (ticked c t))
      go true h = record { verdict = refl; left = record { tick = a.tick; none = a.none; slots = a.slots }; none = mine; keeps = keeps_quiet n Tick (exhausted t) refl (λ l j k. Memᴰ.not-nil j) }
      go false h = record {
        verdict = refl;
        left = record {
          tick = ap (λ x. x + 1) a.tick;
          none = none_after t a.none;
          slots = λ p f. ap (λ x. left_of c (x + 1) (s.slots p)) a.tick ∙ ap (left_of c (t.tick + 1)) (a.slots p f);
        };
        none = none_after s mine;
        keeps = keeps_quiet n Tick (ticked c t) refl given_never;
      }

  handled_mine : (e : Event) → concerns c n e ≡ true → Keeps n e (handled c e s) → Mine c n e (handled c e s) (handled c e t)
  handled_mine (Unreadable r) h k = true_not_false (sym h)
  handled_mine (Goes o) h k = goes_mine o (eqb-true o.subscriber n h) k
  handled_mine (Comes i) h k = comes_mine (Comes i) i NoMapping NotRemembered refl h
  handled_mine (ErrorGoes o) h k = error_mine o (eqb-true o.subscriber n h)
  handled_mine (ErrorComes i) h k = comes_mine (ErrorComes i) i UnrelatedError UnrelatedError refl h
  handled_mine Tick h k = tick_mine

-- from a state on, the subscriber does with its first block
pub record KeptFrom (c : Config) (n : ℕ) (s : State) (es : List Event) : Type 0 where
  pub given_none : (l : Line) → Memᴰ l (book_from c s es) → l.change ≡ Given → l.subscriber ≡ n → ⊥
  pub never_refused : (x : Occurrence) → Memᴰ x (transcript_from c s es) → sender_of x.event ≡ Some n → refusal_number x.verdict ≡ 8 → ⊥

module _ (c : Config) (n : ℕ) where
  kept_nil : (s : State) → KeptFrom c n s []
  unfolding book_from transcript_from
  kept_nil s = record { given_none = λ l j k m. Memᴰ.not-nil j; never_refused = λ x j k m. Memᴰ.not-nil j }

  kept_head : (s : State) (e : Event) (es : List Event) → KeptFrom c n s (e ∷ es) → Keeps n e (step c e s)
  unfolding book_from transcript_from
  kept_head s e es h = record {
    gives_none = λ l j k m. h.given_none l (Memᴰ.append_left (book_from c (step c e s).state es) j) k m;
    refuses_not = λ k j. h.never_refused (occurrence s e (step c e s).verdict) (Memᴰ.head refl) k j;
  }

  kept_tail : (s : State) (e : Event) (es : List Event) → KeptFrom c n s (e ∷ es) → KeptFrom c n (step c e s).state es
  unfolding book_from transcript_from
  kept_tail s e es h = record {
    given_none = λ l j k m. h.given_none l (Memᴰ.append_right (step c e s).lines j) k m;
    never_refused = λ x j k m. h.never_refused x (Memᴰ.tail j) k m;
  }

  kept_cons : (s : State) (e : Event) (es : List Event) → Keeps n e (step c e s) → KeptFrom c n (step c e s).state es → KeptFrom c n s (e ∷ es)
  unfolding book_from transcript_from
  kept_cons s e es h later = record {
    given_none = λ l j k m. ⊎_elim (λ (i : Memᴰ l (step c e s).lines). h.gives_none l i k m) (λ (i : Memᴰ l (book_from c (step c e s).state es)). later.given_none l i k m) (Memᴰ.append_cases (step c e s).lines j);
    never_refused = λ x j k m. ⊎_elim
        (λ (i : x ≡ occurrence s e (step c e s).verdict). h.refuses_not (ap (λ (y : Occurrence). sender_of y.event) (sym i) ∙ k) (ap (λ (y : Occurrence). refusal_number y.verdict) (sym i) ∙ m))
        (λ (i : Memᴰ x (transcript_from c (step c e s).state es)). later.never_refused x i k m)
        (Memᴰ.cases_cons j);
  }

-- a run that is not over at its end was never over
not_over : (c : Config) (s : State) (es : List Event) → (state_after c s es).over ≡ false → s.over ≡ false
not_over c s es h = go s.over refl
  where
    go : (b : Bool) → s.over ≡ b → b ≡ false
    go false e = refl
    go true e = true_not_false (sym e ∙ ap (λ (x : State). x.over) (sym (over_state c s e es)) ∙ h)

was_handled : (c : Config) (e : Event) (s : State) → (step c e s).state.over ≡ false → step c e s ≡ handled c e s
was_handled c e s h = go (s.over || leb last_moment s.moment) h
  where
    go : (b : Bool) → (cond b (exhausted s) (handled c e s)).state.over ≡ false → cond b (exhausted s) (handled c e s) ≡ handled c e s
    go true k = true_not_false k
    go false k = refl

module _ (c : Config) (g : Good c) (n : ℕ) (one : n < c.subscribers) where
  abbrev ours : List Event → List Event
  ours es = filter (concerns c n) es

  abbrev view : State → List Event → List Sight
  view s es = seen c n (transcript_from c s es)

  abbrev Same : State → List Event → State → List Event → Type 0
  Same s es t fs = (view s es ≡ view t fs) × KeptFrom c n t fs

  -- an event that does not concern the subscriber is not seen
  unseen : (s : State) → Sound c s → further_of s n ≡ [] → (e : Event) (es : List Event) → concerns c n e ≡ false → view s (e ∷ es) ≡ view (step c e s).state es
  unfolding seen transcript_from
  unseen s i mine e es h =
      ap (λ x. x ++ view (step c e s).state es)
      (cond-false (concerns c n e || is_delivered_to n (step c e s).verdict) _ [] (or_from (concerns c n e) (is_delivered_to n (step c e s).verdict) h (other_unseen c g n one s i mine (shape c e s) h)))

  -- one that does is seen, with what becomes of it
  seen_mine : (s : State) (e : Event) (es : List Event) → concerns c n e ≡ true →
      view s (e ∷ es) ≡ record { tick = s.tick; event = e; verdict = (step c e s).verdict } ∷ view (step c e s).state es
  unfolding seen transcript_from
  seen_mine s e es h =
      ap (λ x. x ++ view (step c e s).state es) (cond-true (concerns c n e || is_delivered_to n (step c e s).verdict) _ [] (or_left (concerns c n e) (is_delivered_to n (step c e s).verdict) h))

  -- nothing is left that concerns the subscriber
  rest_unseen : (fs : List Event) (t : State) → Sound c t → further_of t n ≡ [] → ours fs ≡ [] → ([] ≡ view t fs) × KeptFrom c n t fs
  unfolding seen transcript_from
  rest_unseen [] t i mine h = (refl, kept_nil c n t)
  rest_unseen (f ∷ fs) t i mine h = go (concerns c n f) refl h (rest_unseen fs u (step_sound c g t i (shape c f t)))
    where
      u : State
      u = (step c f t).state

      go : (b : Bool) → concerns c n f ≡ b → cond b (f ∷ ours fs) (ours fs) ≡ [] → (further_of u n ≡ [] → ours fs ≡ [] → ([] ≡ view u fs) × KeptFrom c n u fs) → ([] ≡ view t (f ∷ fs)) × KeptFrom c n t (f ∷ fs)
      go true k e later = let z : ◌≡◌ {A = ℕ} 0 1 = cc in absurd (omega arith)
      go false k e later =
          let x = later (other_left c g n one t i mine (shape c f t) k).none e in
          (x.0 ∙ sym (unseen t i mine f fs k), kept_cons c n t f fs (other_keeps c g n one t i mine (shape c f t) k) x.1)

  -- what the second run does before the next event that concerns the subscriber
  abbrev Meets : State → Event → List Event → Type 0
  Meets s e es = (t : State) (fs : List Event) → Sound c t → Left c n s t → ours es ≡ ours fs → (state_after c t (e ∷ fs)).over ≡ false → Same s (e ∷ es) t (e ∷ fs)

  skip_to : (s : State) → further_of s n ≡ [] → (e : Event) (es : List Event) → Meets s e es → (fs : List Event) (t : State) → Sound c t → Left c n s t → e ∷ ours es ≡ ours fs → (state_after c t fs).over ≡ false → Same s (e ∷ es) t fs
  unfolding state_after
  skip_to s mine e es meets [] t i a h k = let z : ◌≡◌ {A = ℕ} 0 1 = cc in absurd (omega arith)
  skip_to s mine e es meets (f ∷ fs) t i a h k = go (concerns c n f) refl h (λ b m. skip_to s mine e es meets fs u (step_sound c g t i (shape c f t)) b m k)
    where
      u : State
      u = (step c f t).state

      go : (b : Bool) → concerns c n f ≡ b → e ∷ ours es ≡ cond b (f ∷ ours fs) (ours fs) → (Left c n s u → e ∷ ours es ≡ ours fs → Same s (e ∷ es) u fs) → Same s (e ∷ es) t (f ∷ fs)
      go true j m later =
          let same : e ≡ f = cc in
          let rest : ours es ≡ ours fs = cc in
          subst (λ (x : Event). Same s (e ∷ es) t (x ∷ fs)) same (meets t fs i a rest (subst (λ (x : Event). (state_after c t (x ∷ fs)).over ≡ false) (sym same) k))
      go false j m later =
          let left = other_left c g n one t i a.none (shape c f t) j in
          let x = later (left_on c n s t u a left) m in
          (x.0 ∙ sym (unseen t i a.none f fs j), kept_cons c n t f fs (other_keeps c g n one t i a.none (shape c f t) j) x.1)

  -- a second run that comes to the same for the subscriber
  abbrev Agrees : State → List Event → Type 0
  Agrees s es = (t : State) (fs : List Event) → Sound c t → Left c n s t → ours es ≡ ours fs → (state_after c t fs).over ≡ false → Same s es t fs

  -- both runs handle an event that concerns the subscriber
  both_mine : (s : State) → further_of s n ≡ [] → (e : Event) (es : List Event) → concerns c n e ≡ true → (step c e s).state.over ≡ false → Keeps n e (step c e s) →
      (t : State) → Left c n s t → (step c e t).state.over ≡ false → Mine c n e (step c e s) (step c e t)
  both_mine s mine e es h k keeps t a l =
      let at-s = was_handled c e s k in
      let at-t = was_handled c e t l in
      subst (λ (r : Step). Mine c n e r (step c e t)) (sym at-s)
      (subst (λ (q : Step). Mine c n e (handled c e s) q) (sym at-t) (handled_mine c g n one s t mine a e h (subst (λ (r : Step). Keeps n e r) at-s keeps)))

  mine_meets : (s : State) → further_of s n ≡ [] → (e : Event) (es : List Event) → concerns c n e ≡ true → (step c e s).state.over ≡ false → Keeps n e (step c e s) →
      (further_of (step c e s).state n ≡ [] → Agrees (step c e s).state es) → Meets s e es
  unfolding state_after
  mine_meets s mine e es h k keeps later t fs i a m l =
      let x = both_mine s mine e es h k keeps t a (not_over c (step c e t).state fs l) in
      let y = later x.none (step c e t).state fs (step_sound c g t i (shape c e t)) x.left m l in
      let sight : ℕ → Verdict → Sight = λ u v. record { tick = u; event = e; verdict = v } in (
        seen_mine s e es h ∙ ap (λ u. sight u (step c e s).verdict ∷ view (step c e s).state es) a.tick
            ∙ ap (λ v. sight t.tick v ∷ view (step c e s).state es) x.verdict ∙ ap (λ vs. sight t.tick (step c e t).verdict ∷ vs) y.0 ∙ sym (seen_mine t e fs h),
        kept_cons c n t e fs x.keeps y.1,
      )

  agrees : (es : List Event) (s : State) → Sound c s → further_of s n ≡ [] → (state_after c s es).over ≡ false → KeptFrom c n s es → Agrees s es
  unfolding state_after seen transcript_from
  agrees [] s i mine k keeps t fs j a m l = rest_unseen fs t j a.none (sym m)
  agrees (e ∷ es) s i mine k keeps t fs j a m l =
      go (concerns c n e) refl m (λ none. agrees es u (step_sound c g s i (shape c e s)) none k (kept_tail c n s e es keeps))
    where
      u : State
      u = (step c e s).state

      go : (b : Bool) → concerns c n e ≡ b → cond b (e ∷ ours es) (ours es) ≡ ours fs → (further_of u n ≡ [] → Agrees u es) → Same s (e ∷ es) t fs
      go true h q later = skip_to s mine e es (mine_meets s mine e es h (not_over c u es k) (kept_head c n s e es keeps) later) fs t j a q l
      go false h q later =
          let left = other_left c g n one s i mine (shape c e s) h in
          let x = later left.none t fs j (left_on c n u s t (left_back c n s u mine left) a) q l in
          (unseen s i mine e es h ∙ x.0, x.1)

pub alone : Alone
alone c w n one es fs same k l keeps =
    let s = fresh c in
    let i = fresh_sound c in
    let none : further_of s n ≡ [] = none_there c.subscribers n in
    let x = agrees c (good c w) n one es s i none k (record { given_none = keeps.given_none; never_refused = keeps.never_refused })
    s fs i (record { tick = refl; none = none; slots = λ p f. refl }) same l in
    (x.0, record { given_none = x.1.given_none; never_refused = x.1.never_refused })
