-- Every address that a mapping remembers was sent to by it, and so what is let in answers an earlier packet.
use Rattle.std.proofs.Common.{◌≡◌, ℕ, zero, suc, ◌+◌, ◌<◌, ◌≤◌, Bool, true, false, cond, ◌||◌, eqb, ◌⊎◌, List, [], ◌∷◌, ◌++◌, take, Some, sym, refl, ap, ◌∙◌, subst, inl, inr, ⊎_elim, append_assoc, append-nil, arith}
use mathlib.Core.List.Memᴰ
use mathlib.Core.List.{Memᴰ}
use Rattle.std.proofs.lemmas.Bool.{or_cases, or_left, or_right, eqb-true}
use Rattle.blocks.specs.Config.{Config}
use Rattle.blocks.specs.Ports.{port_of}
use Rattle.mappings.specs.declared.event.Outward.{Outward}
use Rattle.mappings.specs.declared.event.Inward.{Inward}
use Rattle.mappings.specs.declared.event.Event.{Event}
use Rattle.mappings.specs.declared.event.Event.TheVariants.{Goes, ErrorGoes}
use Rattle.mappings.specs.declared.event.Verdict.{Verdict}
use Rattle.mappings.specs.declared.event.Verdict.TheVariants.{Sent, Delivered}
use Rattle.mappings.specs.Mappings.{Mapping, is_in, without, noted, made, noting}
use Rattle.mappings.specs.States.{State, fresh}
use Rattle.mappings.specs.Steps.{Step, put, step}
use Rattle.mappings.specs.Runs.{Occurrence, occurrence, state_after, transcript_from}
use Rattle.mappings.specs.Promise.{after, inward_of, SentBefore, Answered, ErrorsAnswered}
use Rattle.mappings.proofs.Options.{none_not_some, same_some, true_not_false}
use Rattle.mappings.proofs.Shapes.{Shape, Face, Known, refuses, stops, delivers, errs, again, makes, gives, ticks, shape}
use Rattle.mappings.proofs.Sound.{put_cases, of_parts, same_protocol_lem}
use Rattle.mappings.proofs.Soundness.{left_known}
use Rattle.mappings.proofs.Continued.{transcript_on}
use Rattle.mappings.proofs.Tracing.{Happened, happened, clash}

pub in_without : (a b : ℕ) (xs : List ℕ) → is_in a (without b xs) ≡ true → is_in a xs ≡ true
unfolding is_in without
in_without a b [] e = e
in_without a b (x ∷ xs) e = go (in_without a b xs) (eqb x b) e
  where
    go : (is_in a (without b xs) ≡ true → is_in a xs ≡ true) → (t : Bool) → is_in a (cond t xs (x ∷ without b xs)) ≡ true → (eqb x a || is_in a xs) ≡ true
    go later true k = or_right (eqb x a) (is_in a xs) k
    go later false k = ⊎_elim (λ (h : eqb x a ≡ true). or_left (eqb x a) (is_in a xs) h) (λ (h : is_in a (without b xs) ≡ true). or_right (eqb x a) (is_in a xs) (later h)) (or_cases (eqb x a) (is_in a (without b xs)) k)

pub in_take : (a n : ℕ) (xs : List ℕ) → is_in a (take n xs) ≡ true → is_in a xs ≡ true
unfolding is_in
in_take a zero xs e = true_not_false (sym e)
in_take a (suc n) [] e = e
in_take a (suc n) (x ∷ xs) e = ⊎_elim (λ (h : eqb x a ≡ true). or_left (eqb x a) (is_in a xs) h) (λ (h : is_in a (take n xs) ≡ true). or_right (eqb x a) (is_in a xs) (in_take a n xs h)) (or_cases (eqb x a) (is_in a (take n xs)) e)

in_noted : (a b : ℕ) (xs : List ℕ) → is_in a (noted b xs) ≡ true → (b ≡ a) ⊎ (is_in a xs ≡ true)
unfolding is_in
in_noted a b xs e = ⊎_elim (λ (h : eqb b a ≡ true). inl (eqb-true b a h)) (λ (h : is_in a (take 15 (without b xs)) ≡ true). inr (in_without a b xs (in_take a 15 (without b xs) h)))
    (or_cases (eqb b a) (is_in a (take 15 (without b xs))) e)

in_one : (a b : ℕ) → is_in a (b ∷ []) ≡ true → b ≡ a
unfolding is_in
in_one a b e = ⊎_elim (λ (h : eqb b a ≡ true). eqb-true b a h) (λ (h : false ≡ true). true_not_false (sym h)) (or_cases (eqb b a) false e)

-- the packet by which a mapping sends to an address
abbrev packet_of : Mapping → ℕ → Outward
packet_of m a = record { subscriber = m.subscriber; protocol = m.protocol; port = m.port; to = a }

-- a mapping's address was sent to by the port p before the moment n
abbrev Was : List Occurrence → ℕ → ℕ → Outward → Type 0
Was past n p o = (y : Occurrence) × Memᴰ y past × (y.moment < n) × (y.event ≡ Goes o) × (y.verdict ≡ Sent p)

pub record Backed (past : List Occurrence) (s : State) : Type 0 where
  pub sent : (p : ℕ) (m : Mapping) (a : ℕ) → s.slots p ≡ Some m → is_in a m.remembered ≡ true → Was past s.moment p (packet_of m a)

was_on : (past : List Occurrence) (x : Occurrence) (n k p : ℕ) (o : Outward) → n ≤ k → Was past n p o → Was (past ++ x ∷ []) k p o
was_on past x n k p o l w = (w.0, Memᴰ.append_left (x ∷ []) w.1, omega (arith, w.2), w.3, w.4)

was_now : (past : List Occurrence) (s : State) (o : Outward) (p : ℕ) (v : Verdict) → v ≡ Sent p → Was (past ++ occurrence s (Goes o) v ∷ []) (s.moment + 1) p o
was_now past s o p v e = (occurrence s (Goes o) v, Memᴰ.append_right past (Memᴰ.head refl), omega arith, refl, e)

same_packet : (o q : Outward) → o.subscriber ≡ q.subscriber → o.protocol ≡ q.protocol → o.port ≡ q.port → o.to ≡ q.to → o ≡ q
same_packet o q a b d e = λ j. record { subscriber = a j; protocol = b j; port = d j; to = e j }

module _ (past : List Occurrence) (s : State) (b : Backed past s) where
  quiet_backed : (x : Occurrence) (n p : ℕ) → s.moment ≤ n → (m : Mapping) (a : ℕ) → s.slots p ≡ Some m → is_in a m.remembered ≡ true → Was (past ++ x ∷ []) n p (packet_of m a)
  quiet_backed x n p l m a e h = was_on past x s.moment n p (packet_of m a) l (b.sent p m a e h)

  again_backed : (c : Config) (o : Outward) (q : ℕ) (k : Mapping) → Face c s o q k → (p : ℕ) (m : Mapping) (a : ℕ) →
      put s.slots q (Some (noting s.tick o.to k)) p ≡ Some m → is_in a m.remembered ≡ true → Was (past ++ occurrence s (Goes o) (Sent q) ∷ []) (s.moment + 1) p (packet_of m a)
  again_backed c o q k f p m a e h = go (put_cases s.slots q (Some new) p (Some m) e)
    where
      new : Mapping
      new = noting s.tick o.to k

      x : Occurrence
      x = occurrence s (Goes o) (Sent q)

      its : (k.subscriber ≡ o.subscriber) × (k.protocol ≡ o.protocol) × (k.port ≡ o.port)
      its = of_parts o k f.its

      at : (is_in a (noted o.to k.remembered) ≡ true) → Was (past ++ x ∷ []) (s.moment + 1) q (packet_of new a)
      at i = ⊎_elim
          (λ (z : o.to ≡ a). subst (λ y. Was (past ++ x ∷ []) (s.moment + 1) q y) (same_packet o (packet_of new a) (sym its.0) (sym its.1) (sym its.2) z) (was_now past s o q (Sent q) refl))
          (λ (z : is_in a k.remembered ≡ true). quiet_backed x (s.moment + 1) q (omega arith) k a f.there z)
          (in_noted a o.to k.remembered i)

      go : ((p ≡ q) × (Some new ≡ Some m)) ⊎ ((p ≡ q → ⊥) × (s.slots p ≡ Some m)) → Was (past ++ x ∷ []) (s.moment + 1) p (packet_of m a)
      go (inl j) =
          let same = same_some j.1 in
          subst (λ r. Was (past ++ x ∷ []) (s.moment + 1) r (packet_of m a)) (sym j.0)
          (subst (λ y. Was (past ++ x ∷ []) (s.moment + 1) q (packet_of y a)) same (at (ap (λ (y : Mapping). is_in a y.remembered) same ∙ h)))
      go (inr j) = quiet_backed x (s.moment + 1) p (omega arith) m a j.1 h

  made_backed : (o : Outward) (q : ℕ) (p : ℕ) (m : Mapping) (a : ℕ) →
      put s.slots q (Some (made s.tick o)) p ≡ Some m → is_in a m.remembered ≡ true → Was (past ++ occurrence s (Goes o) (Sent q) ∷ []) (s.moment + 1) p (packet_of m a)
  made_backed o q p m a e h = go (put_cases s.slots q (Some new) p (Some m) e)
    where
      new : Mapping
      new = made s.tick o

      x : Occurrence
      x = occurrence s (Goes o) (Sent q)

      go : ((p ≡ q) × (Some new ≡ Some m)) ⊎ ((p ≡ q → ⊥) × (s.slots p ≡ Some m)) → Was (past ++ x ∷ []) (s.moment + 1) p (packet_of m a)
      go (inl j) =
          let same = same_some j.1 in
          let to : o.to ≡ a = in_one a o.to (ap (λ (y : Mapping). is_in a y.remembered) same ∙ h) in
          subst (λ r. Was (past ++ x ∷ []) (s.moment + 1) r (packet_of m a)) (sym j.0)
          (subst (λ y. Was (past ++ x ∷ []) (s.moment + 1) q (packet_of y a)) same
          (subst (λ y. Was (past ++ x ∷ []) (s.moment + 1) q y) (same_packet o (packet_of new a) refl refl refl to) (was_now past s o q (Sent q) refl)))
      go (inr j) = quiet_backed x (s.moment + 1) p (omega arith) m a j.1 h

  step_backed : (c : Config) {e : Event} {r : Step} → Shape c s e r → Backed (past ++ occurrence s e r.verdict ∷ []) r.state
  step_backed c {e} {r} (refuses k) = record { sent = λ p m a h i. quiet_backed (occurrence s e r.verdict) (s.moment + 1) p (omega arith) m a h i }
  step_backed c {e} {r} stops = record { sent = λ p m a h i. quiet_backed (occurrence s e r.verdict) s.moment p (omega arith) m a h i }
  step_backed c {e} {r} (delivers j k z y) = record { sent = λ p m a h i. quiet_backed (occurrence s e r.verdict) (s.moment + 1) p (omega arith) m a h i }
  step_backed c {e} {r} (errs o q k z f y) = record { sent = λ p m a h i. quiet_backed (occurrence s (ErrorGoes o) (Sent q)) (s.moment + 1) p (omega arith) m a h i }
  step_backed c (again o q k z f) = record { sent = again_backed c o q k f }
  step_backed c (makes o q f z) = record { sent = made_backed o q }
  step_backed c (gives o d f z y) = record { sent = made_backed o (port_of c d 0) }
  step_backed c {e} {r} (ticks z) = record { sent = λ p m a h i. quiet_backed (occurrence s e r.verdict) (s.moment + 1) p (omega arith) m a (left_known c (s.tick + 1) (s.slots p) m h).0 i }

run_backed : (c : Config) (past : List Occurrence) (s : State) → Backed past s → (es : List Event) → Backed (past ++ transcript_from c s es) (state_after c s es)
unfolding state_after transcript_from
run_backed c past s b [] = subst (λ xs. Backed xs s) (sym (append-nil past)) b
run_backed c past s b (e ∷ es) =
    let t = (step c e s).state in
    let x = occurrence s e (step c e s).verdict in
    subst (λ xs. Backed xs (state_after c t es)) (append_assoc past (x ∷ []) (transcript_from c t es))
    (run_backed c (past ++ x ∷ []) t (step_backed past s b c (shape c e s)) es)

backed : (c : Config) (es : List Event) → Backed (transcript_from c (fresh c) es) (after c es)
backed c es = run_backed c [] (fresh c) (record { sent = λ p m a h i. none_not_some h }) es

-- what is delivered was known to the mapping
delivered_known : (c : Config) (s : State) {e : Event} {r : Step} → Shape c s e r → (n q : ℕ) → r.verdict ≡ Delivered n q →
    (i : Inward) × (m : Mapping) × (inward_of e ≡ Some i) × Known c s i m × (m.subscriber ≡ n) × (m.port ≡ q)
delivered_known c s (refuses r) n q v = clash (cc)
delivered_known c s stops n q v = clash (cc)
delivered_known c s (delivers i m a k) n q v =
    let x : m.subscriber ≡ n = cc in
    let y : m.port ≡ q = cc in
    (i, m, a, k, x, y)
delivered_known c s (errs o p m a f k) n q v = clash (cc)
delivered_known c s (again o p m a f) n q v = clash (cc)
delivered_known c s (makes o p f e) n q v = clash (cc)
delivered_known c s (gives o b f a e) n q v = clash (cc)
delivered_known c s (ticks a) n q v = clash (cc)

-- an earlier packet of a run is found in the whole run's transcript
found_before : (c : Config) (es : List Event) (x : Occurrence) (h : Happened c (fresh c) es x) (p : ℕ) (o : Outward) → Was (transcript_from c (fresh c) h.before) (after c h.before).moment p o →
    (y : Occurrence) × Memᴰ y (transcript_from c (fresh c) es) × SentBefore x p o y
found_before c es x h p o w = (
  w.0,
  subst (λ xs. Memᴰ w.0 xs) (sym (ap (transcript_from c (fresh c)) h.there ∙ transcript_on c (fresh c) h.before (h.event ∷ h.later)))
      (Memᴰ.append_left (transcript_from c (after c h.before) (h.event ∷ h.later)) w.1),
  record { earlier = subst (λ (z : Occurrence). w.0.moment < z.moment) (sym h.so) w.2; went = w.3; port = w.4 },
)

pub answered : Answered
answered c w es x n q j v =
    let h = happened c (fresh c) es x j in
    let s = after c h.before in
    let d = delivered_known c s (shape c h.event s) n q (ap (λ (y : Occurrence). y.verdict) (sym h.so) ∙ v) in
    let i = d.0 in
    let m = d.1 in
    let k = d.3 in
    let was = (backed c h.before).sent i.port m i.from k.there k.remembered in
    let same = same_packet (packet_of m i.from) (record { subscriber = n; protocol = i.protocol; port = q; to = i.from }) d.4 (same_protocol_lem m.protocol i.protocol k.its) d.5 refl in
    let y = found_before c es x h i.port (record { subscriber = n; protocol = i.protocol; port = q; to = i.from })
    (subst (λ o. Was (transcript_from c (fresh c) h.before) s.moment i.port o) same was) in
    (i, ap (λ (z : Occurrence). inward_of z.event) h.so ∙ d.2, y.0, y.1, y.2)

-- an error message that goes out was known to the mapping
error_known : (c : Config) (s : State) {e : Event} {r : Step} → Shape c s e r → (o : Outward) (p : ℕ) → e ≡ ErrorGoes o → r.verdict ≡ Sent p →
    (m : Mapping) × (s.slots p ≡ Some m) × (packet_of m o.to ≡ o) × (is_in o.to m.remembered ≡ true)
error_known c s (refuses r) o p a v = clash (cc)
error_known c s stops o p a v = clash (cc)
error_known c s (delivers i m b k) o p a v = clash (cc)
error_known c s (errs q d m b f k) o p a v =
    let same : q ≡ o = cc in
    let port : d ≡ p = cc in
    let its = of_parts q m f.its in (
      m,
      ap s.slots (sym port) ∙ f.there,
      same_packet (packet_of m o.to) q its.0 its.1 its.2 (ap (λ (y : Outward). y.to) (sym same)) ∙ same,
      ap (λ (y : Outward). is_in y.to m.remembered) (sym same) ∙ k,
    )
error_known c s (again q d m b f) o p a v = clash (cc)
error_known c s (makes q d f e) o p a v = clash (cc)
error_known c s (gives q b f d e) o p a v = clash (cc)
error_known c s (ticks b) o p a v = clash (cc)

pub errors_answered : ErrorsAnswered
errors_answered c w es x o p j a v =
    let h = happened c (fresh c) es x j in
    let s = after c h.before in
    let d = error_known c s (shape c h.event s) o p (ap (λ (y : Occurrence). y.event) (sym h.so) ∙ a) (ap (λ (y : Occurrence). y.verdict) (sym h.so) ∙ v) in
    found_before c es x h p o
    (subst (λ q. Was (transcript_from c (fresh c) h.before) s.moment p q) d.2 ((backed c h.before).sent p d.0 o.to d.1 d.3))
