-- A further block is taken back only once a life and a rest have passed since it was given: all its mappings were made since.
use Rattle.std.proofs.Common.{◌≡◌, ℕ, suc, ◌+◌, ◌<◌, ◌≤◌, Bool, true, false, cond, eqb, ◌⊎◌, List, [], ◌∷◌, ◌++◌, get_or, Some, None, Option, sym, refl, ap, ◌∙◌, subst, inl, inr, ⊎_elim, append_assoc, append-nil, add-zero, add-suc, suc-add, zero-add, arith}
use mathlib.Core.List.Memᴰ
use mathlib.Core.List.{Memᴰ}
use Rattle.std.proofs.lemmas.List.{get_or-set_other}
use Rattle.std.proofs.lemmas.Bool.{cases_eq, cond-true, cond-false, eq-eqb, ne_eqb, leb-false}
use Rattle.blocks.specs.Config.{Config, blocks_of}
use Rattle.blocks.specs.Ports.{block_of, port_of}
use Rattle.mappings.specs.declared.event.Outward.{Outward}
use Rattle.mappings.specs.declared.event.Event.{Event}
use Rattle.mappings.specs.declared.line.Change.TheVariants.{Given, TakenBack}
use Rattle.mappings.specs.declared.line.Line.{Line}
use Rattle.mappings.specs.Mappings.{Mapping, live_or_resting, made, noting}
use Rattle.mappings.specs.States.{State, fresh}
use Rattle.mappings.specs.Steps.{Step, put, counted, ended, with_block, ticked, line_of, is_used, left_of, left_at, taken_back, step}
use Rattle.mappings.specs.Runs.{state_after, book_from}
use Rattle.mappings.specs.Books.{holder_by}
use Rattle.mappings.specs.Promise.{after, given_after, TakenRested}
use Rattle.mappings.proofs.Options.{none_not_some, same_some, true_not_false}
use Rattle.mappings.proofs.Ports.{Good, good}
use Rattle.mappings.proofs.Shapes.{Shape, refuses, stops, delivers, errs, again, makes, gives, ticks, shape}
use Rattle.mappings.proofs.Sound.{Sound, put_cases}
use Rattle.mappings.proofs.Soundness.{Next, next_known, nobody_there, left_known, holder_stays, used_by, fresh_sound, step_sound}
use Rattle.mappings.proofs.Faces.{given_free}
use Rattle.mappings.proofs.InUse.{Busy, Used, used}
use Rattle.mappings.proofs.Givings.{given_not_taken}

given_on : (b : ℕ) (t : Option ℕ) (ls ms : List Line) → given_after b t (ls ++ ms) ≡ given_after b (given_after b t ls) ms
unfolding given_after
given_on b t [] ms = refl
given_on b t (l ∷ ls) ms = given_on b (cond (eqb l.block b) (holder_by l.change l.tick) t) ls ms

-- each held block was given in a tick since which all its mappings were made
abbrev Made : Config → List Line → State → ℕ → Type 0
Made c ls s b = (t : ℕ) × (given_after b None ls ≡ Some t) × (t ≤ s.tick) × ((p : ℕ) (m : Mapping) → block_of c p ≡ b → s.slots p ≡ Some m → t ≤ m.last)

pub record Since (c : Config) (ls : List Line) (s : State) : Type 0 where
  pub made : (n b : ℕ) → get_or s.holders b None ≡ Some n → Made c ls s b

-- a mapping whose last packet is now is written
put_since : (c : Config) (ls : List Line) (s : State) (p : ℕ) (x : Mapping) (b : ℕ) → x.last ≡ s.tick → Made c ls s b →
    (t : ℕ) × (given_after b None ls ≡ Some t) × (t ≤ s.tick) × ((q : ℕ) (m : Mapping) → block_of c q ≡ b → put s.slots p (Some x) q ≡ Some m → t ≤ m.last)
put_since c ls s p x b now h = (h.0, h.1, h.2, λ q m at e. go q m at (put_cases s.slots p (Some x) q (Some m) e))
  where
    go : (q : ℕ) (m : Mapping) → block_of c q ≡ b → ((q ≡ p) × (Some x ≡ Some m)) ⊎ ((q ≡ p → ⊥) × (s.slots q ≡ Some m)) → h.0 ≤ m.last
    go q m at (inl k) = subst (λ (y : Mapping). h.0 ≤ y.last) (same_some k.1) (omega (arith, h.2))
    go q m at (inr k) = h.3 q m at k.1

-- lines of blocks that are taken back say nothing of one that is used
taken_others : (c : Config) (slots : ℕ → Option Mapping) (moment tick a : ℕ) (hs : List (Option ℕ)) (b : ℕ) (t : Option ℕ) → is_used c slots b ≡ true → given_after b t (taken_back c slots moment tick a hs) ≡ t
unfolding given_after taken_back
taken_others c slots moment tick a [] b t u = refl
taken_others c slots moment tick a (None ∷ hs) b t u = taken_others c slots moment tick (suc a) hs b t u
taken_others c slots moment tick a (Some n ∷ hs) b t u = go (is_used c slots a) refl (taken_others c slots moment tick (suc a) hs b)
  where
    rest : List Line
    rest = taken_back c slots moment tick (suc a) hs

    go : (x : Bool) → is_used c slots a ≡ x → ((y : Option ℕ) → is_used c slots b ≡ true → given_after b y rest ≡ y) → given_after b t (cond x [] (line_of TakenBack moment tick a n ∷ []) ++ rest) ≡ t
    go true h later = later t u
    go false h later = later (cond (eqb a b) None t) u ∙ cond-false (eqb a b) None t (ne_eqb a b (λ e. true_not_false (sym u ∙ ap (is_used c slots) (sym e) ∙ h)))

module _ (c : Config) (g : Good c) (ls : List Line) (s : State) (i : Sound c s) (h : Since c ls s) where
  gives_since : (o : Outward) (d : ℕ) → Next c s o.subscriber d → Since c (ls ++ line_of Given s.moment s.tick d o.subscriber ∷ []) (counted (put s.slots (port_of c d 0) (Some (made s.tick o))) (with_block o.subscriber d s))
  unfolding given_after
  gives_since o d new = record { made = λ n b e. ⊎_elim (λ (k : b ≡ d). here b k) (λ (ne : b ≡ d → ⊥). there n b ne (sym (get_or-set_other s.holders d b (Some o.subscriber) None ne) ∙ e)) (cases_eq b d) }
    where
      line : Line
      line = line_of Given s.moment s.tick d o.subscriber

      q : ℕ
      q = port_of c d 0

      x : Mapping
      x = made s.tick o

      slots : ℕ → Option Mapping
      slots = put s.slots q (Some x)

      says : (b : ℕ) → given_after b None (ls ++ line ∷ []) ≡ cond (eqb d b) (Some s.tick) (given_after b None ls)
      says b = given_on b None ls (line ∷ [])

      here_made : (b : ℕ) → b ≡ d → (p : ℕ) (m : Mapping) → block_of c p ≡ b → slots p ≡ Some m → s.tick ≤ m.last
      here_made b k p m at e = go (put_cases s.slots q (Some x) p (Some m) e)
        where
          go : ((p ≡ q) × (Some x ≡ Some m)) ⊎ ((p ≡ q → ⊥) × (s.slots p ≡ Some m)) → s.tick ≤ m.last
          go (inl j) = subst (λ (y : Mapping). s.tick ≤ y.last) (same_some j.1) (omega arith)
          go (inr j) = absurd (given_free c s i o.subscriber d new p m (at ∙ k) j.1)

      here : (b : ℕ) → b ≡ d → (t : ℕ) × (given_after b None (ls ++ line ∷ []) ≡ Some t) × (t ≤ s.tick) × ((p : ℕ) (m : Mapping) → block_of c p ≡ b → slots p ≡ Some m → t ≤ m.last)
      here b k = (s.tick, says b ∙ cond-true (eqb d b) (Some s.tick) (given_after b None ls) (eq-eqb d b (sym k)), omega arith, here_made b k)

      there : (n b : ℕ) → (b ≡ d → ⊥) → get_or s.holders b None ≡ Some n → (t : ℕ) × (given_after b None (ls ++ line ∷ []) ≡ Some t) × (t ≤ s.tick) × ((p : ℕ) (m : Mapping) → block_of c p ≡ b → slots p ≡ Some m → t ≤ m.last)
      there n b ne e =
          let old = put_since c ls s q x b refl (h.made n b e) in
          (old.0, says b ∙ cond-false (eqb d b) (Some s.tick) (given_after b None ls) (ne_eqb d b (λ k. ne (sym k))) ∙ old.1, old.2, old.3)

  ticks_since : Since c (ls ++ (ticked c s).lines) (ticked c s).state
  ticks_since = record { made = λ n b e. stays n b (holder_stays c slots s.holders n b e) }
    where
      slots : ℕ → Option Mapping
      slots = left_at c (s.tick + 1) s.slots

      stays : (n b : ℕ) → (is_used c slots b ≡ true) × (get_or s.holders b None ≡ Some n) → Made c (ls ++ (ticked c s).lines) (ticked c s).state b
      stays n b k =
          let old = h.made n b k.1 in (
            old.0,
            given_on b None ls (ticked c s).lines ∙ taken_others c slots s.moment (s.tick + 1) 0 s.holders b (given_after b None ls) k.0 ∙ old.1,
            omega (arith, old.2),
            λ p m at e. old.3 p m at (left_known c (s.tick + 1) (s.slots p) m e).0,
          )

  no_lines : (t : State) → Since c ls t → Since c (ls ++ []) t
  no_lines t k = subst (λ ms. Since c ms t) (sym (append-nil ls)) k

  step_since : {e : Event} {r : Step} → Shape c s e r → Since c (ls ++ r.lines) r.state
  step_since (refuses r) = no_lines (counted s.slots s) (record { made = h.made })
  step_since stops = no_lines (ended s) (record { made = h.made })
  step_since (delivers j m a k) = no_lines (counted s.slots s) (record { made = h.made })
  step_since (errs o p m a f k) = no_lines (counted s.slots s) (record { made = h.made })
  step_since (again o p m a f) = no_lines (counted (put s.slots p (Some (noting s.tick o.to m))) s) (record { made = λ n b e. put_since c ls s p (noting s.tick o.to m) b refl (h.made n b e) })
  step_since (makes o p f k) = no_lines (counted (put s.slots p (Some (made s.tick o))) s) (record { made = λ n b e. put_since c ls s p (made s.tick o) b refl (h.made n b e) })
  step_since (gives o d f a k) = gives_since o d (next_known c g s o.subscriber d k)
  step_since (ticks a) = ticks_since

run_since : (c : Config) → Good c → (ls : List Line) (s : State) → Sound c s → Since c ls s → (es : List Event) → Since c (ls ++ book_from c s es) (state_after c s es)
unfolding state_after book_from
run_since c g ls s i h [] = subst (λ ms. Since c ms s) (sym (append-nil ls)) h
run_since c g ls s i h (e ∷ es) =
    let t = (step c e s).state in
    subst (λ ms. Since c ms (state_after c t es)) (append_assoc ls (step c e s).lines (book_from c t es))
    (run_since c g (ls ++ (step c e s).lines) t (step_sound c g s i (shape c e s)) (step_since c g ls s i h (shape c e s)) es)

since : (c : Config) → Good c → (es : List Event) → Since c (book_from c (fresh c) es) (after c es)
since c g es = run_since c g [] (fresh c) (fresh_sound c) (record { made = λ n b e. none_not_some (sym (nobody_there (blocks_of c) b) ∙ e) }) es

-- what is known of a line that takes a block back
abbrev Taken : Config → (ℕ → Option Mapping) → ℕ → ℕ → List (Option ℕ) → Line → Type 0
Taken c slots tick a hs l = (k : ℕ) × (l.block ≡ a + k) × (get_or hs k None ≡ Some l.subscriber) × (is_used c slots l.block ≡ false) × (l.tick ≡ tick)

taken_known : (c : Config) (slots : ℕ → Option Mapping) (moment tick a : ℕ) (hs : List (Option ℕ)) (l : Line) → Memᴰ l (taken_back c slots moment tick a hs) → Taken c slots tick a hs l
unfolding taken_back
taken_known c slots moment tick a [] l j = elim j [ ]
taken_known c slots moment tick a (None ∷ hs) l j = let x = taken_known c slots moment tick (suc a) hs l j in (suc x.0, x.1 ∙ suc-add a x.0 ∙ sym (add-suc a x.0), x.2, x.3, x.4)
taken_known c slots moment tick a (Some n ∷ hs) l j = go (is_used c slots a) refl (taken_known c slots moment tick (suc a) hs l) j
  where
    rest : List Line
    rest = taken_back c slots moment tick (suc a) hs

    onward : Taken c slots tick (suc a) hs l → Taken c slots tick a (Some n ∷ hs) l
    onward x = (suc x.0, x.1 ∙ suc-add a x.0 ∙ sym (add-suc a x.0), x.2, x.3, x.4)

    here : is_used c slots a ≡ false → l ≡ line_of TakenBack moment tick a n → Taken c slots tick a (Some n ∷ hs) l
    here h e =
        let same_block : l.block ≡ a = ap (λ (x : Line). x.block) e in
        (0, same_block ∙ sym (add-zero a), ap Some (ap (λ (x : Line). x.subscriber) (sym e)), ap (is_used c slots) same_block ∙ h, ap (λ (x : Line). x.tick) e)

    go : (b : Bool) → is_used c slots a ≡ b → (Memᴰ l rest → Taken c slots tick (suc a) hs l) → Memᴰ l (cond b [] (line_of TakenBack moment tick a n ∷ []) ++ rest) → Taken c slots tick a (Some n ∷ hs) l
    go true h later i = onward (later i)
    go false h later i = ⊎_elim (λ (e : l ≡ line_of TakenBack moment tick a n). here h e) (λ (k : Memᴰ l rest). onward (later k)) (Memᴰ.cases_cons i)

-- the tick at which a block is taken back lies past the rest of a mapping that was made since the giving
tick_rested : (c : Config) → Good c → (s : State) → (ls : List Line) → Since c ls s → Used c s → (l : Line) → Memᴰ l (ticked c s).lines →
    (t : ℕ) × (given_after l.block None ls ≡ Some t) × (t + c.life + c.rest < l.tick)
tick_rested c g s ls h u l j = (old.0, old.1, subst (λ x. old.0 + c.life + c.rest < x) (sym x.4) past)
  where
    slots : ℕ → Option Mapping
    slots = left_at c (s.tick + 1) s.slots

    x : Taken c slots (s.tick + 1) 0 s.holders l
    x = taken_known c slots s.moment (s.tick + 1) 0 s.holders l j

    has : get_or s.holders l.block None ≡ Some l.subscriber
    has = ap (λ b. get_or s.holders b None) (x.1 ∙ zero-add x.0) ∙ x.2

    old : Made c ls s l.block
    old = h.made l.subscriber l.block has

    y : Busy c s.slots l.block
    y = u.busy l.subscriber l.block has

    m : Mapping
    m = y.1

    gone : (b : Bool) → live_or_resting c (s.tick + 1) m ≡ b → b ≡ false
    gone false k = refl
    gone true k = sym (used_by c g slots y.0 m y.2 (ap (left_of c (s.tick + 1)) y.4 ∙ cond-true (live_or_resting c (s.tick + 1) m) (Some m) None k)) ∙ ap (is_used c slots) y.3 ∙ x.3

    past : old.0 + c.life + c.rest < s.tick + 1
    past = omega (arith, old.3 y.0 m y.3 y.4, leb-false (s.tick + 1) (m.last + c.life + c.rest) (gone (live_or_resting c (s.tick + 1) m) refl))

rested : (c : Config) → Good c → (s : State) → (ls : List Line) → Since c ls s → Used c s → {e : Event} {r : Step} → Shape c s e r → (l : Line) → Memᴰ l r.lines → l.change ≡ TakenBack →
    (t : ℕ) × (given_after l.block None ls ≡ Some t) × (t + c.life + c.rest < l.tick)
rested c g s ls h u (refuses r) l j k = absurd (Memᴰ.not-nil j)
rested c g s ls h u stops l j k = absurd (Memᴰ.not-nil j)
rested c g s ls h u (delivers i m a b) l j k = absurd (Memᴰ.not-nil j)
rested c g s ls h u (errs o p m a f b) l j k = absurd (Memᴰ.not-nil j)
rested c g s ls h u (again o p m a f) l j k = absurd (Memᴰ.not-nil j)
rested c g s ls h u (makes o p f a) l j k = absurd (Memᴰ.not-nil j)
rested c g s ls h u (gives o d f a b) l j k = given_not_taken (ap (λ (y : Line). y.change) (sym (Memᴰ.eq_of_singleton j)) ∙ k)
rested c g s ls h u (ticks a) l j k = tick_rested c g s ls h u l j

pub taken_rested : TakenRested
taken_rested c w es e l j k = rested c (good c w) (after c es) (book_from c (fresh c) es) (since c (good c w) es) (used c (good c w) es) (shape c e (after c es)) l j k
