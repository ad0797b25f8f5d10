-- A further block is held only while a mapping has a port of it.
use Rattle.std.proofs.Common.{◌≡◌, ℕ, ◌+◌, ◌≤◌, true, List, [], ◌∷◌, get_or, Some, None, Option, sym, refl, ◌∙◌, ⊎_elim}
use Rattle.std.proofs.lemmas.List.{get_or-set_other}
use Rattle.std.proofs.lemmas.Bool.{cases_eq}
use Rattle.blocks.specs.Config.{Config, lowest_port, blocks_of}
use Rattle.blocks.specs.Ports.{block_of, port_of}
use Rattle.mappings.specs.declared.event.Event.{Event}
use Rattle.mappings.specs.Mappings.{Mapping, made, noting}
use Rattle.mappings.specs.States.{State, fresh, block_ports}
use Rattle.mappings.specs.Steps.{Step, put, is_taken, is_used, left_at, step}
use Rattle.mappings.specs.Runs.{state_after}
use Rattle.mappings.specs.Promise.{HeldInUse}
use Rattle.mappings.proofs.Options.{none_not_some, is_some}
use Rattle.mappings.proofs.Firsts.{first_some}
use Rattle.mappings.proofs.Ports.{Good, good, in_block}
use Rattle.mappings.proofs.Shapes.{Shape, refuses, stops, delivers, errs, again, makes, gives, ticks, shape}
use Rattle.mappings.proofs.Sound.{put_same, put_other}
use Rattle.mappings.proofs.Soundness.{nobody_there, lowest_in, holder_stays}
use Rattle.mappings.specs.Searches.{first}

-- a port of the block has a mapping
abbrev pub Busy : Config → (ℕ → Option Mapping) → ℕ → Type 0
Busy c slots b = (p : ℕ) × (m : Mapping) × (lowest_port ≤ p) × (block_of c p ≡ b) × (slots p ≡ Some m)

pub record Used (c : Config) (s : State) : Type 0 where
  pub busy : (n b : ℕ) → get_or s.holders b None ≡ Some n → Busy c s.slots b

put_busy : (c : Config) (slots : ℕ → Option Mapping) (p : ℕ) (x : Mapping) (b : ℕ) → Busy c slots b → Busy c (put slots p (Some x)) b
put_busy c slots p x b u = ⊎_elim
    (λ (k : u.0 ≡ p). (u.0, x, u.2, u.3, put_same slots p (Some x) u.0 k))
    (λ (k : u.0 ≡ p → ⊥). (u.0, u.1, u.2, u.3, put_other slots p (Some x) u.0 k ∙ u.4))
    (cases_eq u.0 p)

used_busy : (c : Config) → Good c → (slots : ℕ → Option Mapping) (b : ℕ) → is_used c slots b ≡ true → Busy c slots b
used_busy c g slots b e =
    let p = is_some (first (is_taken slots) (block_ports c b)) e in
    let f = first_some (is_taken slots) (block_ports c b) p.0 p.1 in
    let m = is_some (slots p.0) f.1 in
    let at = in_block c g b p.0 f.0 in
    (p.0, m.0, at.0, at.1, m.1)

step_used : (c : Config) → Good c → (s : State) → Used c s → {e : Event} {r : Step} → Shape c s e r → Used c r.state
step_used c g s u (refuses r) = record { busy = u.busy }
step_used c g s u stops = record { busy = u.busy }
step_used c g s u (delivers i m a k) = record { busy = u.busy }
step_used c g s u (errs o p m a f k) = record { busy = u.busy }
step_used c g s u (again o p m a f) = record { busy = λ n b e. put_busy c s.slots p (noting s.tick o.to m) b (u.busy n b e) }
step_used c g s u (makes o p f k) = record { busy = λ n b e. put_busy c s.slots p (made s.tick o) b (u.busy n b e) }
step_used c g s u (gives o d f a k) = record {
  busy = λ n b e. ⊎_elim
      (λ (h : b ≡ d). (port_of c d 0, made s.tick o, (lowest_in c g d).0, (lowest_in c g d).1 ∙ sym h, put_same s.slots (port_of c d 0) (Some (made s.tick o)) (port_of c d 0) refl))
      (λ (ne : b ≡ d → ⊥). put_busy c s.slots (port_of c d 0) (made s.tick o) b (u.busy n b (sym (get_or-set_other s.holders d b (Some o.subscriber) None ne) ∙ e)))
      (cases_eq b d);
}
step_used c g s u (ticks a) = record { busy = λ n b e. used_busy c g (left_at c (s.tick + 1) s.slots) b (holder_stays c (left_at c (s.tick + 1) s.slots) s.holders n b e).0 }

run_used : (c : Config) → Good c → (s : State) → Used c s → (es : List Event) → Used c (state_after c s es)
unfolding state_after
run_used c g s u [] = u
run_used c g s u (e ∷ es) = run_used c g (step c e s).state (step_used c g s u (shape c e s)) es

pub used : (c : Config) → Good c → (es : List Event) → Used c (state_after c (fresh c) es)
used c g es = run_used c g (fresh c) (record { busy = λ n b e. none_not_some (sym (nobody_there (blocks_of c) b) ∙ e) }) es

pub held_in_use : HeldInUse
held_in_use c w es n b e = (used c (good c w) es).busy n b e
