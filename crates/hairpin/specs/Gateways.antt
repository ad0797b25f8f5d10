-- What a gateway does with one event.
use Rattle.std.specs.Prelude.{◌≡◌, ℕ, List, []}
use Rattle.blocks.specs.Config.{Config}
use Rattle.mappings.specs.declared.event.Event.{Event}
use Rattle.mappings.specs.declared.line.Line.{Line}
use Rattle.mappings.specs.States.{State, fresh}
use Rattle.mappings.specs.Steps.{step}
use Rattle.tables.specs.Models.{config_of, lines_of, model}
use Rattle.hairpin.specs.declared.outcome.Outcome.{Outcome}
use Rattle.hairpin.specs.declared.gateway.Gateway.{Gateway}
use Rattle.hairpin.specs.Passages.{passage}

abbrev pub config_in : Gateway → Config
config_in g = config_of g.table

abbrev pub state_in : Gateway → State
state_in g = model g.table

-- what the last event wrote into the book
abbrev pub lines_in : Gateway → List Line
lines_in g = lines_of g.table

pub record IsFresh (c : Config) (g : Gateway) : Type 0 where
  pub settings : config_in g ≡ c
  pub state : state_in g ≡ fresh c
  pub lines : lines_in g ≡ []

-- the gateway g came to be by an event, from one with the settings c and the state s; bs: the event's bytes, after: those left of them, r: what became of it
pub record Handled (c : Config) (s : State) (hops : ℕ) (e : Event) (bs : List ℕ) (g : Gateway) (r : Outcome) (after : List ℕ) : Type 0 where
  pub settings : config_in g ≡ c
  pub state : state_in g ≡ (step c e s).state
  pub lines : lines_in g ≡ (step c e s).lines
  pub outcome : r ≡ (passage c s hops e bs).outcome
  pub left : after ≡ (passage c s hops e bs).left
