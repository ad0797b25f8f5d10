-- What a table means: the settings, the state and the lines of the last event.
use Rattle.std.specs.Prelude.{◌≡◌, ℕ, Bool, true, false, ◌&&◌, ◌||◌, List, [], map, replicate, None, nat_le, vec_items}
use Rattle.blocks.specs.Config.{Config, blocks_of}
use Rattle.blocks.specs.Settings.{config}
use Rattle.mappings.specs.declared.event.Event.{Event}
use Rattle.mappings.specs.declared.event.Event.TheVariants.{Unreadable, Goes, Comes, ErrorGoes, ErrorComes, Tick}
use Rattle.mappings.specs.declared.event.Verdict.{Verdict}
use Rattle.mappings.specs.declared.line.Line.{Line}
use Rattle.mappings.specs.States.{State, no_mapping}
use Rattle.mappings.specs.Steps.{Step, counted, last_moment, last_tick}
use Rattle.tables.specs.Rows.{blocks_in, slots_in}
use Rattle.tables.specs.declared.table.Table.{Table}

abbrev pub config_of : Table → Config
config_of t = config t.settings

-- a definition and no model of the type: the promises are over the plain state
abbrev pub model : Table → State
model t = record {
  slots = slots_in t.slots;
  further = map blocks_in (vec_items t.further);
  holders = vec_items t.holders;
  tick = t.tick;
  moment = t.moment;
  over = t.over;
}

abbrev pub lines_of : Table → List Line
lines_of t = vec_items t.lines

-- the table t came to be from one with the settings c by the step x, whose verdict is r
pub record Did (c : Config) (x : Step) (t : Table) (r : Verdict) : Type 0 where
  pub settings : config_of t ≡ c
  pub state : model t ≡ x.state
  pub verdict : r ≡ x.verdict
  pub lines : lines_of t ≡ x.lines

-- the same before the event is counted: its verdict is r, and its lines are ls
pub record Does (c : Config) (m : ℕ) (x : Step) (t : Table) (r : Verdict) (ls : List Line) : Type 0 where
  pub settings : config_of t ≡ c
  pub moment : t.moment ≡ m
  pub state : counted (model t).slots (model t) ≡ x.state
  pub verdict : r ≡ x.verdict
  pub lines : ls ≡ x.lines

abbrev pub is_tick : Event → Bool
is_tick Tick = true
is_tick (Unreadable r) = false
is_tick (Goes o) = false
is_tick (Comes i) = false
is_tick (ErrorGoes o) = false
is_tick (ErrorComes i) = false

-- the run is over, or it ends by this event
abbrev pub ends : Event → State → Bool
ends e s = s.over || nat_le last_moment s.moment || (is_tick e && nat_le last_tick s.tick)

-- nothing has happened yet, but for the tick and the count of events
abbrev pub fresh_at : Config → ℕ → ℕ → State
fresh_at c tick moment = record {
  slots = no_mapping;
  further = replicate c.subscribers [];
  holders = replicate (blocks_of c) None;
  tick = tick;
  moment = moment;
  over = false;
}

pub record Began (c : Config) (tick moment : ℕ) (t : Table) : Type 0 where
  pub settings : config_of t ≡ c
  pub state : model t ≡ fresh_at c tick moment
  pub lines : lines_of t ≡ []
