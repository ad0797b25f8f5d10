-- What one event does: the state after it, what becomes of it, and the lines that the book gets.
use Rattle.std.specs.Prelude.{ℕ, suc, ◌+◌, ◌-◌, ◌^◌, Bool, true, false, cond, not, ◌&&◌, ◌||◌, List, [], ◌∷◌, ◌++◌, map, length, is_some, Some, None, Option, ◌==◌, nat_le, nat_lt, slice_index_or, slice_set}
use Rattle.std.specs.List.{filter}
use Rattle.blocks.specs.Config.{Config, blocks_of}
use Rattle.blocks.specs.Ports.{port_of}
use Rattle.blocks.specs.declared.refusal.Refusal.{Refusal}
use Rattle.blocks.specs.declared.refusal.Refusal.TheVariants.{NoSubscriber, NoPort, NoMapping, NotRemembered, UnrelatedError, Exhausted}
use Rattle.mappings.specs.declared.event.Outward.{Outward}
use Rattle.mappings.specs.declared.event.Inward.{Inward}
use Rattle.mappings.specs.declared.event.Event.{Event}
use Rattle.mappings.specs.declared.event.Event.TheVariants.{Unreadable, Goes, Comes, ErrorGoes, ErrorComes, Tick}
use Rattle.mappings.specs.declared.event.Verdict.{Verdict}
use Rattle.mappings.specs.declared.event.Verdict.TheVariants.{Sent, Delivered, Refused, Ticked}
use Rattle.mappings.specs.declared.line.Change.{Change}
use Rattle.mappings.specs.declared.line.Change.TheVariants.{Given, TakenBack}
use Rattle.mappings.specs.declared.line.Line.{Line}
use Rattle.mappings.specs.Searches.{range, first}
use Rattle.mappings.specs.Mappings.{Mapping, live, live_or_resting, same_protocol, is_of, is_in, made, noting}
use Rattle.mappings.specs.States.{State, block_ports, further_of, ports_of}

pub record Step : Type 0 where
  pub state : State
  pub verdict : Verdict
  pub lines : List Line

-- the state with another mapping table, after one more event
abbrev pub counted : (ℕ → Option Mapping) → State → State
counted slots s = record { slots = slots; further = s.further; holders = s.holders; tick = s.tick; moment = s.moment + 1; over = s.over }

-- an event that leaves everything as it was but the count of events
abbrev pub only : Verdict → State → Step
only v s = record { state = counted s.slots s; verdict = v; lines = [] }

abbrev pub ended : State → State
ended s = record { slots = s.slots; further = s.further; holders = s.holders; tick = s.tick; moment = s.moment; over = true }

-- the run is over: nothing else changes, not even the count of events
abbrev pub exhausted : State → Step
exhausted s = record { state = ended s; verdict = Refused Exhausted; lines = [] }

-- the mapping at a port, if it is live and passes the test
abbrev pub live_and : Config → ℕ → (Mapping → Bool) → Option Mapping → Option Mapping
live_and c t f None = None
live_and c t f (Some m) = cond (live c t m && f m) (Some m) None

-- the subscriber's live mapping for its protocol and port is at this port
abbrev pub is_face : Config → ℕ → (ℕ → Option Mapping) → Outward → ℕ → Bool
is_face c t slots o p = is_some (live_and c t (is_of o) (slots p))

abbrev pub is_free : (ℕ → Option Mapping) → ℕ → Bool
is_free slots p = not (is_some (slots p))

abbrev pub put : (ℕ → Option Mapping) → ℕ → Option Mapping → ℕ → Option Mapping
put slots p v q = cond (q == p) v (slots q)

-- a packet goes out by the port p, which has the mapping v from now on
abbrev pub sent_by : ℕ → Option Mapping → State → Step
sent_by p v s = record { state = counted (put s.slots p v) s; verdict = Sent p; lines = [] }

abbrev pub line_of : Change → ℕ → ℕ → ℕ → ℕ → Line
line_of change moment tick b n = record { change = change; moment = moment; tick = tick; block = b; subscriber = n }

-- the subscriber n is given the block b
abbrev pub with_block : ℕ → ℕ → State → State
with_block n b s = record {
  slots = s.slots;
  further = slice_set s.further n (further_of s n ++ b ∷ []);
  holders = slice_set s.holders b (Some n);
  tick = s.tick;
  moment = s.moment;
  over = s.over;
}

abbrev pub is_unheld : List (Option ℕ) → ℕ → Bool
is_unheld holders b = not (is_some (slice_index_or holders b None))

-- the lowest further block that nobody has, if the subscriber may have one more
abbrev pub next_block : Config → State → ℕ → Option ℕ
next_block c s n = cond (nat_lt (length (further_of s n)) c.further) (first (is_unheld s.holders) (range c.subscribers (blocks_of c - c.subscribers))) None

-- out by the lowest port of a further block that is given for this packet
abbrev pub by_next_block : Config → Outward → State → Option ℕ → Step
by_next_block c o s None = only (Refused NoPort) s
by_next_block c o s (Some b) = record {
  state = counted (put s.slots (port_of c b 0) (Some (made s.tick o))) (with_block o.subscriber b s);
  verdict = Sent (port_of c b 0);
  lines = line_of Given s.moment s.tick b o.subscriber ∷ [];
}

-- out by the lowest free port of the blocks that the subscriber has
abbrev pub by_free : Config → Outward → State → Option ℕ → Step
by_free c o s None = by_next_block c o s (next_block c s o.subscriber)
by_free c o s (Some p) = sent_by p (Some (made s.tick o)) s

abbrev pub noting_at : ℕ → ℕ → Option Mapping → Option Mapping
noting_at t a None = None
noting_at t a (Some m) = Some (noting t a m)

-- out by the port that has the live mapping of the subscriber's port already
abbrev pub by_face : Config → Outward → State → Option ℕ → Step
by_face c o s None = by_free c o s (first (is_free s.slots) (ports_of c s o.subscriber))
by_face c o s (Some p) = sent_by p (noting_at s.tick o.to (s.slots p)) s

abbrev pub face_of : Config → Outward → State → Option ℕ
face_of c o s = first (is_face c s.tick s.slots o) (ports_of c s o.subscriber)

abbrev pub goes : Config → Outward → State → Step
goes c o s = cond (nat_lt o.subscriber c.subscribers) (by_face c o s (face_of c o s)) (only (Refused NoSubscriber) s)

abbrev pub remembers : ℕ → Option Mapping → Bool
remembers a None = false
remembers a (Some m) = is_in a m.remembered

-- an error message goes out by the port of the live mapping that could have got the packet that it quotes
abbrev pub by_face_only : Outward → State → Option ℕ → Verdict
by_face_only o s None = Refused UnrelatedError
by_face_only o s (Some p) = cond (remembers o.to (s.slots p)) (Sent p) (Refused UnrelatedError)

abbrev pub error_goes : Config → Outward → State → Step
error_goes c o s = only (cond (nat_lt o.subscriber c.subscribers) (by_face_only o s (face_of c o s)) (Refused NoSubscriber)) s

abbrev pub is_of_protocol : Inward → Mapping → Bool
is_of_protocol i m = same_protocol m.protocol i.protocol

-- what comes in goes to the subscriber whose live mapping has that port and remembers the address; else it is refused
abbrev pub arrival : Refusal → Refusal → ℕ → Option Mapping → Verdict
arrival missing forgotten a None = Refused missing
arrival missing forgotten a (Some m) = cond (is_in a m.remembered) (Delivered m.subscriber m.port) (Refused forgotten)

abbrev pub comes : Refusal → Refusal → Config → Inward → State → Step
comes missing forgotten c i s = only (arrival missing forgotten i.from (live_and c s.tick (is_of_protocol i) (s.slots i.port))) s

-- at the tick t a mapping that has rested is gone
abbrev pub left_of : Config → ℕ → Option Mapping → Option Mapping
left_of c t None = None
left_of c t (Some m) = cond (live_or_resting c t m) (Some m) None

abbrev pub left_at : Config → ℕ → (ℕ → Option Mapping) → ℕ → Option Mapping
left_at c t slots p = left_of c t (slots p)

abbrev pub is_taken : (ℕ → Option Mapping) → ℕ → Bool
is_taken slots p = is_some (slots p)

-- a mapping has a port of the block
abbrev pub is_used : Config → (ℕ → Option Mapping) → ℕ → Bool
is_used c slots b = is_some (first (is_taken slots) (block_ports c b))

-- a further block without a mapping is taken back; the list begins with the holder of the block b
unfoldable pub holders_left : Config → (ℕ → Option Mapping) → ℕ → List (Option ℕ) → List (Option ℕ)
holders_left c slots b [] = []
holders_left c slots b (None ∷ hs) = None ∷ holders_left c slots (suc b) hs
holders_left c slots b (Some n ∷ hs) = cond (is_used c slots b) (Some n) None ∷ holders_left c slots (suc b) hs

-- with a line for each, lowest block first
unfoldable pub taken_back : Config → (ℕ → Option Mapping) → ℕ → ℕ → ℕ → List (Option ℕ) → List Line
taken_back c slots moment tick b [] = []
taken_back c slots moment tick b (None ∷ hs) = taken_back c slots moment tick (suc b) hs
taken_back c slots moment tick b (Some n ∷ hs) =
    cond (is_used c slots b) [] (line_of TakenBack moment tick b n ∷ []) ++ taken_back c slots moment tick (suc b) hs

-- mappings that have rested go, and then further blocks without a mapping
abbrev pub ticked : Config → State → Step
ticked c s =
    let t = s.tick + 1 in
    let slots = left_at c t s.slots in
    record {
      state = record {
        slots = slots;
        further = map (filter (is_used c slots)) s.further;
        holders = holders_left c slots 0 s.holders;
        tick = t;
        moment = s.moment + 1;
        over = s.over;
      };
      verdict = Ticked;
      lines = taken_back c slots s.moment t 0 s.holders;
    }

abbrev pub last_tick : ℕ
last_tick = 2 ^ 32 - 1

abbrev pub last_moment : ℕ
last_moment = 2 ^ 64 - 1

abbrev pub handled : Config → Event → State → Step
handled c (Unreadable r) s = only (Refused r) s
handled c (Goes o) s = goes c o s
handled c (Comes i) s = comes NoMapping NotRemembered c i s
handled c (ErrorGoes o) s = error_goes c o s
handled c (ErrorComes i) s = comes UnrelatedError UnrelatedError c i s
handled c Tick s = cond (nat_le last_tick s.tick) (exhausted s) (ticked c s)

-- neither the count of events nor the tick ever passes its last value
abbrev pub step : Config → Event → State → Step
step c e s = cond (s.over || nat_le last_moment s.moment) (exhausted s) (handled c e s)
