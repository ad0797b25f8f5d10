-- What is promised of every run of a gateway whose settings are within their limits. Each promise is a type, and its proof is a term of it.
use Rattle.std.specs.Prelude.{◌≡◌, ℕ, suc, ◌+◌, ◌<◌, ◌≤◌, Bool, true, false, cond, not, ◌&&◌, ◌||◌, ◌⊎◌, List, [], ◌∷◌, ◌++◌, length, take, is_some, Some, None, Option, ◌==◌, ◌≢◌, nat_le, nat_lt, slice_index_or}
use mathlib.Core.List.{Memᴰ}
use Rattle.std.specs.List.{filter}
use Rattle.blocks.specs.Config.{Config, within_limits, lowest_port}
use Rattle.blocks.specs.Ports.{block_of, is_further}
use Rattle.blocks.specs.Refusals.{number_of}
use Rattle.blocks.specs.declared.refusal.Refusal.{Refusal}
use Rattle.mappings.specs.declared.event.Outward.{Outward}
use Rattle.mappings.specs.declared.event.Inward.{Inward}
use Rattle.mappings.specs.declared.event.Event.{Event}
use Rattle.mappings.specs.declared.event.Event.TheVariants.{Unreadable, Goes, Comes, ErrorGoes, ErrorComes, Tick}
use Rattle.mappings.specs.declared.event.Verdict.{Verdict}
use Rattle.mappings.specs.declared.event.Verdict.TheVariants.{Sent, Delivered, Refused, Ticked}
use Rattle.mappings.specs.declared.line.Change.TheVariants.{Given, TakenBack}
use Rattle.mappings.specs.declared.line.Line.{Line}
use Rattle.mappings.specs.Mappings.{Mapping, live, live_or_resting, is_of, is_in, noted}
use Rattle.mappings.specs.States.{State, further_of, ports_of}
use Rattle.mappings.specs.Steps.{step, counted, ended, is_of_protocol, line_of, last_tick, last_moment}
use Rattle.mappings.specs.Runs.{Occurrence, run}
use Rattle.mappings.specs.Books.{holder_by, who, who_in}

-- the words that the promises use

abbrev pub after : Config → List Event → State
after c es = (run c es).last

-- an event is not yet refused for want of numbers to count it
abbrev pub Running : State → Type 0
Running s = (s.over ≡ false) × (s.moment < last_moment)

-- who has the block of an external port
abbrev pub holder_now : Config → State → ℕ → Option ℕ
holder_now c s p = cond (nat_le lowest_port p) (cond (nat_lt (block_of c p) c.subscribers) (Some (block_of c p)) (slice_index_or s.holders (block_of c p) None)) None

-- the cause's number, and 0 for what is not refused
abbrev pub refusal_number : Verdict → ℕ
refusal_number (Sent p) = 0
refusal_number (Delivered n p) = 0
refusal_number (Refused r) = number_of r
refusal_number Ticked = 0

-- the subscriber whose packet it is that would go out
abbrev pub sender_of : Event → Option ℕ
sender_of (Unreadable r) = None
sender_of (Goes o) = Some o.subscriber
sender_of (Comes i) = None
sender_of (ErrorGoes o) = Some o.subscriber
sender_of (ErrorComes i) = None
sender_of Tick = None

-- the packet that would come in
abbrev pub inward_of : Event → Option Inward
inward_of (Unreadable r) = None
inward_of (Goes o) = None
inward_of (Comes i) = Some i
inward_of (ErrorGoes o) = None
inward_of (ErrorComes i) = Some i
inward_of Tick = None

-- 1. A port in use or resting belongs to one subscriber's port, and lies in a block that this subscriber has and nobody else.
abbrev pub OneOwner : Type 0
OneOwner =
    (c : Config) → within_limits c ≡ true → (es : List Event) (p : ℕ) (m : Mapping) → (after c es).slots p ≡ Some m →
    (holder_now c (after c es) p ≡ Some m.subscriber) × (live_or_resting c (after c es).tick m ≡ true)

-- A subscriber's further blocks are those that it holds, and never more than it may have.
abbrev pub Agreed : Type 0
Agreed =
    (c : Config) → within_limits c ≡ true → (es : List Event) (n : ℕ) →
    ((b : ℕ) → Memᴰ b (further_of (after c es) n) → (slice_index_or (after c es).holders b None ≡ Some n) × (c.subscribers ≤ b))
    × ((b : ℕ) → slice_index_or (after c es).holders b None ≡ Some n → Memᴰ b (further_of (after c es) n)) × (length (further_of (after c es) n) ≤ c.further)

-- A further block is held only while a port of it is in use or resting.
abbrev pub HeldInUse : Type 0
HeldInUse =
    (c : Config) → within_limits c ≡ true → (es : List Event) (n b : ℕ) → slice_index_or (after c es).holders b None ≡ Some n →
    (p : ℕ) × (m : Mapping) × (lowest_port ≤ p) × (block_of c p ≡ b) × ((after c es).slots p ≡ Some m)

-- A subscriber's live port has at most one face,
abbrev pub OneFace : Type 0
OneFace =
    (c : Config) → within_limits c ≡ true → (es : List Event) (p q : ℕ) (m n : Mapping) →
    (after c es).slots p ≡ Some m → (after c es).slots q ≡ Some n → live c (after c es).tick m ≡ true → live c (after c es).tick n ≡ true →
    m.subscriber ≡ n.subscriber → m.protocol ≡ n.protocol → m.port ≡ n.port → p ≡ q

-- goes out by it,
abbrev pub FaceUsed : Type 0
FaceUsed =
    (c : Config) → within_limits c ≡ true → (es : List Event) → Running (after c es) → (p : ℕ) (m : Mapping) (o : Outward) →
    (after c es).slots p ≡ Some m → live c (after c es).tick m ≡ true → is_of o m ≡ true → (step c (Goes o) (after c es)).verdict ≡ Sent p

-- and the port stays its own, whatever happens, until it has rested.
abbrev pub FaceStays : Type 0
FaceStays =
    (c : Config) → within_limits c ≡ true → (es : List Event) (e : Event) (p : ℕ) (m : Mapping) →
    (after c es).slots p ≡ Some m → live_or_resting c (after c (es ++ e ∷ [])).tick m ≡ true →
    (n : Mapping) × ((after c (es ++ e ∷ [])).slots p ≡ Some n) × (n.subscriber ≡ m.subscriber) × (n.protocol ≡ m.protocol) × (n.port ≡ m.port)

-- 2. The book names the sender of each packet that went out,
abbrev pub Traced : Type 0
Traced =
    (c : Config) → within_limits c ≡ true → (es : List Event) (x : Occurrence) (n p : ℕ) → Memᴰ x (run c es).transcript →
    sender_of x.event ≡ Some n → x.verdict ≡ Sent p → who c (run c es).book p x.moment ≡ Some n

-- and at every moment whoever had the port's block once that moment's event was handled, and nobody else;
abbrev pub Held : Type 0
Held =
    (c : Config) → within_limits c ≡ true → (es : List Event) (e : Event) (later : List Event) (p : ℕ) →
    who c (run c (es ++ e ∷ later)).book p (after c es).moment ≡ holder_now c (after c (es ++ e ∷ [])) p

-- what follows changes no answer about the past.
abbrev pub Lasting : Type 0
Lasting =
    (c : Config) → within_limits c ≡ true → (es later : List Event) (p n : ℕ) → n < (after c es).moment →
    who c (run c (es ++ later)).book p n ≡ who c (run c es).book p n

-- Asked by tick, no sender is missing,
abbrev pub TracedByTick : Type 0
TracedByTick =
    (c : Config) → within_limits c ≡ true → (es : List Event) (x : Occurrence) (n p : ℕ) → Memᴰ x (run c es).transcript →
    sender_of x.event ≡ Some n → x.verdict ≡ Sent p → Memᴰ n (who_in c (run c es).book p x.tick)

-- these events end in the tick t, or right before it begins
abbrev pub UpTo : Config → List Event → List Event → ℕ → Type 0
UpTo c es later t = ((after c es).tick ≡ t) ⊎ ((rest : List Event) × (later ≡ Tick ∷ rest) × ((after c (es ++ Tick ∷ [])).tick ≡ t))

-- and nobody is named who did not have the port in that tick or until it began.
abbrev pub HeldByTick : Type 0
HeldByTick =
    (c : Config) → within_limits c ≡ true → (es : List Event) (n p t : ℕ) → t ≤ (after c es).tick → Memᴰ n (who_in c (run c es).book p t) →
    (before : List Event) × (later : List Event) × (es ≡ before ++ later) × (holder_now c (after c before) p ≡ Some n) × UpTo c before later t

-- y is an earlier packet, with the words o, that went out by the external port p
pub record SentBefore (x : Occurrence) (p : ℕ) (o : Outward) (y : Occurrence) : Type 0 where
  pub earlier : y.moment < x.moment
  pub went : y.event ≡ Goes o
  pub port : y.verdict ≡ Sent p

-- 3. What is let in came from an address to which its subscriber's port had sent by that very external port.
abbrev pub Answered : Type 0
Answered =
    (c : Config) → within_limits c ≡ true → (es : List Event) (x : Occurrence) (n q : ℕ) → Memᴰ x (run c es).transcript → x.verdict ≡ Delivered n q →
    (i : Inward) × (inward_of x.event ≡ Some i) × (y : Occurrence) × Memᴰ y (run c es).transcript
    × SentBefore x i.port (record { subscriber = n; protocol = i.protocol; port = q; to = i.from }) y

-- An error message goes out only to an address to which its subscriber's port had sent by that very external port.
abbrev pub ErrorsAnswered : Type 0
ErrorsAnswered =
    (c : Config) → within_limits c ≡ true → (es : List Event) (x : Occurrence) (o : Outward) (p : ℕ) → Memᴰ x (run c es).transcript →
    x.event ≡ ErrorGoes o → x.verdict ≡ Sent p → (y : Occurrence) × Memᴰ y (run c es).transcript × SentBefore x p o y

-- 4. The lines are exactly the changes of holders, in order:
abbrev pub change_at : ℕ → ℕ → ℕ → Option ℕ → Option ℕ → List Line
change_at moment tick b None None = []
change_at moment tick b None (Some n) = line_of Given moment tick b n ∷ []
change_at moment tick b (Some n) None = line_of TakenBack moment tick b n ∷ []
change_at moment tick b (Some n) (Some k) = cond (n == k) [] (line_of TakenBack moment tick b n ∷ line_of Given moment tick b k ∷ [])

-- the lists begin with the holders of the block b, before and after
unfoldable pub changes : ℕ → ℕ → ℕ → List (Option ℕ) → List (Option ℕ) → List Line
changes moment tick b [] hs = []
changes moment tick b (g ∷ gs) [] = []
changes moment tick b (g ∷ gs) (h ∷ hs) = change_at moment tick b g h ++ changes moment tick (suc b) gs hs

abbrev pub ShortBook : Type 0
ShortBook =
    (c : Config) → within_limits c ≡ true → (es : List Event) (e : Event) →
    (run c (es ++ e ∷ [])).book ≡
    (run c es).book ++ changes (after c es).moment (after c (es ++ e ∷ [])).tick 0 (after c es).holders (after c (es ++ e ∷ [])).holders

abbrev pub is_giving : Line → Bool
is_giving l = elim l.change [ Given ↦ true | TakenBack ↦ false ]

-- two for each giving, but one while the block is still held; so a run that gives none has an empty book.
abbrev pub TwoLines : Type 0
TwoLines =
    (c : Config) → within_limits c ≡ true → (es : List Event) →
    length (run c es).book + length (filter is_some (after c es).holders) ≡ length (filter is_giving (run c es).book) + length (filter is_giving (run c es).book)

-- Each line's moment is larger than those of all lines before its event, and its tick is not smaller; a tick rises by at most one with each event,
-- at a taking back by that event itself, at a giving by none.
abbrev pub InOrder : Type 0
InOrder =
    (c : Config) → within_limits c ≡ true → (es : List Event) (e : Event) (k l : Line) → Memᴰ k (run c es).book → Memᴰ l (step c e (after c es)).lines →
    (k.moment < l.moment) × (k.tick ≤ l.tick) × (l.tick + k.moment ≤ k.tick + l.moment)
    × (l.change ≡ Given → l.tick + suc k.moment ≤ k.tick + l.moment) × (l.change ≡ TakenBack → k.tick < l.tick)

-- the tick in which a block was given to whoever has it after these lines; t: before them
unfoldable pub given_after : ℕ → Option ℕ → List Line → Option ℕ
given_after b t [] = t
given_after b t (l ∷ ls) = given_after b (cond (l.block == b) (holder_by l.change l.tick) t) ls

-- A block is taken back only once a life and a rest have passed since it was given.
abbrev pub TakenRested : Type 0
TakenRested =
    (c : Config) → within_limits c ≡ true → (es : List Event) (e : Event) (l : Line) → Memᴰ l (step c e (after c es)).lines → l.change ≡ TakenBack →
    (t : ℕ) × (given_after l.block None (run c es).book ≡ Some t) × (t + c.life + c.rest < l.tick)

-- every port that a subscriber may use is in use or resting
abbrev pub AllTaken : Config → State → ℕ → Type 0
AllTaken c s n = (p : ℕ) → Memᴰ p (ports_of c s n) → (m : Mapping) × (s.slots p ≡ Some m) × (live_or_resting c s.tick m ≡ true)

-- it has as many further blocks as it may, or each of them is held
abbrev pub NoBlock : Config → State → ℕ → Type 0
NoBlock c s n = (c.further ≤ length (further_of s n)) ⊎ ((b : ℕ) → is_further c b ≡ true → is_some (slice_index_or s.holders b None) ≡ true)

-- 5. A subscriber's packet goes out, unless there is no port for it.
abbrev pub Served : Type 0
Served =
    (c : Config) → within_limits c ≡ true → (es : List Event) → Running (after c es) → (o : Outward) → o.subscriber < c.subscribers →
    ((p : ℕ) × ((step c (Goes o) (after c es)).verdict ≡ Sent p))
    ⊎ ((refusal_number (step c (Goes o) (after c es)).verdict ≡ 8) × AllTaken c (after c es) o.subscriber × NoBlock c (after c es) o.subscriber)

-- A further block is given only to a subscriber all of whose ports are taken, and it is the lowest that nobody has.
abbrev pub GivenInNeed : Type 0
GivenInNeed =
    (c : Config) → within_limits c ≡ true → (es : List Event) (e : Event) (l : Line) → Memᴰ l (step c e (after c es)).lines → l.change ≡ Given →
    (sender_of e ≡ Some l.subscriber) × (l.subscriber < c.subscribers) × AllTaken c (after c es) l.subscriber × (length (further_of (after c es) l.subscriber) < c.further)
    × (is_further c l.block ≡ true) × (slice_index_or (after c es).holders l.block None ≡ None)
    × ((b : ℕ) → is_further c b ≡ true → b < l.block → is_some (slice_index_or (after c es).holders b None) ≡ true)

-- What comes from an address that a live mapping remembers is let in.
abbrev pub LetIn : Type 0
LetIn =
    (c : Config) → within_limits c ≡ true → (es : List Event) → Running (after c es) → (i : Inward) (m : Mapping) →
    (after c es).slots i.port ≡ Some m → live c (after c es).tick m ≡ true → is_of_protocol i m ≡ true → is_in i.from m.remembered ≡ true →
    ((step c (Comes i) (after c es)).verdict ≡ Delivered m.subscriber m.port) × ((step c (ErrorComes i) (after c es)).verdict ≡ Delivered m.subscriber m.port)

-- What goes out is noted: its mapping's last packet is now, and the address comes first among those that it remembers.
abbrev pub Noted : Type 0
Noted =
    (c : Config) → (es : List Event) (o : Outward) (p : ℕ) → (step c (Goes o) (after c es)).verdict ≡ Sent p →
    (m : Mapping) × ((step c (Goes o) (after c es)).state.slots p ≡ Some m) × (is_of o m ≡ true) × (m.last ≡ (after c es).tick)
    × (rest : List ℕ) × (m.remembered ≡ o.to ∷ rest)

unfoldable pub distinct : List ℕ → Bool
distinct [] = true
distinct (x ∷ xs) = not (is_in x xs) && distinct xs

-- The addresses that a mapping remembers are different ones, and at most sixteen;
abbrev pub Remembered : Type 0
Remembered = (c : Config) (es : List Event) (p : ℕ) (m : Mapping) → (after c es).slots p ≡ Some m → (distinct m.remembered ≡ true) × (length m.remembered ≤ 16)

-- one of them moves back by at most a place with each packet, and so is remembered until sixteen others were sent to.
abbrev pub MovesBack : Type 0
MovesBack = (a b : ℕ) (xs : List ℕ) (k : ℕ) → k < 16 → is_in b (take k xs) ≡ true → is_in b (take (suc k) (noted a xs)) ≡ true

-- nothing but the count of events is changed, or nothing but that the run is over, and the book gets no line
abbrev pub Unchanged : Config → Event → State → Type 0
Unchanged c e s = (((step c e s).state ≡ counted s.slots s) ⊎ ((step c e s).state ≡ ended s)) × ((step c e s).lines ≡ [])

-- 6. A refusal changes nothing but the count of events,
abbrev pub Refusals : Type 0
Refusals = (c : Config) (es : List Event) (e : Event) (r : Refusal) → (step c e (after c es)).verdict ≡ Refused r → Unchanged c e (after c es)

-- nor does anything but a packet outwards or a tick;
abbrev pub changes_mappings : Event → Bool
changes_mappings (Unreadable r) = false
changes_mappings (Goes o) = true
changes_mappings (Comes i) = false
changes_mappings (ErrorGoes o) = false
changes_mappings (ErrorComes i) = false
changes_mappings Tick = true

abbrev pub InwardsQuiet : Type 0
InwardsQuiet = (c : Config) (es : List Event) (e : Event) → changes_mappings e ≡ false → Unchanged c e (after c es)

-- once the run is over it stays so, with everything as it was, and every event is refused with 12;
abbrev pub Over : Type 0
Over =
    (c : Config) (es later : List Event) (e : Event) → (after c es).over ≡ true →
    (after c (es ++ later) ≡ after c es) × ((run c (es ++ later)).book ≡ (run c es).book) × (refusal_number (step c e (after c es)).verdict ≡ 12)

-- a packet that was read, or a tick, is refused with 12 just where a last number is reached, and then the run is over; neither number is ever passed.
abbrev pub at_limit : State → Event → Bool
at_limit s (Unreadable r) = nat_le last_moment s.moment
at_limit s (Goes o) = nat_le last_moment s.moment
at_limit s (Comes i) = nat_le last_moment s.moment
at_limit s (ErrorGoes o) = nat_le last_moment s.moment
at_limit s (ErrorComes i) = nat_le last_moment s.moment
at_limit s Tick = nat_le last_moment s.moment || nat_le last_tick s.tick

abbrev pub Limits : Type 0
Limits =
    (c : Config) (es : List Event) (e : Event) →
    ((after c es).moment ≤ last_moment) × ((after c es).tick ≤ last_tick)
    × ((step c e (after c es)).state.over ≡ ((after c es).over || at_limit (after c es) e))
    × ((step c e (after c es)).state.over ≡ true → refusal_number (step c e (after c es)).verdict ≡ 12)
    × (((r : Refusal) → e ≢ Unreadable r) → refusal_number (step c e (after c es)).verdict ≡ 12 → (step c e (after c es)).state.over ≡ true)

-- what concerns a subscriber: its own packets, what comes to its first block, and ticks
abbrev pub to_first_block : Config → ℕ → ℕ → Bool
to_first_block c n p = nat_le lowest_port p && block_of c p == n

abbrev pub concerns : Config → ℕ → Event → Bool
concerns c n (Unreadable r) = false
concerns c n (Goes o) = o.subscriber == n
concerns c n (Comes i) = to_first_block c n i.port
concerns c n (ErrorGoes o) = o.subscriber == n
concerns c n (ErrorComes i) = to_first_block c n i.port
concerns c n Tick = true

abbrev pub is_delivered_to : ℕ → Verdict → Bool
is_delivered_to n (Sent p) = false
is_delivered_to n (Delivered k p) = k == n
is_delivered_to n (Refused r) = false
is_delivered_to n Ticked = false

-- what a subscriber sees of a run: what becomes of what concerns it, and all that is delivered to it
pub record Sight : Type 0 where
  pub tick : ℕ
  pub event : Event
  pub verdict : Verdict

abbrev pub sight_of : Config → ℕ → Occurrence → List Sight
sight_of c n x = cond (concerns c n x.event || is_delivered_to n x.verdict) (record { tick = x.tick; event = x.event; verdict = x.verdict } ∷ []) []

unfoldable pub seen : Config → ℕ → List Occurrence → List Sight
seen c n [] = []
seen c n (x ∷ xs) = sight_of c n x ++ seen c n xs

-- a subscriber did with its first block: it was given no other, and none of its packets was refused for want of a port
pub record KeptToFirst (c : Config) (n : ℕ) (es : List Event) : Type 0 where
  pub given_none : (l : Line) → Memᴰ l (run c es).book → l.change ≡ Given → l.subscriber ≢ n
  pub never_refused : (x : Occurrence) → Memᴰ x (run c es).transcript → sender_of x.event ≡ Some n → refusal_number x.verdict ≢ 8

-- 7. What the others do changes nothing for who did with the first block: in two runs that agree on what concerns a subscriber, it sees the same,
-- if it did with its first block in one of them.
abbrev pub Alone : Type 0
Alone =
    (c : Config) → within_limits c ≡ true → (n : ℕ) → n < c.subscribers → (es fs : List Event) → filter (concerns c n) es ≡ filter (concerns c n) fs →
    (after c es).over ≡ false → (after c fs).over ≡ false → KeptToFirst c n es →
    (seen c n (run c es).transcript ≡ seen c n (run c fs).transcript) × KeptToFirst c n fs

-- All of it together.
pub record Main : Type 0 where
  pub one_owner : OneOwner
  pub agreed : Agreed
  pub held_in_use : HeldInUse
  pub one_face : OneFace
  pub face_used : FaceUsed
  pub face_stays : FaceStays
  pub traced : Traced
  pub held : Held
  pub lasting : Lasting
  pub traced_by_tick : TracedByTick
  pub held_by_tick : HeldByTick
  pub answered : Answered
  pub errors_answered : ErrorsAnswered
  pub short_book : ShortBook
  pub two_lines : TwoLines
  pub in_order : InOrder
  pub taken_rested : TakenRested
  pub served : Served
  pub given_in_need : GivenInNeed
  pub let_in : LetIn
  pub noted_now : Noted
  pub remembered : Remembered
  pub moves_back : MovesBack
  pub refusals : Refusals
  pub inwards_quiet : InwardsQuiet
  pub over : Over
  pub limits : Limits
  pub alone : Alone
