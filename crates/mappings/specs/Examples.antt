-- Worked examples, as rows of one table: what is asked after some events, and the answer.
use Rattle.std.specs.Prelude.{◌≡◌, ℕ, ◌-◌, Bool, true, false, List, [], ◌∷◌, ◌++◌, map, length, drop, replicate, Some, None, Option}
use Rattle.std.specs.List.{AllByRecursion}
use Rattle.blocks.specs.Config.{Config}
use Rattle.blocks.specs.declared.refusal.Refusal.TheVariants.{BadHeader, NoMapping, NotRemembered}
use Rattle.mappings.specs.declared.event.Protocol.{Protocol}
use Rattle.mappings.specs.declared.event.Protocol.TheVariants.{Udp, Tcp}
use Rattle.mappings.specs.declared.event.Event.{Event}
use Rattle.mappings.specs.declared.event.Event.TheVariants.{Unreadable, Goes, Comes, Tick}
use Rattle.mappings.specs.declared.event.Verdict.{Verdict}
use Rattle.mappings.specs.declared.event.Verdict.TheVariants.{Sent, Delivered, Refused}
use Rattle.mappings.specs.declared.line.Change.TheVariants.{Given}
use Rattle.mappings.specs.declared.line.Line.{Line}
use Rattle.mappings.specs.Searches.{range}
use Rattle.mappings.specs.States.{ports_of}
use Rattle.mappings.specs.Steps.{is_taken, line_of}
use Rattle.mappings.specs.Runs.{Occurrence, Run, run}
use Rattle.mappings.specs.Books.{who, who_in}

-- eight subscribers, blocks of sixteen ports, a life of 120 ticks and a rest of 60
abbrev pub settings : Config
settings = record { external = 3325256705; internal = 167772160; subscribers = 8; size = 16; further = 4; life = 120; rest = 60 }

abbrev pub out : ℕ → Protocol → ℕ → ℕ → Event
out n protocol p a = Goes (record { subscriber = n; protocol = protocol; port = p; to = a })

abbrev pub into : ℕ → ℕ → Event
into p a = Comes (record { protocol = Udp; port = p; from = a })

-- so many ports of a subscriber, from 5,000 on, send one packet each
abbrev pub burst : ℕ → ℕ → List Event
burst n ports = map (λ p. out n Udp p 7) (range 5000 ports)

abbrev pub ticks : ℕ → List Event
ticks n = replicate n Tick

-- the verdicts on the last so many events; the ports that a subscriber may use; whether a port is in use or rests; the book; who had a port at a moment, or in a tick
pub data Question : Type 0 where
  Last : ℕ → Question
  Ports : ℕ → Question
  Taken : ℕ → Question
  Book : Question
  WhoAt : ℕ → ℕ → Question
  WhoInTick : ℕ → ℕ → Question

pub data Answer : Type 0 where
  Verdicts : List Verdict → Answer
  Numbers : List ℕ → Answer
  Is : Bool → Answer
  Lines : List Line → Answer
  Name : Option ℕ → Answer

abbrev pub verdict_of : Occurrence → Verdict
verdict_of x = x.verdict

abbrev pub answer_to : Question → Run → Answer
answer_to (Last n) r = Verdicts (map verdict_of (drop (length r.transcript - n) r.transcript))
answer_to (Ports n) r = Numbers (ports_of settings r.last n)
answer_to (Taken p) r = Is (is_taken r.last.slots p)
answer_to Book r = Lines r.book
answer_to (WhoAt p n) r = Name (who settings r.book p n)
answer_to (WhoInTick p t) r = Numbers (who_in settings r.book p t)

pub record Row : Type 0 where
  pub events : List Event
  pub question : Question
  pub answer : Answer

abbrev pub row : List Event → Question → Answer → Row
row es q a = record { events = es; question = q; answer = a }

abbrev pub Right : Row → Type 0
Right r = answer_to r.question (run settings r.events) ≡ r.answer

-- subscriber 2 has the external ports 1,056 to 1,071
abbrev pub first_block : List Row
first_block = row [] (Ports 2) (Numbers (1056 ∷ 1057 ∷ 1058 ∷ 1059 ∷ 1060 ∷ 1061 ∷ 1062 ∷ 1063 ∷ 1064 ∷ 1065 ∷ 1066 ∷ 1067 ∷ 1068 ∷ 1069 ∷ 1070 ∷ 1071 ∷ [])) ∷ []

-- its ports 5,000 and 5,001 over UDP, and 5,000 over TCP
abbrev pub lowest_ports : List Row
lowest_ports = row (out 2 Udp 5000 7 ∷ out 2 Udp 5001 7 ∷ out 2 Tcp 5000 7 ∷ []) (Last 3) (Verdicts (Sent 1056 ∷ Sent 1057 ∷ Sent 1058 ∷ [])) ∷ []

-- a last packet at tick 10, and so many ticks after it
abbrev pub last_at_ten : ℕ → List Event
last_at_ten n = ticks 10 ++ out 2 Udp 5000 7 ∷ ticks n

-- live through tick 130, resting through 190, gone at the tick to 191
abbrev pub life_and_rest : List Row
life_and_rest =
    row (last_at_ten 120 ++ into 1056 7 ∷ []) (Last 1) (Verdicts (Delivered 2 5000 ∷ []))
    ∷ row (last_at_ten 121 ++ into 1056 7 ∷ []) (Last 1) (Verdicts (Refused NoMapping ∷ []))
    ∷ row (last_at_ten 180) (Taken 1056) (Is true)
    ∷ row (last_at_ten 181) (Taken 1056) (Is false) ∷ []

-- a packet at tick 131 from the same port goes by another port
abbrev pub new_face : List Row
new_face = row (last_at_ten 121 ++ out 2 Udp 5000 7 ∷ []) (Last 1) (Verdicts (Sent 1057 ∷ [])) ∷ []

-- of seventeen ports at once the seventeenth gets port 0 of the further block 8, and the book its first line
abbrev pub further_block : List Row
further_block =
    row (burst 2 17) (Last 2) (Verdicts (Sent 1071 ∷ Sent 1152 ∷ []))
    ∷ row (burst 2 16) Book (Lines [])
    ∷ row (burst 2 17) Book (Lines (line_of Given 16 0 8 2 ∷ [])) ∷ []

-- from an address not sent to, refused; from one sent to, let in, whatever the port that it comes from: an event does not have it
abbrev pub answers_only : List Row
answers_only = row (out 2 Udp 5000 7 ∷ into 1056 8 ∷ into 1056 7 ∷ []) (Last 2) (Verdicts (Refused NotRemembered ∷ Delivered 2 5000 ∷ [])) ∷ []

-- subscriber 1 sends to subscriber 2's external port 1,056: let in if subscriber 2 has sent to our own address by it
abbrev pub between_subscribers : List Row
between_subscribers =
    row (out 2 Udp 5000 settings.external ∷ out 1 Udp 6000 settings.external ∷ into 1056 settings.external ∷ []) (Last 2)
    (Verdicts (Sent 1040 ∷ Delivered 2 5000 ∷ []))
    ∷ row (out 2 Udp 5000 7 ∷ out 1 Udp 6000 settings.external ∷ into 1056 settings.external ∷ []) (Last 2)
    (Verdicts (Sent 1040 ∷ Refused NotRemembered ∷ [])) ∷ []

-- the further block 8 is subscriber 2's, and is taken back and given to subscriber 7 in one tick's events 900 and 901
abbrev pub handed_on : List Event
handed_on = burst 2 17 ++ ticks 180 ++ replicate 687 (Unreadable BadHeader) ++ burst 7 16 ++ Tick ∷ out 7 Udp 4000 7 ∷ []

abbrev pub taken_and_given : List Row
taken_and_given =
    row handed_on (WhoAt 1152 899) (Name (Some 2)) ∷ row handed_on (WhoAt 1152 900) (Name None) ∷ row handed_on (WhoAt 1152 901) (Name (Some 7))
    ∷ row handed_on (WhoInTick 1152 181) (Numbers (2 ∷ 7 ∷ [])) ∷ []

abbrev pub table : List (List Row)
table = first_block ∷ lowest_ports ∷ life_and_rest ∷ new_face ∷ further_block ∷ answers_only ∷ between_subscribers ∷ taken_and_given ∷ []

abbrev pub Worked : Type 0
Worked = AllByRecursion (AllByRecursion Right) table
