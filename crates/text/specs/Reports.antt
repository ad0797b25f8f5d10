-- What the programs print.
use Rattle.std.specs.Prelude.{ℕ, ◌+◌, ◌/◌, ◌%◌, cond, List, [], ◌∷◌, ◌++◌, Some, None, codes, decimal, flat_map, Option, nat_lt}
use Rattle.blocks.specs.Refusals.{number_of}
use Rattle.blocks.specs.declared.refusal.Refusal.{Refusal}
use Rattle.text.specs.declared.report.Line.{Line}
use Rattle.text.specs.declared.report.Line.TheVariants.{Refused, Packet, End, Holder, Names, Unknown, Count, Fault}

-- the digits 0 to 9, and a to f
abbrev pub hex_digit : ℕ → ℕ
hex_digit n = cond (nat_lt n 10) (48 + n) (87 + n)

abbrev pub hex_text : List ℕ → List ℕ
hex_text bs = flat_map (λ b. hex_digit (b / 16) ∷ hex_digit (b % 16) ∷ []) bs

-- a packet that was refused at a moment
abbrev pub refused_text : ℕ → Refusal → List ℕ
refused_text moment r = decimal moment ++ (codes " refused " ++ decimal (number_of r))

-- a packet that leaves at a moment, with the way that it takes
abbrev pub packet_text : ℕ → List ℕ → List ℕ → List ℕ
packet_text moment way bytes = decimal moment ++ (codes " " ++ (way ++ (codes " " ++ hex_text bytes)))

-- the end of a run: the count of events, the tick, and how many lines the book got
abbrev pub end_text : ℕ → ℕ → ℕ → List ℕ
end_text events tick lines = codes "events " ++ (decimal events ++ (codes " tick " ++ (decimal tick ++ (codes " lines " ++ decimal lines))))

-- who had a port
abbrev pub holder_text : Option ℕ → List ℕ
holder_text None = codes "nobody"
holder_text (Some n) = decimal n

-- where only a damaged book could tell
abbrev pub unknown_text : Refusal → List ℕ
unknown_text r = codes "fault " ++ decimal (number_of r)

-- more names, each behind a space
abbrev pub more_text : List ℕ → List ℕ
more_text ns = flat_map (λ n. codes " " ++ decimal n) ns

-- all that had a port, in order, with spaces between
abbrev pub names_text : List ℕ → List ℕ
names_text [] = codes "nobody"
names_text (n ∷ ns) = decimal n ++ more_text ns

-- the most further blocks given at one time, and to how many subscribers
abbrev pub count_text : ℕ → ℕ → List ℕ
count_text blocks subscribers = codes "blocks " ++ (decimal blocks ++ (codes " pitches " ++ decimal subscribers))

-- a fault in a file, at the byte where the faulty record, line or question begins
abbrev pub fault_text : List ℕ → Refusal → ℕ → List ℕ
fault_text file r byte = file ++ (codes ": fault " ++ (decimal (number_of r) ++ (codes " at byte " ++ decimal byte)))

-- a line that a program prints
abbrev pub line_text : Line → List ℕ
line_text (Refused moment cause) = refused_text moment cause
line_text (Packet moment way packet) = packet_text moment way.now packet.now
line_text (End events tick lines) = end_text events tick lines
line_text (Holder holder) = holder_text holder
line_text (Names names) = names_text names.now
line_text (Unknown cause) = unknown_text cause
line_text (Count blocks subscribers) = count_text blocks subscribers
line_text (Fault file cause byte) = fault_text file.now cause byte
