-- What is written so far: the first name, and the names passed.
use Rattle.std.proofs.Common.{◌∷◌, get_or, take}
use Rattle.std.specs.Fmt.{HasWritten, IsPlainFormatter}
use Rattle.text.specs.Reports.{names_text}
use Rattle.text.proofs.report.NamesDisplay.fmt.Given as goal

abbrev pub invariant-loop-name : goal.invariant-loop-name
invariant-loop-name g l =
    IsPlainFormatter l.fn.f → HasWritten g.W.Write.write_str_gives l.fn.f (names_text (get_or l.self.0.now 0 0 ∷ take l.name-index l.rest)) l.f
