-- A tick of more than 32 bits is no tick.
use Rattle.std.proofs.Common.{◌≡◌, ℕ, ◌^◌, ◌<◌, ◌≤◌, List, codes, None, decimal, arith}
use Rattle.std.proofs.lemmas.Fmt.{decimal_injective}
use Rattle.text.specs.declared.question.When.TheVariants.{Moment, Tick}
use Rattle.text.specs.Questions.{AskableAt, when_text, word_number}
use Rattle.text.specs.Reading.{ReadsAs, IsBelow}
use Rattle.text.proofs.Decimal.{too_large}
use Rattle.text.proofs.question.time.Goals as goal

-- no time is written as a tick of more than 32 bits
other : (text : List ℕ) (t : ℕ) → t < 2 ^ 64 → 2 ^ 32 ≤ t → text ≡ word_number (codes "tick ") t → ReadsAs (word_number (codes "moment ")) (IsBelow (2 ^ 64)) text None → ReadsAs when_text AskableAt text None
other text t fits large e none (Moment n) h f = none n h f
other text t fits large e none (Tick u) h f =
    let same : decimal t ≡ decimal u = cc in
    let is : t ≡ u = decimal_injective t u fits (omega arith) same in
    omega arith

pub returns-in_err-ok : goal.returns-in_err-ok
returns-in_err-ok c =
    let large = too_large c.try_from.result c.in_ok-tick.tick (2 ^ 32) c.try_from.ensures c.in_err-ok.ensures.value in
    rw c.from_residual-in_err-ok.ensures (other c.args.text.now c.in_ok-tick.tick c.in_ok-tick.ensures.0 large c.in_ok-tick.ensures.1 c.in_default.ensures)
