-- Questions as they are written: ADDRESS PORT moment N, or ADDRESS PORT tick T.
use Rattle.std.specs.Prelude.{ℕ, ◌^◌, ◌<◌, List, ◌∷◌, ◌++◌, codes, decimal}
use Rattle.text.specs.declared.question.Question.{Question}
use Rattle.text.specs.declared.question.When.{When}
use Rattle.text.specs.declared.question.When.TheVariants.{Moment, Tick}
use Rattle.text.specs.Reading.{dotted}

abbrev pub word_number : List ℕ → ℕ → List ℕ
word_number word n = word ++ decimal n

abbrev pub when_text : When → List ℕ
when_text (Moment n) = word_number (codes "moment ") n
when_text (Tick t) = word_number (codes "tick ") t

abbrev pub asked : Question → List ℕ
asked q = dotted q.address ++ (32 ∷ (decimal q.port ++ (32 ∷ when_text q.when)))

-- moments, ticks, addresses and ports have their widths
abbrev pub AskableAt : When → Type 0
AskableAt (Moment n) = n < 2 ^ 64
AskableAt (Tick t) = t < 2 ^ 32

pub record Askable (q : Question) : Type 0 where
  pub address : q.address < 2 ^ 32
  pub port : q.port < 2 ^ 16
  pub when : AskableAt q.when
