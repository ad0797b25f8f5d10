-- A question is written in ASCII, so what is no text is no question.
use Rattle.std.proofs.Common.{◌≡◌, ℕ, ◌/◌, ◌%◌, ◌^◌, ◌<◌, List, ◌∷◌, ◌++◌, None, Ok, Err, Result, Bor, codes, IsUtf8, IsAscii, decimal, sym, subst, arith, rules}
use Rattle.std.specs.Result.{MatchResult, result_ok}
use Rattle.std.proofs.lemmas.Str.Ascii.{IsAscii-cons}
use Rattle.std.proofs.ByRecursion.{IsAscii-from_all}
use Rattle.std.proofs.lemmas.Fmt.{IsAscii-decimal}
use Rattle.std.proofs.lemmas.Str.{IsAscii-append, IsUtf8-from_ascii}
use Rattle.text.specs.Questions.{Askable, AskableAt, asked, when_text}
use Rattle.text.specs.Reading.{dotted}
use Rattle.text.specs.declared.question.Question.{Question}
use Rattle.text.specs.declared.question.When.{When}
use Rattle.text.specs.declared.question.When.TheVariants.{Moment, Tick}
use Rattle.text.proofs.question.Question.from_line.Goals as goal

-- a number, a byte and the rest
then : (n b : ℕ) (rest : List ℕ) → n < 2 ^ 64 → b < 128 → IsAscii rest → IsAscii (decimal n ++ (b ∷ rest))
then n b rest small low h = IsAscii-append (decimal n) (b ∷ rest) (IsAscii-decimal n small) (IsAscii-cons b rest low h)

when_ascii : (w : When) → AskableAt w → IsAscii (when_text w)
when_ascii (Moment n) h = IsAscii-append (codes "moment ") (decimal n) (IsAscii-from_all (codes "moment ") (search rules)) (IsAscii-decimal n h)
when_ascii (Tick t) h = IsAscii-append (codes "tick ") (decimal t) (IsAscii-from_all (codes "tick ") (search rules)) (IsAscii-decimal t (omega arith))

dotted_ascii : (a : ℕ) → a < 2 ^ 32 → IsAscii (dotted a)
dotted_ascii a small =
    then (a / 16777216) 46 _ (omega arith) (omega arith) (then (a / 65536 % 256) 46 _ (omega arith) (omega arith) (then (a / 256 % 256) 46 _ (omega arith) (omega arith) (IsAscii-decimal (a % 256) (omega arith))))

asked_ascii : (q : Question) → Askable q → IsAscii (asked q)
asked_ascii q ok =
    let behind = when_text q.when in
    let port = then q.port 32 behind (omega (arith, ok.port)) (omega arith) (when_ascii q.when ok.when) in
    IsAscii-append (dotted q.address) _ (dotted_ascii q.address ok.address) (IsAscii-cons 32 _ (omega arith) port)

not_text : {E : Type 0} (line : List ℕ) (r : Result (Bor (List ℕ)) E) (P : E → Type 0) → MatchResult r (λ s. (s.now ≡ line) × IsUtf8 line) (λ e. ¬ (IsUtf8 line) × P e) → None ≡ result_ok r → ¬ (IsUtf8 line)
not_text line (Ok s) P h e = absurd (cc)
not_text line (Err d) P h e = h.0

pub returns-in_err-text : goal.returns-in_err-text
returns-in_err-text c = rw c.from_residual.ensures (λ q ok e. not_text c.args.line.now c.from_utf8.result _ c.from_utf8.ensures.cases c.in_err-text.ensures.value (subst IsUtf8 (sym e) (IsUtf8-from_ascii (asked q) (asked_ascii q ok))))
