-- Each part of a question is what stands there, or there is no question.
use Rattle.std.proofs.Common.{◌≡◌, ℕ, ◌^◌, ◌<◌, List, ◌∷◌, ◌++◌, Some, decimal, sym, ◌∙◌, arith, Bor}
use Rattle.std.proofs.lemmas.Str.Pattern.{IsSplitOnceResult}
use Rattle.text.specs.Questions.{Askable, asked, when_text}
use Rattle.text.specs.Reading.{ReadsAs, ReadsBefore, IsBelow, dotted}
use Rattle.text.specs.declared.question.Question.{Question}
use Rattle.text.proofs.Decimal.{too_large}
use Rattle.text.proofs.Dotted.{dotted_lacks, part}
use Rattle.text.proofs.Separated.{none_before, not_before, read_before, split_once_only}
use Rattle.text.proofs.question.Question.read.Goals as goal

-- what stands behind the address of a question
behind : (q : Question) → Askable q → (a : ℕ) {rest text : List ℕ} → (a < 2 ^ 32) × (text ≡ dotted a ++ (32 ∷ rest)) → text ≡ asked q → rest ≡ decimal q.port ++ (32 ∷ when_text q.when)
behind q ok a r e = (split_once_only 32 (dotted a) (dotted q.address) _ _ (dotted_lacks a r.0) (dotted_lacks q.address ok.address) (sym r.1 ∙ e)).1

-- what was split off is the address
address_before : (bs : List ℕ) (front rest : Bor (List ℕ)) (a : ℕ) → IsSplitOnceResult 32 bs (Some (front, rest)) → ReadsAs dotted (IsBelow (2 ^ 32)) front.now (Some a) → ReadsBefore dotted (IsBelow (2 ^ 32)) 32 bs (Some (a, rest))
address_before bs front rest a h is = read_before dotted (IsBelow (2 ^ 32)) 32 (omega arith) dotted_lacks bs front rest a h is

-- a question's port is the number that stands there, and its time is behind that
port_behind : (q : Question) → Askable q → (a p : ℕ) {rest text more : List ℕ} → (a < 2 ^ 32) × (text ≡ dotted a ++ (32 ∷ rest)) → (p < 2 ^ 64) × (rest ≡ decimal p ++ (32 ∷ more)) → text ≡ asked q → (p ≡ q.port) × (more ≡ when_text q.when)
port_behind q ok a p r s e = part 32 (omega arith) p q.port s.0 (omega (arith, ok.port)) s.1 (behind q ok a r e)

pub returns-in_err-front : goal.returns-in_err-front
returns-in_err-front c =
    rw c.from_residual.ensures (λ q ok e. none_before dotted (IsBelow (2 ^ 32)) 32 (omega arith) dotted_lacks c.args.text.now c.in_err-front.ensures.cases q.address _ ok.address e)

pub returns-in_err-address : goal.returns-in_err-address
returns-in_err-address c =
    rw c.from_residual-in_err-address.ensures
    (λ q ok e. not_before dotted (IsBelow (2 ^ 32)) 32 (omega arith) dotted_lacks c.args.text.now c.in_ok-front.front c.in_ok-front.rest c.in_ok-front.ensures.cases c.in_err-address.ensures q.address _ ok.address e)

pub returns-in_err-port : goal.returns-in_err-port
returns-in_err-port c =
    let a = address_before c.args.text.now c.in_ok-front.front c.in_ok-front.rest c.in_ok-address.address c.in_ok-front.ensures.cases c.in_ok-address.ensures in
    rw c.from_residual-in_err-port.ensures (λ q ok e. c.in_err-port.ensures q.port _ (omega (arith, ok.port)) (behind q ok c.in_ok-address.address a e))

pub returns-in_err-port-2 : goal.returns-in_err-port-2
returns-in_err-port-2 c =
    let a = address_before c.args.text.now c.in_ok-front.front c.in_ok-front.rest c.in_ok-address.address c.in_ok-front.ensures.cases c.in_ok-address.ensures in
    let large = too_large c.try_from.result c.in_ok-port.port (2 ^ 16) c.try_from.ensures c.in_err-port-2.ensures.value in
    rw c.from_residual-in_err-port-2.ensures (λ q ok e. omega (arith, (port_behind q ok c.in_ok-address.address c.in_ok-port.port a c.in_ok-port.ensures e).0, ok.port, large))

pub returns-in_err-when : goal.returns-in_err-when
returns-in_err-when c =
    let a = address_before c.args.text.now c.in_ok-front.front c.in_ok-front.rest c.in_ok-address.address c.in_ok-front.ensures.cases c.in_ok-address.ensures in
    rw c.from_residual-in_err-when.ensures (λ q ok e. c.in_err-when.ensures q.when ok.when (port_behind q ok c.in_ok-address.address c.in_ok-port.port a c.in_ok-port.ensures e).1)
