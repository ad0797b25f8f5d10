-- Plain decimal numbers, and what `parse` makes of them.
use Rattle.std.proofs.Common.{◌≡◌, ℕ, ◌^◌, ◌<◌, ◌≤◌, true, List, length, get_or, Ok, Err, None, decimal, Result, sym, ap, ◌∙◌, subst, ⊎_elim, arith}
use Rattle.std.specs.Str.Parse.{AllDigits, digits_value, ParsesUnsigned}
use Rattle.std.specs.Result.{result_ok, OkIff}
use Rattle.std.proofs.lemmas.Fmt.{decimal_digit, decimal_nonempty, decimal-digits_value, digits_decimal, first_decimal, digits_value-decimal}
use Rattle.std.proofs.lemmas.Str.Parse.{IsNumeralModel, not_in_digits, numerals_by_value, parse_plain, tells_digits}
use Rattle.std.proofs.lemmas.Bool.{cases_eq}
use Rattle.std.proofs.lemmas.Grind.{common_steps}
use Rattle.text.specs.Reading.{ReadsAs, IsBelow, is_plain}

own : IsNumeralModel (AllDigits 10) (digits_value 10)
own = numerals_by_value (AllDigits 10) tells_digits

-- what every decimal number looks like at its front
pub record Plain (bs : List ℕ) : Type 0 where
  pub some : 0 < length bs
  pub unsigned : get_or bs 0 0 ≡ 43 → ⊥
  pub short : get_or bs 0 0 ≡ 48 → length bs ≡ 1

pub plain_from : (bs : List ℕ) → is_plain bs ≡ true → Plain bs
plain_from bs h = grind (arith, common_steps)

pub plain_to : (bs : List ℕ) → Plain bs → is_plain bs ≡ true
plain_to bs p = grind (arith, common_steps)

-- no digit is another byte
pub no_other : (n c : ℕ) → n < 2 ^ 64 → (c < 48) → (i : ℕ) → i < length (decimal n) → get_or (decimal n) i 0 ≡ c → ⊥
no_other n c small low = not_in_digits own (decimal n) c (digits_decimal own n small) (λ d. omega (arith, d))

pub decimal_plain : (n : ℕ) → n < 2 ^ 64 → Plain (decimal n)
decimal_plain n small = record {
  some = decimal_nonempty n small;
  unsigned = no_other n 43 small (omega arith) 0 (decimal_nonempty n small);
  short = λ zero. ⊎_elim (λ e. ap (λ k. length (decimal k)) e ∙ ap length (decimal_digit 0 (omega arith))) (λ ne. absurd (omega (arith, first_decimal n (omega arith) small))) (cases_eq n 0);
}

pub reads_plain : {E : Type 0} (bs : List ℕ) (r : Result ℕ E) → ParsesUnsigned 64 10 bs r → Plain bs → ReadsAs decimal (IsBelow (2 ^ 64)) bs (result_ok r)
reads_plain {E} bs (Ok x) h p =
    let got = parse_plain own {E = E} 64 bs (Ok x) h p.unsigned in
    let same = decimal-digits_value own bs got.0.0 p.some p.short got.0.2 in
    (subst (λ n. n < 2 ^ 64) (sym got.1) got.0.2, sym same ∙ ap decimal (sym got.1))
reads_plain bs (Err e) h p =
    λ n small same.
    let digits = subst (AllDigits 10) (sym same) (digits_decimal own n small) in
    let worth = ap (digits_value 10) same ∙ digits_value-decimal own n small in
    parse_plain own 64 bs (Err e) h p.unsigned (digits, p.some, subst (λ k. k < 2 ^ 64) (sym worth) small)

-- a number that a narrower type does not hold
pub too_large : {E : Type 0} (r : Result ℕ E) (n limit : ℕ) → OkIff r (n < limit) n → None ≡ result_ok r → limit ≤ n
too_large (Ok x) n limit h e = absurd (cc)
too_large (Err d) n limit h e = let no : n < limit → ⊥ = h in omega arith
