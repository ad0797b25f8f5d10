-- The crate's digits are those of the definition, and text.
use Rattle.std.proofs.Common.{◌≡◌, ℕ, ◌/◌, ◌%◌, ◌<◌, suc, List, [], ◌∷◌, get_or, slice_index, Ok, Err, Result, refl, ap, ◌∙◌, sym, arith, Bor}
use Rattle.std.specs.Result.{MatchResult, IsOk, OnOk}
use Rattle.std.specs.Str.{IsAscii}
use Rattle.std.proofs.lemmas.List.FromFn.{get_or-map-range_with_len}
use Rattle.std.proofs.lemmas.Str.{IsUtf8-from_ascii}
use Rattle.std.proofs.lemmas.Str.Ascii.{IsAscii-nil, IsAscii-cons}
use Rattle.hex.specs.Hex.{encode_with, encode_lower, lower_digits}
use Rattle.text.specs.Reports.{hex_digit, hex_text}
use Rattle.text.proofs.report.digits.Goals as goal

glyph : (n : ℕ) → n < 16 → slice_index lower_digits n ≡ hex_digit n
glyph n h = get_or-map-range_with_len hex_digit 0 16 n n 0 h (omega arith)

encoded : (bs : List ℕ) → ((i : ℕ) → get_or bs i 0 < 256) → encode_lower bs ≡ hex_text bs
unfolding encode_with
encoded [] h = refl
encoded (b ∷ bs) h =
    let byte : b < 256 = h 0 in
    let high = glyph (b / 16) (omega arith) in
    let low = glyph (b % 16) (omega arith) in
    let others = encoded bs (λ i. h (suc i)) in
    (λ i. high i ∷ low i ∷ others i)

low_digit : (n : ℕ) → n < 16 → hex_digit n < 128
low_digit n h = grind arith

ascii : (bs : List ℕ) → ((i : ℕ) → get_or bs i 0 < 256) → IsAscii (hex_text bs)
ascii [] h = IsAscii-nil
ascii (b ∷ bs) h =
    let byte : b < 256 = h 0 in
    let low = IsAscii-cons (hex_digit (b % 16)) (hex_text bs) (low_digit (b % 16) (omega arith)) (ascii bs (λ i. h (suc i))) in
    IsAscii-cons (hex_digit (b / 16)) (hex_digit (b % 16) ∷ hex_text bs) (low_digit (b / 16) (omega arith)) low

made : {E : Type 0} (r : Result (Unit {0}) E) (x : Unit {0}) (P : Type 0) → r ≡ Ok x → OnOk r P → P
made (Ok x) y P e h = h
made (Err d) y P e h = absurd (cc)

-- what is UTF-8 is taken for text
taken : {E : Type 0} (r : Result (Bor (List ℕ)) E) (P : Bor (List ℕ) → Type 0) (R : E → Type 0) (Q : Type 0) →
    MatchResult r P (λ e. ¬ Q × R e) → Q → IsOk r
taken (Ok s) P R Q h q = refl
taken (Err d) P R Q h q = absurd (h.0 q)

read_as : {E : Type 0} (r : Result (Bor (List ℕ)) E) (s : Bor (List ℕ)) (bs : List ℕ) (P : Type 0) (R : E → Type 0) →
    r ≡ Ok s → MatchResult r (λ t. (t.now ≡ bs) × P) R → s.now ≡ bs
read_as (Ok t) s bs P R e h = let same : t ≡ s = cc in sym (ap (λ x. x.now) same) ∙ h.0
read_as (Err d) s bs P R e h = absurd (cc)

pub unwrap-requires-2 : goal.unwrap-requires-2
unwrap-requires-2 c =
    let byte = λ (i : ℕ). (c.type_inv.bytes i).fits in
    let wrote = made c.encode_to_slice.result c.unwrap.result _ c.unwrap.ensures c.encode_to_slice.ensures.written in
    let text = IsUtf8-from_ascii _ (ascii c.args.bytes.now byte) in
    taken c.from_utf8.result _ _ _ c.from_utf8.ensures.cases (rw (wrote ∙ encoded c.args.bytes.now byte) text)

pub returns : goal.returns
returns c =
    let bytes = c.args.bytes.now in
    let wrote = made c.encode_to_slice.result c.unwrap.result _ c.unwrap.ensures c.encode_to_slice.ensures.written in
    read_as c.from_utf8.result c.unwrap-2.result _ _ _ c.unwrap-2.ensures c.from_utf8.ensures.cases ∙ (wrote ∙ encoded bytes (λ i. (c.type_inv.bytes i).fits))
