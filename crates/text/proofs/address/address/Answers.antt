-- The library's words for an address in four parts are those of `dotted`.
use Rattle.std.proofs.Common.{◌≡◌, ℕ, ◌+◌, ◌*◌, ◌/◌, ◌%◌, ◌^◌, ◌<◌, List, [], ◌∷◌, ◌++◌, Some, None, Ok, Err, Result, decimal, ap, ◌∙◌, append_assoc, refl, arith}
use Rattle.std.specs.declared.net.ipv4_addr.Ipv4Addr.{Ipv4Addr}
use Rattle.std.specs.Int.{w32, from_be_bytes}
use Rattle.std.specs.Net.Addr.{ipv4_bits, ipv4_octets}
use Rattle.std.specs.Net.Grammar.{IsIpv4Text, Parses}
use Rattle.std.specs.Net.Text.{dotted_text}
use Rattle.std.specs.Result.{result_ok}
use Rattle.text.specs.Reading.{dotted}
use Rattle.text.proofs.address.address.Goals as goal

-- four numbers below 256 make one address
dotted_of : (a b c d v : ℕ) → a < 256 → b < 256 → c < 256 → d < 256 → v ≡ a * 16777216 + b * 65536 + c * 256 + d → dotted_text a b c d ≡ dotted v
dotted_of a b c d v ha hb hc hd e =
    let one : a ≡ v / 16777216 = omega arith in
    let two : b ≡ v / 65536 % 256 = omega arith in
    let three : c ≡ v / 256 % 256 = omega arith in
    let four : d ≡ v % 256 = omega arith in
    simp append_assoc (λ i. decimal (one i) ++ (46 ∷ (decimal (two i) ++ (46 ∷ (decimal (three i) ++ (46 ∷ decimal (four i)))))))

parsed : {E : Type 0} (text : List ℕ) (r : Result Ipv4Addr E) (a : Ipv4Addr) → Parses IsIpv4Text text r → Some a ≡ result_ok r → text ≡ dotted (ipv4_bits a)
unfolding ipv4_bits
parsed text (Ok b) a p e =
    let same : a ≡ b = cc in
    let bits : ipv4_bits a ≡ p.a * 16777216 + p.b * 65536 + p.c * 256 + p.d = ap (from_be_bytes w32) (ap ipv4_octets same ∙ p.value) in
    p.spelled ∙ dotted_of p.a p.b p.c p.d (ipv4_bits a) p.fit.0 p.fit.1 p.fit.2 p.fit.3 bits
parsed text (Err d) a p e = absurd (cc)

refused : {E : Type 0} (text : List ℕ) (r : Result Ipv4Addr E) → Parses IsIpv4Text text r → None ≡ result_ok r → (x : ℕ) → x < 2 ^ 32 → text ≡ dotted x → ⊥
refused text (Ok a) p e x small whole = absurd (cc)
refused text (Err d) p e x small whole =
    p (record { octets = x / 16777216 ∷ x / 65536 % 256 ∷ x / 256 % 256 ∷ x % 256 ∷ [] })
    (record { a = x / 16777216; b = x / 65536 % 256; c = x / 256 % 256; d = x % 256; fit = (omega arith, omega arith, omega arith, omega arith); value = refl; spelled = whole ∙ simp append_assoc })

pub returns-in_err-address : goal.returns-in_err-address
returns-in_err-address c = rw c.from_residual.ensures (refused c.args.text.now c.parse.result c.parse.ensures.value c.in_err-address.ensures.value)

pub returns : goal.returns
returns c = (c.to_bits.type_inv, rw c.to_bits.ensures (parsed c.args.text.now c.parse.result c.in_ok-address.address c.parse.ensures.value c.in_ok-address.ensures.value))
