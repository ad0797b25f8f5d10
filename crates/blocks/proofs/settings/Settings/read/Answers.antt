-- Each value is the number at its place, so the settings are those of the bytes.
use Rattle.std.proofs.Common.{◌≡◌, eqb, length, get_or, sym, ◌∙◌, arith}
use Rattle.std.proofs.lemmas.Bool.{cond-true, eq-eqb}
use Rattle.blocks.specs.Bytes.{number_at}
use Rattle.blocks.specs.Settings.{accepted}
use Rattle.blocks.proofs.settings.Settings.read.Goals as goal

pub returns : goal.returns
returns c =
    let bs = c.args.bytes.now in
    let long : length bs ≡ 17 = omega arith in
    let external : c.from_be_bytes.result ≡ number_at bs 0 4 = omega (arith, c.from_be_bytes.ensures) in
    let internal : c.from_be_bytes-2.result ≡ number_at bs 4 4 = omega (arith, c.from_be_bytes-2.ensures) in
    let subscribers : c.from_be_bytes-3.result ≡ number_at bs 8 2 = omega (arith, c.from_be_bytes-3.ensures) in
    let size : c.from_be_bytes-4.result ≡ number_at bs 10 2 = omega (arith, c.from_be_bytes-4.ensures) in
    let further : get_or bs 12 0 ≡ number_at bs 12 1 = omega arith in
    let life : c.from_be_bytes-5.result ≡ number_at bs 13 2 = omega (arith, c.from_be_bytes-5.ensures) in
    let rest : c.from_be_bytes-6.result ≡ number_at bs 15 2 = omega (arith, c.from_be_bytes-6.ensures) in
    c.new.ensures
    ∙ (λ i. accepted (record { external = external i; internal = internal i; subscribers = subscribers i; size = size i; further = further i; life = life i; rest = rest i }))
    ∙ sym (cond-true (eqb (length bs) 17) _ _ (eq-eqb (length bs) 17 long))
