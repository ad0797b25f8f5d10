-- The block's bit is set, and no other changes.
use Rattle.std.proofs.Common.{◌≡◌, ◌*◌, ◌/◌, ◌%◌, ◌^◌, ◌<◌, length, get_or, ap, ◌∙◌, arith}
use lib.Bits.{bit_or}
use Rattle.std.proofs.lemmas.Nat.{div_below, one_shl, mod_below}
use Rattle.tables.specs.Given.{bit}
use Rattle.tables.proofs.Digits.{or_there, or_others, given_there, given_others}
use Rattle.tables.proofs.bits.Given.put.Goals as goal

pub returns : goal.returns
returns c =
    let ws = c.args.self.now.words in
    let b = c.args.block in
    let w = get_or ws (b / 64) 0 in
    let k = b % 64 in
    let small : k < 64 = mod_below b 64 (omega arith) in
    let one : 1 * 2 ^ k % 2 ^ 64 ≡ 2 ^ k = one_shl k 64 small in
    let within : b / 64 < length ws = omega (arith, div_below b 64 63 (omega arith) c.requires) in
    rw c.from.ensures (record {
      there = given_there ws b _ within ∙ ap (λ v. bit (bit_or w v) k) one ∙ or_there w k;
      others = given_others ws b _ within (λ j ne. ap (λ v. bit (bit_or w v) j) one ∙ or_others w k j ne);
    })
