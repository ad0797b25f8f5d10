-- The block's bit was set and is cleared, and no other changes.
use Rattle.std.proofs.Common.{◌≡◌, ◌*◌, ◌/◌, ◌%◌, ◌^◌, ◌<◌, true, get_or, sym, ap, ◌∙◌, arith}
use lib.Bits.{bit_xor}
use Rattle.std.proofs.lemmas.Nat.{one_shl, mod_below}
use Rattle.tables.specs.Given.{bit, is_given}
use Rattle.tables.proofs.Fresh.{given_within}
use Rattle.tables.proofs.Digits.{xor_there, xor_others, given_there, given_others}
use Rattle.tables.proofs.bits.Given.remove.Goals as goal

pub returns-then-has : goal.returns-then-has
unfolding is_given
returns-then-has c =
    let ws = c.args.self.now.words in
    let b = c.args.block in
    let w = get_or ws (b / 64) 0 in
    let k = b % 64 in
    let small : k < 64 = mod_below b 64 (omega arith) in
    let one : 1 * 2 ^ k % 2 ^ 64 ≡ 2 ^ k = one_shl k 64 small in
    let within = given_within ws b (sym c.has.ensures ∙ c.if-has.true) in
    let was : bit w k ≡ true = sym c.has.ensures ∙ c.if-has.true in
    rw c.from.ensures (record {
      there = given_there ws b _ within ∙ ap (λ v. bit (bit_xor w v) k) one ∙ xor_there w k was;
      others = given_others ws b _ within (λ j ne. ap (λ v. bit (bit_xor w v) j) one ∙ xor_others w k j ne);
    })

pub bounds-self-from : goal.bounds-self-from
bounds-self-from c = omega (arith, given_within c.args.self.now.words c.args.block (sym c.has.ensures ∙ c.if-has.true), c.from.ensures)

pub bounds-self-from-then-has : goal.bounds-self-from-then-has
bounds-self-from-then-has c = omega (arith, given_within c.args.self.now.words c.args.block (sym c.has.ensures ∙ c.if-has.true), c.from.ensures)
