-- The address is put, then the sum moved by it.
use Rattle.std.proofs.Common.{◌≡◌, ℕ, ◌+◌, List, refl, arith}
use Rattle.sums.specs.Words.{word_at, put_long, put_word}
use Rattle.sums.specs.Sums.{moved}
use Rattle.packets.specs.declared.facts.End.{End}
use Rattle.packets.specs.Fields.{address_at, address_sum, halves}
use Rattle.errors.proofs.Changes.{edit_as, header_edit}
use Rattle.errors.proofs.writer.write_quoted_header.Goals as goal

pub returns : goal.returns
returns c =
    let h : List ℕ = c.args.header.now in
    let e : End = c.args.relocation.end in
    let a : ℕ = c.args.relocation.endpoint.address in
    let s : ℕ = c.move_sum-sum.result in
    let sum : s ≡ moved (word_at h 10) (address_sum e h) (halves a) = rw (c.move_sum-sum.ensures, c.word_at-old.ensures, c.address_sum.ensures.is, c.halves.ensures.is) refl in
    let there : c.put_word.new.bytes ≡ put_word (put_long h (address_at e) a) 10 s = rw (c.put_word.ensures, c.put_long.ensures, c.address_at.ensures) refl in
    let gone : c.plus.result.gone ≡ address_sum e h + word_at h 10 = rw (c.plus.ensures.gone, c.address_sum.ensures.is, c.of_words.ensures.gone, c.word_at-old.ensures) refl in
    let new : c.plus.result.new ≡ halves a + s = rw (c.plus.ensures.new, c.halves.ensures.is, c.of_words.ensures.new) refl in
    record {
      is = rw (there, sum) refl;
      edit = edit_as (header_edit e a s h (omega arith)) there gone new;
      small = (omega arith, omega arith);
    }
