-- The port is put, and then the moved sum, where there is one and the whole of it is quoted.
use Rattle.std.proofs.Common.{◌≡◌, ℕ, ◌+◌, ◌<◌, true, List, length, refl, ap, arith}
use Rattle.std.proofs.lemmas.Bool.Decides.{nat_tests}
use Rattle.sums.specs.Words.{word_at, put_word, word_sum}
use Rattle.sums.specs.Sums.{moved}
use Rattle.sums.proofs.Edits.{length_put}
use Rattle.mappings.specs.declared.event.Protocol.{Protocol}
use Rattle.packets.specs.declared.facts.End.{End}
use Rattle.packets.specs.Fields.{port_at, sum_at}
use Rattle.packets.specs.Writing.{respelled}
use Rattle.errors.specs.Requoting.{has_sum}
use Rattle.errors.proofs.Changes.{body_edit, edit_as, port_edit, sum_apart}
use Rattle.errors.proofs.writer.write_quoted_body.Goals as goal

pub returns-then-body-place : goal.returns-then-body-place
returns-then-body-place c =
    let p : Protocol = c.args.protocol in
    let e : End = c.args.relocation.end in
    let b : List ℕ = c.args.body.now in
    let port : ℕ = c.args.relocation.endpoint.port in
    let there : c.put_word.new.bytes ≡ put_word b (port_at p e) port = rw (c.put_word.ensures, c.port_at-at.ensures) refl in
    let short : length b < sum_at p + 2 = omega (arith, ap length there, length_put b (port_at p e) port, c.sum_at-place.ensures, c.if-body-place.true) in
    record {
      is = grind (arith, nat_tests);
      edit = edit_as (port_edit p e port b c.requires.long) there (rw (c.of_words-ports.ensures.gone, c.word_at.ensures, c.port_at-at.ensures) refl) c.of_words-ports.ensures.new;
      small = (omega arith, omega arith);
    }

pub returns-then-has_no_sum : goal.returns-then-has_no_sum
returns-then-has_no_sum c =
    let p : Protocol = c.args.protocol in
    let e : End = c.args.relocation.end in
    let b : List ℕ = c.args.body.now in
    let port : ℕ = c.args.relocation.endpoint.port in
    let there : c.put_word.new.bytes ≡ put_word b (port_at p e) port = rw (c.put_word.ensures, c.port_at-at.ensures) refl in
    let old : c.word_at-old.result ≡ word_at b (sum_at p) = rw (c.word_at-old.ensures, c.sum_at-place.ensures, there) (sum_apart p e port b c.requires.long) in
    record {
      is = grind (arith, nat_tests);
      edit = edit_as (port_edit p e port b c.requires.long) there (rw (c.of_words-ports.ensures.gone, c.word_at.ensures, c.port_at-at.ensures) refl) c.of_words-ports.ensures.new;
      small = (omega arith, omega arith);
    }

pub returns : goal.returns
returns c =
    let p : Protocol = c.args.protocol in
    let e : End = c.args.relocation.end in
    let b : List ℕ = c.args.body.now in
    let port : ℕ = c.args.relocation.endpoint.port in
    let ported : List ℕ = put_word b (port_at p e) port in
    let there : c.put_word.new.bytes ≡ ported = rw (c.put_word.ensures, c.port_at-at.ensures) refl in
    let old : c.word_at-old.result ≡ word_at b (sum_at p) = rw (c.word_at-old.ensures, c.sum_at-place.ensures, there) (sum_apart p e port b c.requires.long) in
    let out : c.of_words-ports.result.gone ≡ word_at b (port_at p e) = rw (c.of_words-ports.ensures.gone, c.word_at.ensures, c.port_at-at.ensures) refl in
    let within : sum_at p + 1 < length b = omega (arith, ap length there, length_put b (port_at p e) port, c.sum_at-place.ensures, c.if-body-place.false) in
    let present : has_sum p b ≡ true = grind (arith, nat_tests) in
    let m : ℕ = moved (word_at b (sum_at p)) (c.args.address.gone + word_at b (port_at p e)) (c.args.address.new + port) in
    let m-is : c.move_sum-moved.result ≡ m = rw (c.move_sum-moved.ensures, old, c.plus-gone.ensures.gone, c.plus-gone.ensures.new, out, c.of_words-ports.ensures.new) refl in
    let s : ℕ = c.put_sum-sum.result in
    let s-is : s ≡ respelled p m (word_sum (put_word ported (sum_at p) 0)) = rw (c.put_sum-sum.ensures.is, m-is, there) refl in
    let put : c.put_sum-sum.new.body ≡ put_word ported (sum_at p) s = rw (c.put_sum-sum.ensures.put, there) refl in
    record {
      is = rw (put, s-is, present) refl;
      edit = edit_as (body_edit p e port b c.requires.long s within) put (omega (arith, out, old)) (omega arith);
      small = (omega arith, omega arith);
    }
