-- The moved sum, spelled as it is sent, is the fresh one.
use Rattle.std.proofs.Common.{◌≡◌, ℕ, ◌+◌, false, List, refl, arith}
use Rattle.std.proofs.lemmas.Bool.Decides.{nat_tests}
use Rattle.sums.specs.Words.{word_at, put_word, word_sum}
use Rattle.sums.specs.Sums.{moved}
use Rattle.mappings.specs.declared.event.Protocol.{Protocol}
use Rattle.packets.specs.declared.facts.End.{End}
use Rattle.packets.specs.Fields.{port_at, sum_at}
use Rattle.packets.specs.Writing.{has_no_sum, respelled}
use Rattle.packets.proofs.Bodies.{body_sent_lem}
use Rattle.packets.proofs.writer.write_body.Goals as goal

pub returns : goal.returns
returns c =
    let p : Protocol = c.args.protocol in
    let e : End = c.args.relocation.end in
    let b : List ℕ = c.args.body.now in
    let port : ℕ = c.args.relocation.endpoint.port in
    let ported : List ℕ = put_word b (port_at p e) port in
    let m : ℕ = c.move_sum-moved.result in
    let s : ℕ = c.put_sum.result in
    let there : c.put_word.new.bytes ≡ ported = rw (c.put_word.ensures, c.port_at-at.ensures) refl in
    let old : c.word_at-old.result ≡ word_at b (sum_at p) = rw (c.word_at-old.ensures, c.sum_at.ensures) refl in
    let m-is : m ≡ moved (word_at b (sum_at p)) (c.args.before + word_at b (port_at p e)) (c.args.after + port) =
    rw (c.move_sum-moved.ensures, old, c.from.ensures, c.word_at.ensures, c.port_at-at.ensures, c.from-2.ensures) refl in
    let s-is : s ≡ respelled p m (word_sum (put_word ported (sum_at p) 0)) = rw (c.put_sum.ensures.is, there) refl in
    let put : c.put_sum.new.body ≡ put_word ported (sum_at p) s = rw (c.put_sum.ensures.put, there) refl in
    let some : has_no_sum p b ≡ false = grind (arith, nat_tests) in
    rw put (body_sent_lem p e b port c.args.before c.args.after c.requires.long c.requires.besides some (c.requires.sum some) m s m-is s-is)
