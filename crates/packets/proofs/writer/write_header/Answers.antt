-- The moved sum is the fresh one, so what is put is what the definition puts.
use Rattle.std.proofs.Common.{◌≡◌, ℕ, ◌-◌, ◌+◌, ◌*◌, List, set, ap, ◌∙◌, arith}
use Rattle.sums.specs.Words.{word_at, put_long}
use Rattle.packets.specs.Fields.{address_at, address_sum, halves, time_to_live}
use Rattle.packets.specs.Writing.{readdressed}
use Rattle.packets.proofs.Headers.{header_moved}
use Rattle.packets.proofs.writer.write_header.Goals as goal

pub returns : goal.returns
returns c =
    let h : List ℕ = c.args.header.now in
    let at : c.address_at.result ≡ address_at c.args.relocation.end = c.address_at.ensures in
    let g : List ℕ = readdressed c.args.relocation.hops c.args.relocation.end c.args.relocation.endpoint.address h in
    let edited : c.put_long.new.bytes ≡ g =
    c.put_long.ensures
    ∙ (ap (λ i. put_long (set h 8 c.saturating_sub-ttl.result) i c.args.relocation.endpoint.address) at
    ∙ ap (λ t. put_long (set h 8 t) (address_at c.args.relocation.end) c.args.relocation.endpoint.address) c.saturating_sub-ttl.ensures) in
    let gone : c.from.result * 256 + c.address_sum.result ≡ time_to_live h * 256 + address_sum c.args.relocation.end h = cc in
    let new : c.from-2.result * 256 + c.halves.result ≡ (time_to_live h - c.args.relocation.hops) * 256 + halves c.args.relocation.endpoint.address = cc in
    let word : c.word_at.result ≡ word_at g 10 = c.word_at.ensures ∙ ap (λ bs. word_at bs 10) edited in
    let law = header_moved c.args.relocation.hops c.args.relocation.end c.args.relocation.endpoint.address h (omega arith) c.requires.version c.requires.sum in
    cc
