-- The quote is put back behind the first 8 bytes, and the sum moved by what it lost and gained is the fresh one.
use Rattle.std.proofs.Common.{◌≡◌, ℕ, ◌-◌, List, ◌++◌, length, take, drop, sym, refl, arith}
use borrow.Rule.Slice.PartMut.{put_mid}
use Rattle.std.proofs.lemmas.List.{take_rest}
use Rattle.sums.specs.Sums.{fresh, rest_sum}
use Rattle.sums.specs.Laws.{Edit}
use Rattle.errors.proofs.Halves.{rest_back}
use Rattle.errors.specs.Requoting.{error_body}
use Rattle.errors.proofs.Changes.{edit_of}
use Rattle.errors.proofs.Wholes.{message_moved}
use Rattle.errors.proofs.writer.write_message.Goals as goal

pub returns : goal.returns
unfolding error_body
returns c =
    let b : List ℕ = c.args.body.now in
    let q : List ℕ = c.write_quote-difference.new.quote in
    let g : ℕ = c.write_quote-difference.result.gone in
    let n : ℕ = c.write_quote-difference.result.new in
    let rest : take (length b - 8) (drop 8 b) ≡ drop 8 b = take_rest b 8 in
    let back : put_mid 8 (length b - 8) b q ≡ take 8 b ++ q = rest_back 8 b q in
    let edit : Edit (drop 8 b) q g n = edit_of c.write_quote-difference.ensures.edit (sym rest) in
    let sum : c.move_sum-sum.result ≡ fresh (rest_sum 0 (take 8 b ++ q) 2) =
    rw (c.move_sum-sum.ensures, c.word_at.ensures, back) (message_moved b q (omega arith) g n edit c.requires.kind c.requires.sum) in
    rw (c.put_word.ensures, back, sum, c.write_quote-difference.ensures.is, rest) refl
