-- The sum is spelled out where the words besides it are all 0.
use Rattle.std.proofs.Common.{◌≡◌, ℕ, List, refl, arith}
use Rattle.std.proofs.lemmas.Bool.Decides.{nat_tests}
use Rattle.sums.specs.Words.{put_word}
use Rattle.sums.proofs.Edits.{put_put}
use Rattle.packets.specs.Fields.{sum_at}
use Rattle.packets.proofs.Bodies.{in_place}
use Rattle.packets.proofs.writer.put_sum.Goals as goal

pub returns : goal.returns
returns c =
    let at : ℕ = sum_at c.args.protocol in
    let b : List ℕ = c.args.body.now in
    let m : ℕ = c.args.moved in
    let there : c.put_word.new.bytes ≡ put_word b at m = rw (c.put_word.ensures, c.sum_at-place.ensures) refl in
    let same = in_place c.args.protocol b at m in
    record {
      put = rw (c.put_word-2.ensures, there, c.sum_at-place.ensures, put_put) refl;
      is = grind (arith, nat_tests, same);
    }
