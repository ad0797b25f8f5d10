-- What is found is the first block of the range that is out.
use Rattle.std.proofs.Common.{◌≡◌, true, false, refl, rules}
use Rattle.std.proofs.lemmas.Iterator.{first_from_Range}
use Rattle.tables.specs.Given.{is_out}
use Rattle.tables.proofs.Looking.{first_found}
use Rattle.tables.proofs.bits.Given.lowest_out.Goals as goal

pub returns : goal.returns
returns c =
    let out = is_out c.args.self.now.words in
    first_found out c.args.from _ c.args.end _ refl
    (first_from_Range _ _ _ _ (λ b. out b ≡ true) (λ b. out b ≡ false) c.find.ensures.ran (λ x q k. search rules) (λ x q k. (search rules, search rules)))
