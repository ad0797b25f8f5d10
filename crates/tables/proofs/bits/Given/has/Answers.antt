-- The bit is read as it is defined; there is none in a number past the last.
use Rattle.std.proofs.Common.{◌≡◌, ℕ, ◌/◌, ◌%◌, Bool, false, List, get_or, Some, None, Option, MatchOption, Bor, ap, sym, ◌∙◌, arith, rules}
use Rattle.std.specs.Slice.{IsItemAt}
use Rattle.tables.specs.Given.{bit, is_given}
use Rattle.tables.proofs.Fresh.{past_given}
use Rattle.tables.proofs.bits.Given.has.Goals as goal

read : (ws : List ℕ) (b i : ℕ) (r : Bool) (R : Bor ℕ → Type 0) → i ≡ b / 64 → ((w : Bor ℕ) → R w → r ≡ bit w.now (b % 64)) → (o : Option (Bor ℕ)) → MatchOption o (r ≡ false) R → IsItemAt ws i o → r ≡ is_given ws b
unfolding is_given
read ws b i r R at says None h item = h ∙ sym (past_given ws b (omega (arith, item, at)))
read ws b i r R at says (Some w) h item = says w h ∙ ap (λ v. bit v (b % 64)) (item.3.1 0 ∙ ap (λ k. get_or ws k 0) at)

pub returns : goal.returns
returns c = read c.args.self.now.words c.args.block c.from.result c.is_some_and.result _ c.from.ensures (λ w k. search rules) c.get.result c.is_some_and.ensures c.get.ensures.lookup
