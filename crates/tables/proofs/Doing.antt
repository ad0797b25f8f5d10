-- What a table did, said of an equal step; and whether a block was given.
use Rattle.std.proofs.Common.{◌≡◌, ℕ, List, Option, Some, None, MatchOption, sym, refl, ◌∙◌, subst}
use Rattle.blocks.specs.Config.{Config}
use Rattle.mappings.specs.declared.event.Verdict.{Verdict}
use Rattle.mappings.specs.declared.line.Line.{Line}
use Rattle.mappings.specs.Steps.{Step}
use Rattle.mappings.proofs.Options.{none_not_some, same_some}
use Rattle.tables.specs.declared.table.Table.{Table}
use Rattle.tables.specs.Models.{Does}

pub does_same : (c : Config) (m : ℕ) (x y : Step) (t : Table) (r : Verdict) (ls : List Line) → x ≡ y → Does c m x t r ls → Does c m y t r ls
does_same c m x y t r ls e d = subst (λ z. Does c m z t r ls) e d

-- whether a block was given, by what was answered
module _ {A : Type 0} (o : Option ℕ) (r : Option A) (P : Type 0) (f : ℕ → A) (Q : ℕ → Type 0) (said : MatchOption o ((r ≡ None) × P) (λ b. (r ≡ Some (f b)) × Q b)) where
  pub given_none : r ≡ None → (o ≡ None) × P
  given_none e = go o said
    where
      go : (o : Option ℕ) → MatchOption o ((r ≡ None) × P) (λ b. (r ≡ Some (f b)) × Q b) → (o ≡ None) × P
      go None h = (refl, h.1)
      go (Some b) h = none_not_some (sym e ∙ h.0)

  pub given_some : (x : A) → r ≡ Some x → (b : ℕ) × (o ≡ Some b) × (x ≡ f b) × Q b
  given_some x e = go o said
    where
      go : (o : Option ℕ) → MatchOption o ((r ≡ None) × P) (λ b. (r ≡ Some (f b)) × Q b) → (b : ℕ) × (o ≡ Some b) × (x ≡ f b) × Q b
      go None h = none_not_some (sym h.0 ∙ e)
      go (Some b) h = (b, refl, same_some (sym e ∙ h.0), h.1)
