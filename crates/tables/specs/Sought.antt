-- What a test says of a slot, and the first port whose slot passes it.
use Rattle.std.specs.Prelude.{◌≡◌, ℕ, Bool, List, Option}
use Rattle.mappings.specs.Mappings as mappings
use Rattle.mappings.specs.Searches.{first}
use Rattle.tables.specs.declared.mapping.Mapping.{Mapping}
use Rattle.tables.specs.Rows.{slot}

-- each answer that is given about a slot is what f says of the slot's meaning
abbrev pub Tells : (Option Mapping → Bool → Type 0) → (Option mappings.Mapping → Bool) → Type 0
Tells gives f = (v : Option Mapping) (b : Bool) → gives v b → b ≡ f (slot v)

-- r is the first of these ports whose slot passes, whatever meaning the test has
pub record Finds (gives : Option Mapping → Bool → Type 0) (slots : ℕ → Option mappings.Mapping) (ports : List ℕ) (r : Option ℕ) : Type 0 where
  pub is : (f : Option mappings.Mapping → Bool) → Tells gives f → r ≡ first (λ p. f (slots p)) ports
