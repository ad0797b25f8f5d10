-- Tables in which nothing is yet.
use Rattle.std.proofs.Common.{◌≡◌, ℕ, zero, suc, ◌-◌, ◌/◌, ◌%◌, ◌^◌, ◌<◌, ◌≤◌, Bool, true, false, cond, eqb, leb, List, [], ◌∷◌, map, length, get_or, replicate, Some, None, Option, sym, refl, ap, ◌∙◌, subst, ⊎_elim, arith}
use Rattle.arrayvec.specs.ArrayVec.{ArrayVec}
use Rattle.std.specs.List.{AllZip}
use Rattle.std.proofs.lemmas.Nat.{shr_le, le-div}
use Rattle.std.proofs.lemmas.List.{get_or-replicate, get_or_past, length-replicate}
use Rattle.std.proofs.lemmas.Bool.{cases_lt}
use Rattle.blocks.specs.Config.{lowest_port, blocks_of, ports}
use Rattle.blocks.specs.Settings.{config}
use Rattle.blocks.specs.declared.settings.Settings.{Settings}
use Rattle.blocks.proofs.Limits.{known}
use Rattle.mappings.specs.Mappings as mappings
use Rattle.mappings.proofs.Options.{true_not_false}
use Rattle.tables.specs.Given.{bit, is_given}
use Rattle.tables.specs.Rows.{slot, slots_of}

pub all_same : {A : Type 0} (n i : ℕ) (x : A) → get_or (replicate n x) i x ≡ x
all_same n i x =
    ⊎_elim (λ (low : i < n). get_or-replicate n i x x low) (λ (high : n ≤ i). get_or_past (replicate n x) i x (omega (arith, length-replicate n x))) (cases_lt i n)

-- a copy of `None` is `None`, and one of an empty row an empty row
pub none_only : {A : Type 0} (P : Option A → Type 0) → ((x : A) → P (Some x) → ⊥) → (y : Option A) → P y → y ≡ None
none_only P never None e = refl
none_only P never (Some x) e = absurd (never x e)

pub empty_only : (R : ℕ → ℕ → Type 0) (v : ArrayVec ℕ) → v.items ≡ [] → (w : ArrayVec ℕ) → AllZip R v.items w.items → w ≡ v
empty_only R v e w z = λ i. record { items = (same w.items (subst (λ xs. AllZip R xs w.items) e z) ∙ sym e) i }
  where
    same : (ys : List ℕ) → AllZip R [] ys → ys ≡ []
    same [] k = refl
    same (y ∷ ys) k = absurd k

no_bit : (k : ℕ) → bit 0 k ≡ false
no_bit k = let none : 0 / 2 ^ k ≡ 0 = omega (arith, shr_le 0 k) in ap (λ n. eqb (n % 2) 1) none

pub none_given : (n b : ℕ) → is_given (replicate n 0) b ≡ false
unfolding is_given
none_given n b = ap (λ w. bit w (b % 64)) (all_same n (b / 64) 0) ∙ no_bit (b % 64)

pub past_given : (ws : List ℕ) (b : ℕ) → length ws ≤ b / 64 → is_given ws b ≡ false
unfolding is_given
past_given ws b high = ap (λ w. bit w (b % 64)) (get_or_past ws (b / 64) 0 high) ∙ no_bit (b % 64)

-- the number that has the bit of a given block is there
pub given_within : (ws : List ℕ) (b : ℕ) → is_given ws b ≡ true → b / 64 < length ws
unfolding is_given
given_within ws b t =
    ⊎_elim (λ (low : b / 64 < length ws). low)
    (λ (high : length ws ≤ b / 64). true_not_false (sym t ∙ past_given ws b high))
    (cases_lt (b / 64) (length ws))

pub no_slot : (n p : ℕ) → slots_of (replicate n None) p ≡ None
no_slot n p = ap (λ v. cond (leb lowest_port p) (slot v) None) (all_same n (p - lowest_port) None) ∙ either (leb lowest_port p)
  where
    either : (b : Bool) → cond {A = Option mappings.Mapping} b None None ≡ None
    either true = refl
    either false = refl

pub map_replicate : {A B : Type 0} (f : A → B) (n : ℕ) (x : A) (y : B) → f x ≡ y → map f (replicate n x) ≡ replicate n y
map_replicate f zero x y e = refl
map_replicate f (suc n) x y e = let later = map_replicate f n x y e in cc

pub some_block : (s : Settings) → 0 < blocks_of (config s)
some_block s = le-div 1 ports s.size (omega (arith, (known s).smallest)) (omega (arith, (known s).largest))
