-- Slots and the ports that they are for.
use Rattle.std.proofs.Common.{◌≡◌, ℕ, zero, suc, ◌+◌, ◌-◌, ◌*◌, ◌<◌, ◌≤◌, Bool, true, false, cond, leb, List, [], ◌∷◌, map, length, get_or, drop, is_some, Some, None, Option, sym, refl, ap, ◌∙◌, subst, ⊎_elim, arith}
use mathlib.Core.List.{Memᴰ}
use Rattle.std.specs.List.{list_any, slice_range}
use Rattle.std.proofs.lemmas.Nat.{mul-le}
use Rattle.std.proofs.lemmas.List.{get_or_default, get_or_past, get_or-drop, get_or-take}
use Rattle.std.proofs.lemmas.Bool.{cond-true, le-leb, cases_lt}
use Rattle.blocks.specs.Config.{lowest_port, blocks_of, ports}
use Rattle.blocks.specs.Settings.{config}
use Rattle.blocks.specs.declared.settings.Settings.{Settings}
use Rattle.blocks.proofs.Limits.{known}
use Rattle.tables.specs.declared.mapping.Mapping.{Mapping}
use Rattle.mappings.specs.Mappings as mappings
use Rattle.mappings.specs.Mappings.{live_or_resting}
use Rattle.mappings.specs.Searches.{first, range}
use Rattle.mappings.specs.Steps.{is_taken}
use Rattle.mappings.proofs.Firsts.{has_range}
use Rattle.tables.specs.Rows.{slot, slots_of}
use Rattle.tables.proofs.Looking.{any_is, none_of}

-- the ports of a block lie among the slots
pub block_end : (s : Settings) (b k : ℕ) → k ≡ s.size → b < blocks_of (config s) → b * k + k ≤ ports
block_end s b k e h =
    subst (λ n. b * n + n ≤ ports) (sym e) (omega (arith, mul-le (b + 1) s.size (blocks_of (config s)) s.size (omega arith) (omega arith), (known s).whole))

pub slot_at : (xs : List (Option Mapping)) (at : ℕ) → slots_of xs (lowest_port + at) ≡ slot (get_or xs at None)
slot_at xs at =
    let back : lowest_port + at - lowest_port ≡ at = omega arith in
    cond-true (leb lowest_port (lowest_port + at)) _ _ (le-leb lowest_port (lowest_port + at) (omega arith)) ∙ ap (λ n. slot (get_or xs n None)) back

-- the slot that was read
pub slot_read : (xs : List (Option Mapping)) (at : ℕ) (v : Option Mapping) → at < length xs → v ≡ get_or xs at v → slots_of xs (lowest_port + at) ≡ slot v
slot_read xs at v within e = slot_at xs at ∙ ap slot (get_or_default xs at None v within ∙ sym e)

-- a function that keeps the default may be read through
pub get_d_through : {A B : Type 0} (f : A → B) (xs : List A) (i : ℕ) (d : A) → get_or (map f xs) i (f d) ≡ f (get_or xs i d)
get_d_through f [] i d = refl
get_d_through f (x ∷ xs) zero d = refl
get_d_through f (x ∷ xs) (suc i) d = get_d_through f xs i d

-- whether one of these slots has a mapping
pub any_taken : (xs ys : List (Option Mapping)) (start stop : ℕ) → ys ≡ slice_range xs start stop → length ys + start ≡ stop →
    list_any {X = Option Mapping} (λ v. is_some v) ys ≡ is_some (first (is_taken (slots_of xs)) (range (lowest_port + start) (length ys)))
any_taken xs ys start stop e long = any_is (is_taken (slots_of xs)) (λ v. is_some v) None (lowest_port + start) ys tells
  where
    same : (v : Option Mapping) → is_some (slot v) ≡ is_some v
    same None = refl
    same (Some m) = refl

    tells : (k : ℕ) → k < length ys → is_taken (slots_of xs) (lowest_port + start + k) ≡ is_some (get_or ys k None)
    tells k low =
        let place : lowest_port + start + k ≡ lowest_port + (start + k) = omega arith in
        let within : k < stop - start = omega (arith, low, long) in
        ap (is_taken (slots_of xs)) place ∙ ap is_some (slot_at xs (start + k)) ∙ same (get_or xs (start + k) None)
        ∙ ap (λ v. is_some v) (sym (ap (λ zs. get_or zs k None) e ∙ get_or-take (stop - start) (drop start xs) k None within ∙ get_or-drop start xs k None))

-- past the last slot there is none
pub none_past : (xs : List (Option Mapping)) (start n : ℕ) → length xs ≤ start → is_some (first (is_taken (slots_of xs)) (range (lowest_port + start) n)) ≡ false
none_past xs start n past = ap is_some (none_of (is_taken (slots_of xs)) (range (lowest_port + start) n) never)
  where
    never : (p : ℕ) → Memᴰ p (range (lowest_port + start) n) → is_taken (slots_of xs) p ≡ false
    never p m = let among = has_range (lowest_port + start) n p m in ap (λ v. is_some (cond (leb lowest_port p) (slot v) None)) (get_or_past xs (p - lowest_port) None (omega (arith, among.0, past))) ∙ either (leb lowest_port p)
      where
        either : (b : Bool) → is_some (cond {A = Option mappings.Mapping} b None None) ≡ false
        either true = refl
        either false = refl

-- a block whose ports do not all lie among the slots is past the last block
pub block_past : (s : Settings) (b k : ℕ) → k ≡ s.size → ports < b * k + k → ports ≤ b * k
block_past s b k e past =
    ⊎_elim (λ (low : b < blocks_of (config s)). absurd (omega (arith, block_end s b k e low, past)))
    (λ (high : blocks_of (config s) ≤ b). subst (λ n. ports ≤ b * n) (sym e) (omega (arith, mul-le (blocks_of (config s)) s.size b s.size high (omega arith), (known s).whole)))
    (cases_lt b (blocks_of (config s)))
