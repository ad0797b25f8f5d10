-- The blocks of one subscriber in the table.
use Rattle.std.proofs.Common.{◌≡◌, ℕ, zero, suc, ◌-◌, ◌<◌, ◌≤◌, Bool, true, false, cond, ltb, ◌⊎◌, List, [], ◌∷◌, ◌++◌, map, length, get_or, set, is_some, Some, None, Option, sym, refl, ap, ◌∙◌, subst, inl, inr, ⊎_elim, arith}
use Rattle.std.specs.List.{filter}
use Rattle.std.proofs.lemmas.List.{get_or_append_left, get_or-append_right, get_or-map, get_or-set_other, get_or-set_same, length-map, map-set}
use Rattle.std.proofs.lemmas.Bool.{cases_eq, cases_lt}
use Rattle.std.proofs.lemmas.Nat.{mul-le}
use Rattle.blocks.specs.Config.{blocks_of, lowest_port}
use Rattle.blocks.specs.Settings.{config}
use Rattle.blocks.specs.declared.settings.Settings.{Settings}
use Rattle.blocks.proofs.Limits.{known}
use Rattle.mappings.specs.Searches.{first, range}
use Rattle.mappings.specs.States.{further_of, ports_of}
use Rattle.mappings.specs.Steps.{is_unheld, next_block}
use Rattle.mappings.proofs.Firsts.{first_some, has_range}
use Rattle.mappings.proofs.Ports.{good, port_block}
use Rattle.mappings.proofs.Options.{none_not_some}
use Rattle.arrayvec.specs.ArrayVec.{ArrayVec}
use Rattle.tables.specs.declared.table.Table.{Table}
use Rattle.tables.specs.Given.{is_given}
use Rattle.tables.specs.Models.{config_of, model}
use Rattle.tables.specs.Rows.{blocks_in}
use Rattle.tables.proofs.Places.{get_d_through}

-- what was read of the table's rows is the subscriber's further blocks
pub row_read : (xs : List (ArrayVec ℕ)) (n i : ℕ) (f : ArrayVec ℕ) → i ≡ n → n < length xs → f ≡ get_or xs i f → get_or (map blocks_in xs) n [] ≡ blocks_in f
row_read xs n i f same within e = get_or-map blocks_in xs n f [] within ∙ ap blocks_in (ap (λ k. get_or xs k f) (sym same) ∙ sym e)

-- a port that was found among a subscriber's is an external one
pub port_high : (t : Table) (n : ℕ) (f : ℕ → Bool) (p : ℕ) → first f (ports_of (config_of t) (model t) n) ≡ Some p → lowest_port ≤ p
port_high t n f p e = (port_block (config_of t) (good (config_of t) t.settings.limits) (model t) n p (first_some f (ports_of (config_of t) (model t) n) p e).0).0

pub few_blocks : (s : Settings) → blocks_of (config s) ≤ 4032
few_blocks s = omega (arith, mul-le (blocks_of (config s)) 16 (blocks_of (config s)) s.size (omega arith) (known s).smallest, (known s).whole)

-- a subscriber's first block is one
pub one_block : (t : Table) (n : ℕ) → n < (config_of t).subscribers → (k : ℕ) → get_or (n ∷ []) k 0 < blocks_of (config_of t)
one_block t n low zero = let l = known t.settings in omega arith
one_block t n low (suc k) = let l = known t.settings in omega arith

-- a row gets one more block, and every block is still one
pub rows_given : (xs : List (ArrayVec ℕ)) (n b m : ℕ) (row : ArrayVec ℕ) → n < length xs → b < m → blocks_in row ≡ get_or (map blocks_in xs) n [] ++ b ∷ [] →
    ((i k : ℕ) → get_or (get_or (map blocks_in xs) i []) k 0 < m) → (i k : ℕ) → get_or (get_or (map blocks_in (set xs n row)) i []) k 0 < m
rows_given xs n b m row within small e all i k =
    subst (λ ys. get_or (get_or ys i []) k 0 < m) (sym (map-set blocks_in xs n row)) (⊎_elim here there (cases_eq i n))
  where
    old : List ℕ
    old = get_or (map blocks_in xs) n []

    at : (k < length old) ⊎ (length old ≤ k) → get_or (old ++ b ∷ []) k 0 < m
    at (inl low) = subst (λ x. x < m) (sym (get_or_append_left old (b ∷ []) 0 k low)) (all n k)
    at (inr high) = subst (λ x. x < m) (sym (get_or-append_right old (b ∷ []) (length old) k 0 refl high)) (behind (k - length old))
      where
        behind : (j : ℕ) → get_or (b ∷ []) j 0 < m
        behind zero = small
        behind (suc j) = omega arith

    here : i ≡ n → get_or (get_or (set (map blocks_in xs) n (blocks_in row)) i []) k 0 < m
    here h =
        subst (λ x. get_or x k 0 < m) (sym (ap (λ j. get_or (set (map blocks_in xs) n (blocks_in row)) j []) h
        ∙ get_or-set_same (map blocks_in xs) n (blocks_in row) [] (omega (arith, length-map xs blocks_in)) ∙ e)) (at (cases_lt k (length old)))

    there : (i ≡ n → ⊥) → get_or (get_or (set (map blocks_in xs) n (blocks_in row)) i []) k 0 < m
    there ne = subst (λ x. get_or x k 0 < m) (sym (get_or-set_other (map blocks_in xs) n i (blocks_in row) [] ne)) (all i k)

-- the bits agree with the holders after both were written for one block
pub agree_set : (ws vs : List ℕ) (hs : List (Option ℕ)) (b : ℕ) (v : Option ℕ) → b < length hs → ((i : ℕ) → is_given ws i ≡ is_some (get_or hs i None)) →
    is_given vs b ≡ is_some v → ((i : ℕ) → (i ≡ b → ⊥) → is_given vs i ≡ is_given ws i) → (i : ℕ) → is_given vs i ≡ is_some (get_or (set hs b v) i None)
agree_set ws vs hs b v within agree there others i =
    ⊎_elim
    (λ (e : i ≡ b). ap (is_given vs) e ∙ there ∙ sym (ap (λ j. is_some (get_or (set hs b v) j None)) e ∙ ap is_some (get_or-set_same hs b v None within)))
    (λ (ne : i ≡ b → ⊥). others i ne ∙ agree i ∙ ap is_some (sym (get_or-set_other hs b i v None ne)))
    (cases_eq i b)

-- the block that is given is one
pub unheld_within : (t : Table) (b : ℕ) → first (is_unheld (model t).holders) (range (config_of t).subscribers (blocks_of (config_of t) - (config_of t).subscribers)) ≡ Some b → b < blocks_of (config_of t)
unheld_within t b e =
    let among = has_range (config_of t).subscribers (blocks_of (config_of t) - (config_of t).subscribers) b (first_some (is_unheld (model t).holders) _ b e).0 in
    omega (arith, among.1, (known t.settings).fits)

pub next_within : (t : Table) (n b : ℕ) → next_block (config_of t) (model t) n ≡ Some b → b < blocks_of (config_of t)
next_within t n b e = go (ltb (length (further_of (model t) n)) (config_of t).further) e
  where
    go : (q : Bool) → cond q (first (is_unheld (model t).holders) (range (config_of t).subscribers (blocks_of (config_of t) - (config_of t).subscribers))) None ≡ Some b → b < blocks_of (config_of t)
    go true k = unheld_within t b k
    go false k = none_not_some k

-- blocks that are kept are still blocks
kept_within : (p : ℕ → Bool) (m : ℕ) → 0 < m → (xs : List ℕ) → ((k : ℕ) → get_or xs k 0 < m) → (k : ℕ) → get_or (filter p xs) k 0 < m
kept_within p m some [] all k = some
kept_within p m some (x ∷ xs) all k = go (kept_within p m some xs (λ j. all (suc j))) (p x) k
  where
    go : ((j : ℕ) → get_or (filter p xs) j 0 < m) → (b : Bool) (j : ℕ) → get_or (cond b (x ∷ filter p xs) (filter p xs)) j 0 < m
    go later true zero = all 0
    go later true (suc j) = later j
    go later false j = later j

pub rows_kept : (p : ℕ → Bool) (m : ℕ) → 0 < m → (xs : List (List ℕ)) → ((n k : ℕ) → get_or (get_or xs n []) k 0 < m) → (n k : ℕ) → get_or (get_or (map (filter p) xs) n []) k 0 < m
rows_kept p m some xs all n k = subst (λ ys. get_or ys k 0 < m) (sym (get_d_through (filter p) xs n [])) (kept_within p m some (get_or xs n []) (all n) k)
