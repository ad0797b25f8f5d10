-- Settings that are written are read as the same, and the other way round.
use Rattle.std.proofs.Common.{◌≡◌, ℕ, ◌+◌, ◌^◌, ◌<◌, ◌≤◌, Bool, true, false, cond, eqb, List, [], ◌++◌, length, drop, Ok, Err, sym, refl, ap, ◌∙◌, arith, take-append-drop}
use Rattle.std.proofs.lemmas.List.{drop_all, drop-drop}
use Rattle.std.proofs.lemmas.Bool.{cond-true, eqb-true}
use Rattle.blocks.specs.Bytes.{AllBytes, number_at, bytes_of}
use Rattle.blocks.specs.Config.{Config, within_limits}
use Rattle.blocks.specs.Settings.{accepted, decoded, settings_bytes, SettingsReadBack}
use Rattle.blocks.specs.declared.refusal.Refusal.TheVariants.{Malformed, BadSettings}
use Rattle.blocks.proofs.BigEndian.{number_bytes_of, bytes_of_number}
use Rattle.blocks.proofs.Limits.{Limits, limits}

decodes : (c : Config) → Limits c → decoded (settings_bytes c) ≡ c
decodes c l =
    let size : c.size < 256 ^ 2 = omega (arith, l.largest) in
    let subscribers : c.subscribers < 256 ^ 2 = omega (arith, l.few) in
    let further : c.further < 256 ^ 1 = omega (arith, l.more) in
    let life : c.life < 256 ^ 2 = omega (arith, l.dies) in
    let rest : c.rest < 256 ^ 2 = omega (arith, l.returns) in
    λ i. record {
      external = number_bytes_of 4 c.external [] l.external i;
      internal = number_bytes_of 4 c.internal [] l.internal i;
      subscribers = number_bytes_of 2 c.subscribers [] subscribers i;
      size = number_bytes_of 2 c.size [] size i;
      further = number_bytes_of 1 c.further [] further i;
      life = number_bytes_of 2 c.life [] life i;
      rest = number_bytes_of 2 c.rest [] rest i;
    }

-- what is read was long enough, and is what the bytes say
read_as : {A E : Type 0} (b d : Bool) {x y : A} (e f : E) → cond b (cond d (Ok x) (Err e)) (Err f) ≡ Ok y → (b ≡ true) × (x ≡ y)
read_as true true e f h = (refl, cc)
read_as true false e f h = let z : ◌≡◌ {A = ℕ} 0 1 = cc in absurd (omega arith)
read_as false d e f h = let z : ◌≡◌ {A = ℕ} 0 1 = cc in absurd (omega arith)

-- a part, and what comes behind it
joined : (bs : List ℕ) (i n : ℕ) {rest : List ℕ} → AllBytes bs → i + n ≤ length bs → rest ≡ drop (i + n) bs → bytes_of n (number_at bs i n) ++ rest ≡ drop i bs
joined bs i n small h next =
    (λ j. bytes_of_number bs i n small h j ++ (next ∙ sym (drop-drop n i bs)) j) ∙ take-append-drop n (drop i bs)

encodes : (bs : List ℕ) → AllBytes bs → length bs ≡ 17 → settings_bytes (decoded bs) ≡ bs
encodes bs small long =
    let end : [] ≡ drop 17 bs = sym (drop_all 17 bs (omega arith)) in
    joined bs 0 4 small (omega arith) (joined bs 4 4 small (omega arith) (joined bs 8 2 small (omega arith) (joined bs 10 2 small (omega arith)
    (joined bs 12 1 small (omega arith) (joined bs 13 2 small (omega arith) (joined bs 15 2 small (omega arith) end))))))

pub settings_read_back : SettingsReadBack
settings_read_back = (
  λ c good. ap accepted (decodes c (limits c good)) ∙ cond-true (within_limits c) _ _ good,
  λ bs c small h.
      let was = read_as (eqb (length bs) 17) (within_limits (decoded bs)) BadSettings Malformed h in
      ap settings_bytes (sym was.1) ∙ encodes bs small (eqb-true (length bs) 17 was.0),
)
