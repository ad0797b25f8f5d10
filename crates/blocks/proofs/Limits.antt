-- What good settings say, fact by fact.
use Rattle.std.proofs.Common.{◌≡◌, ℕ, ◌+◌, ◌*◌, ◌/◌, ◌^◌, ◌<◌, ◌≤◌, Bool, true, ◌||◌, eqb, ltb, leb, ◌⊎◌, sym, refl, ap, subst, inl, inr, ⊎_elim, mul_comm, arith, lit≤}
use Rattle.std.proofs.lemmas.Bool.{and_parts, or_cases, leb-true, ltb-true, eqb-true}
use Rattle.std.proofs.lemmas.Nat.{mul-add-lt}
use Rattle.blocks.specs.declared.settings.Settings.{Settings}
use Rattle.blocks.specs.Config.{Config, Good, is_block_size, addresses_fit, blocks_of, ports}
use Rattle.blocks.specs.Settings.{config}

pub record Limits (c : Config) : Type 0 where
  pub smallest : 16 ≤ c.size
  pub largest : c.size ≤ 1024
  pub whole : blocks_of c * c.size ≡ ports
  pub few : c.subscribers ≤ 4032
  pub fits : c.subscribers ≤ blocks_of c
  pub more : c.further ≤ 4
  pub lives : 120 ≤ c.life
  pub dies : c.life ≤ 65535
  pub rests : 1 ≤ c.rest
  pub returns : c.rest ≤ 65535
  pub external : c.external < 2 ^ 32
  pub internal : c.internal < 2 ^ 32
  pub within : c.internal + c.subscribers ≤ 2 ^ 32
  pub apart : (c.external < c.internal) ⊎ (c.internal + c.subscribers ≤ c.external)

-- a block size is one of seven numbers, each of which divides the number of ports
pub record Size (k : ℕ) : Type 0 where
  pub smallest : 16 ≤ k
  pub largest : k ≤ 1024
  pub whole : ports / k * k ≡ ports

is_or : (k n : ℕ) (b : Bool) → Size n → (b ≡ true → Size k) → (b || eqb k n) ≡ true → Size k
is_or k n b s before h = ⊎_elim before (λ e. subst Size (sym (eqb-true k n e)) s) (or_cases b (eqb k n) h)

abbrev at : (n : ℕ) → 16 ≤ n → n ≤ 1024 → ports / n * n ≡ ports → Size n
at n low high whole = record { smallest = low; largest = high; whole = whole }

pub sizes : (k : ℕ) → is_block_size k ≡ true → Size k
sizes k =
    is_or k 1024 _ (at 1024 (lit≤ tt) (lit≤ tt) refl) (is_or k 512 _ (at 512 (lit≤ tt) (lit≤ tt) refl) (is_or k 256 _ (at 256 (lit≤ tt) (lit≤ tt) refl)
    (is_or k 128 _ (at 128 (lit≤ tt) (lit≤ tt) refl) (is_or k 64 _ (at 64 (lit≤ tt) (lit≤ tt) refl) (is_or k 32 _ (at 32 (lit≤ tt) (lit≤ tt) refl)
    (λ e. subst Size (sym (eqb-true k 16 e)) (at 16 (lit≤ tt) (lit≤ tt) refl)))))))

pub limits : (c : Config) → Good c → Limits c
limits c good =
    let i = and_parts _ (addresses_fit c) good in
    let h = and_parts _ (leb c.rest 65535) i.0 in
    let g = and_parts _ (leb 1 c.rest) h.0 in
    let f = and_parts _ (leb c.life 65535) g.0 in
    let e = and_parts _ (leb 120 c.life) f.0 in
    let d = and_parts _ (leb c.further 4) e.0 in
    let b = and_parts _ (leb c.subscribers (blocks_of c)) d.0 in
    let a = and_parts (is_block_size c.size) (leb c.subscribers 4032) b.0 in
    let r = and_parts _ (ltb c.external c.internal || leb (c.internal + c.subscribers) c.external) i.1 in
    let q = and_parts _ (leb (c.internal + c.subscribers) (2 ^ 32)) r.0 in
    let p = and_parts (ltb c.external (2 ^ 32)) (ltb c.internal (2 ^ 32)) q.0 in
    let size = sizes c.size a.0 in
    record {
      smallest = size.smallest;
      largest = size.largest;
      whole = size.whole;
      few = leb-true _ _ a.1;
      fits = leb-true _ _ b.1;
      more = leb-true _ _ d.1;
      lives = leb-true _ _ e.1;
      dies = leb-true _ _ f.1;
      rests = leb-true _ _ g.1;
      returns = leb-true _ _ h.1;
      external = ltb-true _ _ p.0;
      internal = ltb-true _ _ p.1;
      within = leb-true _ _ q.1;
      apart = ⊎_elim (λ t. inl (ltb-true _ _ t)) (λ t. inr (leb-true _ _ t)) (or_cases _ _ r.1);
    }

pub known : (s : Settings) → Limits (config s)
known s = limits (config s) s.limits

-- the ports of the blocks are as many as there are ports
pub port_small : (c : Config) → Limits c → (n b o : ℕ) → n ≡ blocks_of c → b < n → o < c.size → b * c.size + o < ports
port_small c l n b o all low inside = omega (arith, mul-add-lt b c.size o n low inside, l.whole, mul_comm c.size n, ap (λ m. m * c.size) all)
