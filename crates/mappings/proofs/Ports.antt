-- Which block a port lies in, and which ports a subscriber may use.
use Rattle.std.proofs.Common.{◌≡◌, ℕ, ◌+◌, ◌<◌, ◌≤◌, true, leb, ◌⊎◌, List, [], ◌∷◌, refl, subst, inl, inr, ⊎_elim, arith}
use mathlib.Core.List.Memᴰ
use mathlib.Core.List.{Memᴰ}
use native.Mathlib.Nat.{div-eq_of_lt-le}
use Rattle.std.specs.List.{flat_map}
use Rattle.std.proofs.lemmas.Bool.Decides.{nat_tests}
use Rattle.std.proofs.lemmas.Bool.{and_parts, leb-true}
use Rattle.blocks.specs.Config.{Config, within_limits, is_block_size, addresses_fit, lowest_port, blocks_of}
use Rattle.blocks.specs.Ports.{block_of, port_of}
use Rattle.mappings.specs.States.{State, block_ports, further_of, ports_of}
use Rattle.mappings.proofs.Firsts.{range_has, has_range}

-- what the limits of the settings give here
pub record Good (c : Config) : Type 0 where
  pub some : 0 < c.size
  pub fit : c.subscribers ≤ blocks_of c

size_some : (k : ℕ) → is_block_size k ≡ true → 0 < k
size_some k e = grind (arith, nat_tests)

pub good : (c : Config) → within_limits c ≡ true → Good c
good c e =
    let a = (and_parts _ (addresses_fit c) e).0 in
    let b = (and_parts _ (leb c.rest 65535) a).0 in
    let d = (and_parts _ (leb 1 c.rest) b).0 in
    let f = (and_parts _ (leb c.life 65535) d).0 in
    let g = (and_parts _ (leb 120 c.life) f).0 in
    let h = (and_parts _ (leb c.further 4) g).0 in
    let i = and_parts _ (leb c.subscribers (blocks_of c)) h in
    let j = (and_parts _ (leb c.subscribers 4032) i.0).0 in
    record { some = size_some c.size j; fit = leb-true c.subscribers (blocks_of c) i.1 }

pub in_block : (c : Config) → Good c → (b p : ℕ) → Memᴰ p (block_ports c b) → (lowest_port ≤ p) × (block_of c p ≡ b)
in_block c g b p i =
    let h : (port_of c b 0 ≤ p) × (p < port_of c b 0 + c.size) = has_range (port_of c b 0) c.size p i in
    (omega arith, div-eq_of_lt-le {k = b} c.size (omega arith) (omega arith))

pub block_has : (c : Config) → Good c → (p : ℕ) → lowest_port ≤ p → Memᴰ p (block_ports c (block_of c p))
block_has c g p l = range_has (port_of c (block_of c p) 0) c.size p (omega arith) (omega arith)

pub joined_has : (f : ℕ → List ℕ) (bs : List ℕ) (b p : ℕ) → Memᴰ b bs → Memᴰ p (f b) → Memᴰ p (flat_map f bs)
joined_has f [] b p i j = elim i [ ]
joined_has f (x ∷ bs) b p i j =
    ⊎_elim (λ (e : b ≡ x). Memᴰ.append_left (flat_map f bs) (subst (λ y. Memᴰ p (f y)) e j)) (λ (k : Memᴰ b bs). Memᴰ.append_right (f x) (joined_has f bs b p k j)) (Memᴰ.cases_cons i)

pub has_joined : (f : ℕ → List ℕ) (bs : List ℕ) (p : ℕ) → Memᴰ p (flat_map f bs) → (b : ℕ) × Memᴰ b bs × Memᴰ p (f b)
has_joined f [] p i = elim i [ ]
has_joined f (x ∷ bs) p i = go (has_joined f bs p) (Memᴰ.append_cases (f x) i)
  where
    go : (Memᴰ p (flat_map f bs) → (b : ℕ) × Memᴰ b bs × Memᴰ p (f b)) → Memᴰ p (f x) ⊎ Memᴰ p (flat_map f bs) → (b : ℕ) × Memᴰ b (x ∷ bs) × Memᴰ p (f b)
    go later (inl j) = (x, Memᴰ.head refl, j)
    go later (inr j) = ((later j).0, Memᴰ.tail (later j).1, (later j).2)

-- the blocks that a subscriber has
abbrev pub blocks_for : State → ℕ → List ℕ
blocks_for s n = n ∷ further_of s n

pub port_block : (c : Config) → Good c → (s : State) (n p : ℕ) → Memᴰ p (ports_of c s n) → (lowest_port ≤ p) × Memᴰ (block_of c p) (blocks_for s n)
port_block c g s n p i =
    let j = has_joined (block_ports c) (blocks_for s n) p i in
    let k = in_block c g j.0 p j.2 in
    (k.0, Memᴰ.cast k.1 j.1)

pub block_port : (c : Config) → Good c → (s : State) (n p : ℕ) → lowest_port ≤ p → Memᴰ (block_of c p) (blocks_for s n) → Memᴰ p (ports_of c s n)
block_port c g s n p l i = joined_has (block_ports c) (blocks_for s n) (block_of c p) p i (block_has c g p l)
