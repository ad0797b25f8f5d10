-- Blocks of ports, who has which first block, and subscribers' addresses: all by arithmetic.
use Rattle.std.specs.Prelude.{◌≡◌, ℕ, ◌+◌, ◌-◌, ◌*◌, ◌/◌, ◌%◌, ◌^◌, ◌<◌, ◌≤◌, Bool, true, false, cond, ◌&&◌, ◌⊎◌, Some, None, Option, nat_le, nat_lt}
use Rattle.blocks.specs.Config.{Config, Good, lowest_port, blocks_of}
use Rattle.blocks.specs.declared.place.Place.{Place}

abbrev pub block_of : Config → ℕ → ℕ
block_of c p = (p - lowest_port) / c.size

abbrev pub offset_of : Config → ℕ → ℕ
offset_of c p = (p - lowest_port) % c.size

abbrev pub port_of : Config → ℕ → ℕ → ℕ
port_of c b o = lowest_port + b * c.size + o

-- where a port lies; those below the lowest lie in no block
abbrev pub place_of : Config → ℕ → Option Place
place_of c p = cond (nat_le lowest_port p) (Some (record { block = block_of c p; offset = offset_of c p })) None

-- which port lies there
abbrev pub port_at : Config → Place → Option ℕ
port_at c q = cond (nat_lt q.block (blocks_of c) && nat_lt q.offset c.size) (Some (port_of c q.block q.offset)) None

-- subscriber s has block s as its first block; the blocks from the number of subscribers on are further ones
abbrev pub first_holder : Config → ℕ → Option ℕ
first_holder c b = cond (nat_lt b c.subscribers) (Some b) None

abbrev pub is_further : Config → ℕ → Bool
is_further c b = nat_le c.subscribers b && nat_lt b (blocks_of c)

-- subscribers' addresses are consecutive
abbrev pub address_of : Config → ℕ → Option ℕ
address_of c s = cond (nat_lt s c.subscribers) (Some (c.internal + s)) None

abbrev pub subscriber_at : Config → ℕ → Option ℕ
subscriber_at c a = cond (nat_le c.internal a && nat_lt a (c.internal + c.subscribers)) (Some (a - c.internal)) None

-- every port from the lowest on has its place, and ports and places are each other's
abbrev pub PortsArePlaces : Type 0
PortsArePlaces =
    (c : Config) → Good c →
    ((p : ℕ) → lowest_port ≤ p → p < 2 ^ 16 → (q : Place) × (place_of c p ≡ Some q) × (port_at c q ≡ Some p))
    × ((q : Place) (p : ℕ) → port_at c q ≡ Some p → (place_of c p ≡ Some q) × (p < 2 ^ 16))

-- whoever has an address, or a first block, has it alone; and the external address is nobody's
abbrev pub OneSubscriber : Type 0
OneSubscriber =
    (c : Config) → Good c →
    ((s a : ℕ) → address_of c s ≡ Some a → subscriber_at c a ≡ Some s)
    × ((s a : ℕ) → subscriber_at c a ≡ Some s → address_of c s ≡ Some a)
    × ((s b t : ℕ) → first_holder c b ≡ Some s → first_holder c t ≡ Some s → b ≡ t)
    × (subscriber_at c c.external ≡ None)

-- each block is somebody's first block or a further one, and none is both
abbrev pub FirstOrFurther : Type 0
FirstOrFurther =
    (c : Config) → Good c → (b : ℕ) → b < blocks_of c →
    ((first_holder c b ≡ Some b) × (is_further c b ≡ false)) ⊎ ((first_holder c b ≡ None) × (is_further c b ≡ true))
