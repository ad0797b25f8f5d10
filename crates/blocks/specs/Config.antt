-- The settings of a gateway as plain numbers, and the limits that they keep.
use Rattle.std.specs.Prelude.{◌≡◌, ℕ, ◌+◌, ◌/◌, ◌^◌, Bool, true, ◌&&◌, ◌||◌, ◌==◌, nat_le, nat_lt}

-- external: the one address that the world sees; internal: the address of subscriber 0, the others' follow it;
-- size: ports in a block; further: how many further blocks a subscriber may have;
-- life: ticks that a mapping lives after its last packet outwards; rest: ticks after that before its port is used again
pub record Config : Type 0 where
  pub external : ℕ
  pub internal : ℕ
  pub subscribers : ℕ
  pub size : ℕ
  pub further : ℕ
  pub life : ℕ
  pub rest : ℕ

-- ports 1,024 to 65,535 are cut into blocks; the lower ones are never used
abbrev pub lowest_port : ℕ
lowest_port = 1024

abbrev pub ports : ℕ
ports = 64512

abbrev pub blocks_of : Config → ℕ
blocks_of c = ports / c.size

abbrev pub is_block_size : ℕ → Bool
is_block_size k = k == 16 || k == 32 || k == 64 || k == 128 || k == 256 || k == 512 || k == 1024

-- addresses have 32 bits, no subscriber's lies past their end, and the external address is no subscriber's
abbrev pub addresses_fit : Config → Bool
addresses_fit c =
    nat_lt c.external (2 ^ 32) && nat_lt c.internal (2 ^ 32) && nat_le (c.internal + c.subscribers) (2 ^ 32)
    && (nat_lt c.external c.internal || nat_le (c.internal + c.subscribers) c.external)

abbrev pub within_limits : Config → Bool
within_limits c =
    is_block_size c.size && nat_le c.subscribers 4032 && nat_le c.subscribers (blocks_of c) && nat_le c.further 4
    && nat_le 120 c.life && nat_le c.life 65535 && nat_le 1 c.rest && nat_le c.rest 65535 && addresses_fit c

abbrev pub Good : Config → Type 0
Good c = within_limits c ≡ true
