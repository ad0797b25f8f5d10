-- How settings are read from their 17 bytes and written into them.
use Rattle.std.specs.Prelude.{◌≡◌, ℕ, cond, List, ◌++◌, length, Ok, Err, Result, ◌==◌}
use Rattle.blocks.specs.Bytes.{AllBytes, number_at, bytes_of}
use Rattle.blocks.specs.Config.{Config, Good, within_limits}
use Rattle.blocks.specs.declared.refusal.Refusal.{Refusal}
use Rattle.blocks.specs.declared.refusal.Refusal.TheVariants.{Malformed, BadSettings}
use Rattle.blocks.specs.declared.settings.Settings.{Settings}

-- the numbers that settings hold
abbrev pub config : Settings → Config
config s = record { external = s.external; internal = s.internal; subscribers = s.subscribers; size = s.size; further = s.further; life = s.life; rest = s.rest }

abbrev pub configs : Result Settings Refusal → Result Config Refusal
configs (Ok s) = Ok (config s)
configs (Err e) = Err e

abbrev pub accepted : Config → Result Config Refusal
accepted c = cond (within_limits c) (Ok c) (Err BadSettings)

abbrev pub decoded : List ℕ → Config
decoded bs = record {
  external = number_at bs 0 4;
  internal = number_at bs 4 4;
  subscribers = number_at bs 8 2;
  size = number_at bs 10 2;
  further = number_at bs 12 1;
  life = number_at bs 13 2;
  rest = number_at bs 15 2;
}

abbrev pub settings_in : List ℕ → Result Config Refusal
settings_in bs = cond (length bs == 17) (accepted (decoded bs)) (Err Malformed)

abbrev pub settings_bytes : Config → List ℕ
settings_bytes c =
    bytes_of 4 c.external ++ bytes_of 4 c.internal ++ bytes_of 2 c.subscribers ++ bytes_of 2 c.size ++ bytes_of 1 c.further
    ++ bytes_of 2 c.life ++ bytes_of 2 c.rest

-- settings that are written are read as the same, and bytes that are read as settings are written as the same
abbrev pub SettingsReadBack : Type 0
SettingsReadBack =
    ((c : Config) → Good c → settings_in (settings_bytes c) ≡ Ok c)
    × ((bs : List ℕ) (c : Config) → AllBytes bs → settings_in bs ≡ Ok c → settings_bytes c ≡ bs)
