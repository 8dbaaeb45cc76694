-- A world without a key.
use Rattle.std.specs.Prelude.{◌≡◌, ℕ}
use Rattle.plain_world.specs.Worlds.{World, no_keys}

-- no database has a key, and this one is selected
abbrev pub IsEmpty : World → ℕ → Type 0
IsEmpty world selected = world ≡ record { bases = λ number. no_keys; selected = selected }
