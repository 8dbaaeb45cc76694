-- Worlds with fewer keys.
use Rattle.plain_world.specs.Worlds.{World, with_base, no_keys}
-- the world in which nothing stands at a key of the selected database (Redis command reference, DEL)
pub use Rattle.plain_world.specs.Worlds.{remove as without}

-- the world in which the selected database has no key (Redis command reference, FLUSHDB)
abbrev pub emptied : World → World
emptied world = with_base world no_keys
