-- Entries that were taken out of a stream.
use Rattle.std.specs.Prelude.{◌≡◌, ℕ, ◌-◌, length}
use Rattle.plain_world.specs.Streams.{Stream}

-- A stream became another one, and so many entries fewer are there.
pub record Removes (change : Stream → Stream) (gone : ℕ) (old new : Stream) : Type 0 where
  pub is : new ≡ change old
  pub counted : gone ≡ length old.entries - length new.entries
