-- Worlds with fewer keys.
pub use Rattle.held.specs.Worlds.{without, emptied}
