-- What a key table means over a store.
pub use Rattle.held.specs.Table.{no_keys as no_table, map_of}
