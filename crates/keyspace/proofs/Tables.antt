pub use Rattle.held.proofs.Tables.{map_of_empty}
