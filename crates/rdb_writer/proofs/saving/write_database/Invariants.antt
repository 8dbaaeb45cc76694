use Rattle.std.proofs.Common.{ℕ, ◌≤◌, List}
use Rattle.rdb_parts.specs.Pens.{Adds}
use Rattle.rdb_writer.specs.Saving.{Saves}
use Rattle.rdb_writer.proofs.saving.write_database.Given as goal

abbrev pub invariant-loop-at : goal.invariant-loop-at
invariant-loop-at g l = record {
  word : List ℕ;
  so_far : Adds (g.F.Shelf.seen l.fn.shelf) (g.F.Shelf.seen l.shelf) l.fn.pen l.pen word;
  saves : Saves l.keyspace.bases (g.B.BlockStore.blocks l.keyspace.store) l.moment l.db 0 0 l.db l.at l.count word;
  few : l.count ≤ l.at;
}
