use Rattle.std.proofs.Common.{◌≤◌, ◌-◌, length, take}
use Rattle.rdb_parts.specs.Shelves.{PutsAll}
use Rattle.rdb_parts.proofs.writing.put_all.Given as goal

abbrev pub invariant-pieces : goal.invariant-pieces
invariant-pieces g l = record {
  bytes : PutsAll (g.F.Shelf.seen l.fn.shelf) (g.F.Shelf.seen l.shelf) (take l.at l.piece);
  within : l.at ≤ length l.piece;
}

abbrev pub decreases-pieces : goal.decreases-pieces
decreases-pieces g l = length l.piece - l.at
