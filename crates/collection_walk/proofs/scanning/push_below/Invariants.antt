use Rattle.std.proofs.Common.{◌≡◌, ◌++◌}
use Rattle.rehash_dict.specs.Scan.{Extends}
use Rattle.collection_walk.specs.Places.{upto}
use Rattle.collection_walk.proofs.scanning.push_below.Given as goal

abbrev pub invariant-loop-index : goal.invariant-loop-index
invariant-loop-index l = record {
  all : l.found.items ≡ l.initial.found.items ++ upto l.index;
  kept : Extends l.initial.found.items l.found.items;
}
