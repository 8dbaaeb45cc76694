use Rattle.std.proofs.Common.{drop}
use Rattle.keyspace.specs.Sifted.{PassesOf}
use Rattle.keyspace.proofs.Sifting.{SoFar}
use Rattle.keyspace.proofs.paging.words_like.Given as goal

abbrev pub invariant-loop-item : goal.invariant-loop-item
invariant-loop-item g l =
    SoFar (PassesOf (g.P.Paged.name_at (g.B.BlockStore.blocks l.store) l.target) l.pattern) (g.P.Paged.words_of (g.B.BlockStore.blocks l.store) l.target) l.items
    (drop l.item-index l.items) l.words.items
