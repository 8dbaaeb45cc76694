use Rattle.std.proofs.Common.{◌≡◌, ◌<◌, ◌≤◌, length, take}
use Rattle.std.specs.Prelude.{MatchOption}
use Rattle.quicklist.specs.Chain.{elements}
use Rattle.quicklist.specs.Cursor.{IsCursor}
use Rattle.quicklist.specs.Equal.{equals}
use Rattle.quicklist.proofs.quick.Quick.count_from_head.Given as goal

abbrev pub invariant-loop-index : goal.invariant-loop-index
invariant-loop-index g l = record {
  next : MatchOption l.place (length (elements (g.B.BlockStore.blocks l.store) l.self) ≤ l.index) (λ cursor. IsCursor (g.B.BlockStore.blocks l.store) l.self cursor × (cursor.index ≡ l.index));
  counted : l.many ≡ equals l.text (take l.index (elements (g.B.BlockStore.blocks l.store) l.self));
  fewer : 0 < l.wanted → l.many < l.wanted;
}
