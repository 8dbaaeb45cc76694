use Rattle.std.proofs.Common.{◌≡◌, ◌+◌, ◌<◌, drop}
use Rattle.std.specs.Prelude.{MatchOption}
use Rattle.quicklist.specs.Chain.{elements}
use Rattle.quicklist.specs.Cursor.{IsCursor}
use Rattle.quicklist.specs.Equal.{equals}
use Rattle.quicklist.proofs.quick.Quick.count_from_tail.Given as goal

abbrev pub invariant-loop-index : goal.invariant-loop-index
invariant-loop-index g l = record {
  next : MatchOption l.place (l.index ≡ 0) (λ cursor. IsCursor (g.B.BlockStore.blocks l.store) l.self cursor × (cursor.index + 1 ≡ l.index));
  counted : l.many ≡ equals l.text (drop l.index (elements (g.B.BlockStore.blocks l.store) l.self));
  fewer : 0 < l.wanted → l.many < l.wanted;
}
