use Rattle.std.proofs.Common.{◌≡◌, ◌≤◌, take}
use Rattle.std.specs.Prelude.{MatchOption}
use Rattle.std.specs.FinMap.{len}
use Rattle.zset_object.specs.Scored.{scores, ranked}
use Rattle.zset_object.specs.Items.{IsCursor}
use Rattle.rdb_parts.specs.Pens.{Adds}
use Rattle.rdb_writer.specs.Collections.{members_word}
use Rattle.rdb_writer.proofs.sorted.write_ranked.Given as goal

abbrev pub invariant-loop-index : goal.invariant-loop-index
invariant-loop-index g l =
    let m = g.B.BlockStore.blocks l.store in
    record {
      next : MatchOption l.place (len (scores m l.scored) ≤ l.index) (λ cursor. IsCursor m l.scored cursor × (cursor.rank ≡ l.index));
      so_far : Adds (g.F.Shelf.seen l.fn.shelf) (g.F.Shelf.seen l.shelf) l.fn.pen l.pen (members_word (take l.index (ranked m l.scored)));
    }
