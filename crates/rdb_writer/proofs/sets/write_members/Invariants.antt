use Rattle.std.proofs.Common.{◌≡◌, ◌≤◌, length, take}
use Rattle.std.specs.Prelude.{MatchOption}
use Rattle.set_object.specs.Members.{listed}
use Rattle.set_object.specs.Items.{IsCursor}
use Rattle.rdb_parts.specs.Pens.{Adds}
use Rattle.rdb_parts.specs.Words.{strings_word}
use Rattle.rdb_writer.proofs.sets.write_members.Given as goal

abbrev pub invariant-loop-index : goal.invariant-loop-index
invariant-loop-index g l =
    let m = g.B.BlockStore.blocks l.store in
    record {
      next : MatchOption l.place (length (listed m l.set) ≤ l.index) (λ cursor. IsCursor m l.set cursor × (cursor.index ≡ l.index));
      so_far : Adds (g.F.Shelf.seen l.fn.shelf) (g.F.Shelf.seen l.shelf) l.fn.pen l.pen (strings_word (take l.index (listed m l.set)));
    }
