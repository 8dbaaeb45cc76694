use Rattle.std.proofs.Common.{◌≡◌, ◌≤◌, length, take}
use Rattle.std.specs.Prelude.{MatchOption}
use Rattle.quicklist.specs.Chain.{elements}
use Rattle.quicklist.specs.Cursor.{IsCursor}
use Rattle.told_values.specs.Told.{texts_told}
use Rattle.told_values.proofs.lists.read_list.Given as goal

abbrev pub invariant-loop-index : goal.invariant-loop-index
invariant-loop-index g l =
    let m = g.B.BlockStore.blocks l.store in
    record {
      next : MatchOption l.place (length (elements m l.list) ≤ l.index) (λ cursor. IsCursor m l.list cursor × (cursor.index ≡ l.index));
      so_far : texts_told l.texts.items ≡ take l.index (elements m l.list);
    }
