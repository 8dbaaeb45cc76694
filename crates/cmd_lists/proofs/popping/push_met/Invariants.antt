use Rattle.std.proofs.Common.{◌≡◌, ◌≤◌, ◌++◌, length, take, map}
use Rattle.std.specs.Prelude.{MatchOption}
use Rattle.quicklist.specs.Chain.{elements}
use Rattle.quicklist.specs.Cursor.{IsCursor}
use Rattle.plain_world.specs.declared.reply.Part.TheVariants.{Bulk}
use Rattle.plain_model.specs.ListSteps.{from_end, index_from}
use Rattle.cmd_lists.proofs.popping.push_met.Given as goal

abbrev pub invariant-loop-index : goal.invariant-loop-index
invariant-loop-index g l =
    let m = g.B.BlockStore.blocks l.store in
    record {
      next : MatchOption l.place (length (elements m l.list) ≤ l.index) (λ cursor. IsCursor m l.list cursor × (cursor.index ≡ index_from l.end (length (elements m l.list)) l.index));
      so_far : l.parts ≡ l.fn.parts ++ map Bulk (take l.index (from_end l.end (elements m l.list)));
    }
