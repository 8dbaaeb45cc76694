use Rattle.std.proofs.Common.{◌≡◌, ◌+◌, ◌≤◌, take, drop}
use Rattle.std.specs.Prelude.{MatchOption}
use Rattle.std.specs.FinMap.{len}
use Rattle.zset_object.specs.Scored.{scores}
use Rattle.zset_object.specs.Items.{IsCursor}
use Rattle.plain_model.specs.ZsetSteps.{ranked}
use Rattle.cmd_zsets.proofs.spans.walk.Given as goal

abbrev pub invariant-loop-index : goal.invariant-loop-index
invariant-loop-index g l =
    let m = g.B.BlockStore.blocks l.store in
    let map = scores m l.zset in
    record {
      next : MatchOption l.place (len map ≤ l.rank + l.index) (λ cursor. IsCursor m l.zset cursor × (cursor.rank ≡ l.rank + l.index));
      so_far : l.met.items ≡ take l.index (drop l.rank (ranked map));
    }
