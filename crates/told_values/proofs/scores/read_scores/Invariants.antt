use Rattle.std.proofs.Common.{◌≡◌, ◌≤◌, take}
use Rattle.std.specs.Prelude.{MatchOption}
use Rattle.std.specs.FinMap.{empty, len}
use Rattle.zset_object.specs.Scored.{scores, ranked}
use Rattle.zset_object.specs.Items.{IsCursor}
use Rattle.told_values.specs.Told.{scores_told}
use Rattle.told_values.proofs.Ranked.{gathered}
use Rattle.told_values.proofs.scores.read_scores.Given as goal

abbrev pub invariant-loop-index : goal.invariant-loop-index
invariant-loop-index g l =
    let m = g.B.BlockStore.blocks l.store in
    record {
      next : MatchOption l.place (len (scores m l.scored) ≤ l.index) (λ cursor. IsCursor m l.scored cursor × (cursor.rank ≡ l.index));
      so_far : scores_told l.read.entries ≡ gathered empty (take l.index (ranked m l.scored));
    }
