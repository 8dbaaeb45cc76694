use Rattle.std.proofs.Common.{◌≤◌, subst}
use Rattle.std.specs.Prelude.{MatchOption}
use Rattle.score_list.specs.Cursor.{IsCursor}
use Rattle.score_table.proofs.Ranked.{counted}
use Rattle.score_table.proofs.table.ScoreTable.cursor.Goals as goal

pub returns-clause-none : goal.returns-clause-none
returns-clause-none c = λ m is. subst (λ n. MatchOption c.cursor.result (n ≤ c.args.rank) (λ cursor. IsCursor cursor c.args.self.now.list c.args.rank)) (counted m c.args.self.now is) c.cursor.ensures
