use Rattle.score_table.proofs.Ranked.{rank_names}
use Rattle.score_table.proofs.table.ScoreTable.at_rank.Goals as goal

pub returns : goal.returns
returns c = λ m is. rw c.at_rank.ensures (rank_names m c.args.self.now c.args.rank is)
