use Rattle.std.proofs.Common.{w64, rules, sym}
use Rattle.std.specs.Prelude.{FitsSigned}
use Rattle.std.proofs.lemmas.Int.{to_z-of_z}
use Rattle.score_table.proofs.Ranked.{ranks_at}
use Rattle.score_table.proofs.table.ScoreTable.rank.Goals as goal

pub returns-in-Some : goal.returns-in-Some
returns-in-Some g c =
    let fits : FitsSigned w64 c.in-Some.score = search rules in
    let e = rw (to_z-of_z w64 c.in-Some.score fits) at c.rank_of.ensures in
    ranks_at (g.B.BlockStore.blocks c.args.store.now) c.args.self.now c.args.member.now c.in-Some.score _ c.rank_of.result c.requires (sym c.in-Some.ensures) e.found e.none
