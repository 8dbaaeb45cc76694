use Rattle.std.proofs.Common.{◌∙◌}
use Rattle.score_table.proofs.Edits.{changed_then}
use Rattle.zset_object.proofs.removing.take_out.Goals as goal

pub returns-in_ok-shrink-in-Some-clause-removed : goal.returns-in_ok-shrink-in-Some-clause-removed
returns-in_ok-shrink-in-Some-clause-removed g c =
    let m = g.B.BlockStore.blocks c.args.store.now in
    let n = g.B.BlockStore.blocks c.take_out.new.store in
    let q = c.shrink.ensures.changed n c.in-Some.ensures.removed.sound in
    λ _. record {
      sound = q.sound;
      scores_are = q.scores_are ∙ c.in-Some.ensures.removed.scores_are;
      changes = (changed_then m n n c.args.table.now c.take_out.new.self c.shrink.new.self _ _ c.in-Some.ensures.removed q).changes;
      grown = (changed_then m n n c.args.table.now c.take_out.new.self c.shrink.new.self _ _ c.in-Some.ensures.removed q).grown;
      seed = q.seed ∙ c.in-Some.ensures.removed.seed;
    }

pub returns-in_ok-shrink-in-Some-clause-settled : goal.returns-in_ok-shrink-in-Some-clause-settled
returns-in_ok-shrink-in-Some-clause-settled g c = λ _. c.in_ok-shrink-in-Some.ensures.settled (g.B.BlockStore.blocks c.take_out.new.store)
