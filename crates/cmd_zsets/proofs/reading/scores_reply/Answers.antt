use Rattle.std.proofs.Common.{◌∙◌}
use Rattle.cmd_zsets.specs.Found.{scores_in}
use Rattle.cmd_zsets.proofs.Told.{scores_parts, scores_reply}
use Rattle.cmd_zsets.proofs.reading.scores_reply.Goals as goal

pub into_reply-requires : goal.into_reply-requires
into_reply-requires g c = scores_reply (scores_in (g.B.BlockStore.blocks c.args.store.now) c.args.zset) c.args.members.now _ _ c.in_ok-parts.ensures c.in_ok-push_scores.ensures

pub returns : goal.returns
returns g c = c.into_reply.ensures ∙ scores_parts (scores_in (g.B.BlockStore.blocks c.args.store.now) c.args.zset) c.args.members.now _ _ c.in_ok-parts.ensures
    c.in_ok-push_scores.ensures
