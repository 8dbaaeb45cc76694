use Rattle.std.proofs.Common.{◌≡◌, sym, ◌∙◌, subst, arith}
use Rattle.zset_object.specs.Scored.{scores}
use Rattle.plain_world.specs.Parts.{IsReply}
use Rattle.plain_model.specs.ZsetSteps.{ranked, listed}
use Rattle.cmd_zsets.specs.Spans.{in_span}
use Rattle.cmd_zsets.proofs.Ranked.{ranked_counted}
use Rattle.cmd_zsets.proofs.Told.{span_listed, span_long, listed_reply}
use Rattle.cmd_zsets.proofs.spans.span_reply.Goals as goal

listed_here : (g : _) (c : goal.In_ok-push_span g) → c.push_span.new.parts ≡ listed c.args.with_scores (in_span c.args.span (ranked (scores (g.B.BlockStore.blocks c.args.store.now) c.args.zset.now)))
listed_here g c =
    let m = g.B.BlockStore.blocks c.args.store.now in
    let s = c.args.zset.now in
    let list = ranked (scores m s) in
    let long = ranked_counted m s c.requires.sound in
    span_listed c.args.with_scores (in_span c.args.span list) c.args.span.count _ c.push_span.new.parts (span_long c.args.span list (omega (arith, long, c.requires.inside)))
    c.in_ok-parts.ensures c.in_ok-push_span.ensures

pub into_reply-requires : goal.into_reply-requires
into_reply-requires g c = subst IsReply (sym (listed_here g c)) (listed_reply c.args.with_scores (in_span c.args.span (ranked (scores (g.B.BlockStore.blocks c.args.store.now) c.args.zset.now))))

pub returns : goal.returns
returns g c = c.into_reply.ensures ∙ listed_here g c.before
