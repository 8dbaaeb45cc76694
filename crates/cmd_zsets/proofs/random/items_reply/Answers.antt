use Rattle.std.proofs.Common.{◌≡◌, ℕ, Option, sym, ◌∙◌, subst}
use Rattle.zset_object.specs.Items.{pair_at}
use Rattle.plain_world.specs.Parts.{IsReply}
use Rattle.plain_model.specs.ZsetSteps.{Scored, listed}
use Rattle.cmd_zsets.specs.Picked.{pairs_of}
use Rattle.cmd_zsets.proofs.Told.{span_listed, listed_reply}
use Rattle.cmd_zsets.proofs.Picking.{pairs_long}
use Rattle.cmd_zsets.proofs.random.items_reply.Goals as goal

pub into_reply-requires : goal.into_reply-requires
into_reply-requires g c =
    let f : ℕ → Option Scored = λ at. pair_at (g.B.BlockStore.blocks c.args.store.now) c.args.zset.now at in
    let all = pairs_of f c.args.items.now in
    let told : c.push_items.new.parts ≡ listed c.args.with_scores all =
    span_listed c.args.with_scores all _ _ c.push_items.new.parts (pairs_long f c.args.items.now) c.in_ok-parts.ensures c.in_ok-push_items.ensures in
    subst IsReply (sym told) (listed_reply c.args.with_scores all)

pub returns : goal.returns
returns g c =
    let f : ℕ → Option Scored = λ at. pair_at (g.B.BlockStore.blocks c.args.store.now) c.args.zset.now at in
    c.into_reply.ensures
    ∙ span_listed c.args.with_scores (pairs_of f c.args.items.now) _ _ c.push_items.new.parts (pairs_long f c.args.items.now) c.in_ok-parts.ensures c.in_ok-push_items.ensures
