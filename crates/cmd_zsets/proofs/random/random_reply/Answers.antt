use Rattle.std.proofs.Common.{◌≡◌, ℕ, List, is_some, IfOk, ap, subst}
use Rattle.std.specs.Prelude.{IsSome}
use Rattle.zset_object.specs.Scored.{IsScored}
use Rattle.zset_object.specs.Items.{pair_at}
use Rattle.picking.proofs.Elements.{are_real}
use Rattle.plain_model.specs.ZsetSteps.{listed}
use Rattle.cmd_zsets.specs.Picked.{pairs_of, first_told}
use Rattle.cmd_zsets.proofs.Picking.{first_picked, many_picked}
use Rattle.cmd_zsets.proofs.random.random_reply.Goals as goal

pub returns-in-None : goal.returns-in-None
returns-in-None g c =
    let m = g.B.BlockStore.blocks c.args.store.now in
    let zset = c.args.zset.now in
    first_picked m zset c.requires.sound c.args.n c.args.with_scores c.in_ok-items.items.items c.in_ok-items.ensures c.in-None.is c.first_reply.result
    (subst (λ (l : List ℕ). IfOk c.first_reply.result (λ reply. reply ≡ first_told (pairs_of (λ at. pair_at m zset at) l))) c.deref.ensures.value c.first_reply.ensures)

pub returns : goal.returns
returns g c =
    let m = g.B.BlockStore.blocks c.args.store.now in
    let zset = c.args.zset.now in
    let items = c.in_ok-items.items.items in
    let real = are_real (λ blocks. IsScored blocks zset) (λ blocks at. IsSome (pair_at blocks zset at)) c.args.n items c.in_ok-items.ensures m c.requires.sound in
    many_picked m zset c.requires.sound c.args.n c.args.with_scores items c.in_ok-items.ensures (ap is_some c.in-Some.is) real c.items_reply.result
    (subst (λ (l : List ℕ). IfOk c.items_reply.result (λ reply. reply ≡ listed c.args.with_scores (pairs_of (λ at. pair_at m zset at) l))) c.deref-in-Some.ensures.value c.items_reply.ensures)
