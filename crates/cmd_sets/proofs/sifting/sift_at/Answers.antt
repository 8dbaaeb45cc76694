use Rattle.std.proofs.Common.{IfOk, sym, subst, ◌∙◌}
use Rattle.plain_model.specs.SetSteps.{Members}
use Rattle.keyspace.specs.Commands.{visible}
use Rattle.cmd_sets.specs.Joined.{Sifts}
use Rattle.cmd_sets.proofs.Joined.{missing_at, other_at, found_at}
use Rattle.cmd_sets.proofs.sifting.sift_at.Goals as goal

pub sift-requires : goal.sift-requires
sift-requires g c = record { sound = c.in-There.ensures.sound }

pub sift-requires-in-Missing : goal.sift-requires-in-Missing
sift-requires-in-Missing g c = record { sound = c.new-none.ensures.sound _ }

pub sift-requires-in-Other : goal.sift-requires-in-Other
sift-requires-in-Other g c = record { sound = c.new-none-in-Other.ensures.sound _ }

pub returns-in-There : goal.returns-in-There
returns-in-There g c =
    let world = visible g.B.BlockStore.blocks c.args.keyspace.now c.args.at.now in
    subst (λ (s : Members). IfOk c.sift.result (λ kept. Sifts c.args.there s c.args.names.items kept.items))
    (sym (found_at world (g.B.BlockStore.blocks c.args.keyspace.now.store) c.args.key.now _ c.in-There.ensures))
    c.sift.ensures

pub returns-in-Missing : goal.returns-in-Missing
returns-in-Missing g c =
    let world = visible g.B.BlockStore.blocks c.args.keyspace.now c.args.at.now in
    subst (λ (s : Members). IfOk c.sift-in-Missing.result (λ kept. Sifts c.args.there s c.args.names.items kept.items))
    (c.new-none.ensures.empty (g.B.BlockStore.blocks c.args.keyspace.now.store) ∙ sym (missing_at world c.args.key.now (rw c.in-Missing.is at c.set_at.ensures)))
    c.sift-in-Missing.ensures

pub returns-in-Other : goal.returns-in-Other
returns-in-Other g c =
    let world = visible g.B.BlockStore.blocks c.args.keyspace.now c.args.at.now in
    subst (λ (s : Members). IfOk c.sift-in-Other.result (λ kept. Sifts c.args.there s c.args.names.items kept.items))
    (c.new-none-in-Other.ensures.empty (g.B.BlockStore.blocks c.args.keyspace.now.store) ∙ sym (other_at world c.args.key.now c.in-Other.ensures))
    c.sift-in-Other.ensures
