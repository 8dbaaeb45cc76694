use Rattle.std.proofs.Common.{drop, subst, arith, ◌+◌}
use Rattle.plain_model.specs.Scans.{keys_sought}
use Rattle.keyspace.specs.Shown.{PassesAt}
use Rattle.keyspace.proofs.Sifting.{Completes, completes_next, completes_last, drop_next, drop_none}
use Rattle.cmd_keys.proofs.keys.scanning.passing_of.Goals as goal

pub loop-item-preserved : goal.loop-item-preserved
loop-item-preserved g c =
    let P = PassesAt c.args.keyspace.now.bases (g.B.BlockStore.blocks c.args.keyspace.now.store) c.args.at.now (keys_sought c.args.at.now.db c.args.options.now) in
    completes_next P c.args.items.now (drop (c.loop-item.item-index + 1) c.args.items.now) _ c.loop-item.names.items c.push_passing.new.names.items
    (subst (λ l. Completes P c.args.items.now l c.loop-item.names.items) (drop_next c.args.items.now c.loop-item.item-index (omega (arith, c.loop-item-test.true))) c.loop-item.invariant)
    c.in_ok-push_passing.ensures

pub returns : goal.returns
returns g c =
    let P = PassesAt c.args.keyspace.now.bases (g.B.BlockStore.blocks c.args.keyspace.now.store) c.args.at.now (keys_sought c.args.at.now.db c.args.options.now) in
    completes_last P c.args.items.now (drop c.loop-item.item-index c.args.items.now) c.loop-item.names.items
    (drop_none c.args.items.now c.loop-item.item-index (omega (arith, c.loop-item-test.false))) c.loop-item.invariant
