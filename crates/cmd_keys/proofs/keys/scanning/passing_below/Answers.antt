use Rattle.std.proofs.Common.{subst, arith, ◌+◌, ◌-◌}
use Rattle.plain_model.specs.Scans.{keys_sought}
use Rattle.keyspace.specs.Shown.{PassesAt}
use Rattle.cmd_keys.specs.Sieve.{numbers}
use Rattle.keyspace.proofs.Sifting.{Completes, completes_next, completes_last}
use Rattle.cmd_keys.proofs.Sifting.{numbers_next, numbers_none}
use Rattle.cmd_keys.proofs.keys.scanning.passing_below.Goals as goal

pub loop-item-preserved : goal.loop-item-preserved
loop-item-preserved g c =
    let P = PassesAt c.args.keyspace.now.bases (g.B.BlockStore.blocks c.args.keyspace.now.store) c.args.at.now (keys_sought c.args.at.now.db c.args.options.now) in
    completes_next P (numbers c.args.top 0) (numbers (c.args.top - (c.loop-item.item + 1)) (c.loop-item.item + 1)) c.loop-item.item c.loop-item.names.items c.push_passing.new.names.items
    (subst (λ l. Completes P (numbers c.args.top 0) l c.loop-item.names.items) (numbers_next c.args.top c.loop-item.item (omega (arith, c.loop-item-test.true))) c.loop-item.invariant)
    c.in_ok-push_passing.ensures

pub returns : goal.returns
returns g c =
    let P = PassesAt c.args.keyspace.now.bases (g.B.BlockStore.blocks c.args.keyspace.now.store) c.args.at.now (keys_sought c.args.at.now.db c.args.options.now) in
    completes_last P (numbers c.args.top 0) (numbers (c.args.top - c.loop-item.item) c.loop-item.item) c.loop-item.names.items
    (numbers_none c.args.top c.loop-item.item (omega (arith, c.loop-item-test.false))) c.loop-item.invariant
