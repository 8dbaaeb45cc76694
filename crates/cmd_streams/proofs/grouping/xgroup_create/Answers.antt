use Rattle.std.proofs.Common.{◌≡◌, true, rules}
use Rattle.keyspace.specs.Commands.{visible}
use Rattle.keyspace.specs.Scopes.{one_key}
use Rattle.keyspace.proofs.Running.{unchanged}
use Rattle.cmd_streams.proofs.Regrouped.{none_free, new_made, group_made}
use Rattle.cmd_streams.proofs.grouping.xgroup_create.Goals as goal

pub returns-in-Other-clause-kept : goal.returns-in-Other-clause-kept
returns-in-Other-clause-kept g c = unchanged g.B.BlockStore.blocks g.B.BlockStore.step (one_key c.args.at.now.db c.args.key.now) c.args.keyspace.now c.refused.result c.requires.ready.sound

pub returns-then-not-make-clause-kept : goal.returns-then-not-make-clause-kept
returns-then-not-make-clause-kept g c = unchanged g.B.BlockStore.blocks g.B.BlockStore.step (one_key c.args.at.now.db c.args.key.now) c.args.keyspace.now c.refused-then-not-make.result
    c.requires.ready.sound

pub returns-then-has_group-clause-kept : goal.returns-then-has_group-clause-kept
returns-then-has_group-clause-kept g c = unchanged g.B.BlockStore.blocks g.B.BlockStore.step (one_key c.args.at.now.db c.args.key.now) c.args.keyspace.now c.refused-then-has_group.result
    c.requires.ready.sound

pub create_at-requires-clause-free : goal.create_at-requires-clause-free
create_at-requires-clause-free g c = none_free (visible g.B.BlockStore.blocks c.args.keyspace.now c.args.at.now) c.args.key.now c.args.name.now c.in-Missing.ensures

pub returns-else-not-make-clause-gives : goal.returns-else-not-make-clause-gives
returns-else-not-make-clause-gives g c =
    let blocks = g.B.BlockStore.blocks in
    let may : c.args.make ≡ true = search rules in
    new_made (visible blocks c.args.keyspace.now c.args.at.now) (visible blocks c.create_at.new.keyspace c.args.at.now) c.args.key.now c.args.name.now c.args.id c.args.make may
    c.in-Missing.ensures c.create_at.result c.create_at.ensures.gives

pub returns-else-has_group-clause-gives : goal.returns-else-has_group-clause-gives
returns-else-has_group-clause-gives g c =
    let blocks = g.B.BlockStore.blocks in
    group_made (visible blocks c.args.keyspace.now c.args.at.now) (visible blocks c.create_at-in-There.new.keyspace c.args.at.now) (blocks c.args.keyspace.now.store) c.args.key.now
    c.args.name.now c.args.id c.args.make c.stream_there.result.now c.stream_there.ensures c.create_at-in-There.result c.create_at-in-There.ensures.gives
