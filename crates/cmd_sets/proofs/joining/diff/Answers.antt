use Rattle.std.proofs.Common.{ap, ◌∙◌}
use Rattle.set_object.specs.Strings.{set_of}
use Rattle.plain_model.specs.declared.set_command.SetJoin.TheVariants.{Diff}
use Rattle.keyspace.specs.Forms.{set_at}
use Rattle.keyspace.specs.Commands.{visible}
use Rattle.cmd_sets.proofs.Gathered.{if_as}
use Rattle.cmd_sets.proofs.Joined.{has_none, no_once, none_joined, diff_of}
use Rattle.cmd_sets.proofs.joining.diff.Goals as goal

pub returns-in-None-clause-join : goal.returns-in-None-clause-join
returns-in-None-clause-join g c =
    let world = visible g.B.BlockStore.blocks c.args.keyspace.now c.args.at.now in
    none_joined Diff world c.args.keys.now (set_of c.new.result.items) c.in-None.ensures.cases (λ q. has_none q c.new.result.items c.new.ensures.items)

pub returns-in-None-clause-once : goal.returns-in-None-clause-once
returns-in-None-clause-once g c = no_once c.new.result.items c.new.ensures.items

pub returns-in_ok-names-in-Some-clause-join : goal.returns-in_ok-names-in-Some-clause-join
returns-in_ok-names-in-Some-clause-join g c =
    let world = visible g.B.BlockStore.blocks c.args.keyspace.now c.args.at.now in
    let names = set_of c.in_ok-names-in-Some.names.items in
    if_as c.drop_each.result
    (λ kept left. diff_of world c.args.keys.now c.in-Some.others.now c.in-Some.first.now names (set_of kept.items) c.in-Some.ensures.cases.0
    (c.in_ok-names-in-Some.ensures.members ∙ ap (set_at world) c.as_slice.ensures) left)
    c.drop_each.ensures.left
