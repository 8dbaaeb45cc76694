use Rattle.std.proofs.Common.{◌≡◌, length, ap, ◌∙◌, rules}
use Rattle.keyspace.specs.Forms.{set_at}
use Rattle.keyspace.specs.Commands.{visible}
use Rattle.cmd_sets.proofs.Counted.{none_counted, shared_counted}
use Rattle.cmd_sets.proofs.joining.count_inter.Goals as goal

pub returns-then-is_empty : goal.returns-then-is_empty
returns-then-is_empty g c =
    let none : length c.args.keys.now ≡ 0 = search rules in
    none_counted c.args.limit (visible g.B.BlockStore.blocks c.args.keyspace.now c.args.at.now) c.args.keys.now none

pub returns : goal.returns
returns g c =
    let world = visible g.B.BlockStore.blocks c.args.keyspace.now c.args.at.now in
    shared_counted c.args.limit world c.args.keys.now c.smallest-least.result c.index-keys-least.result c.in_ok-names.names.items c.count_shared.result c.smallest-least.ensures
    c.index-keys-least.is (c.in_ok-names.ensures.members ∙ ap (set_at world) c.as_slice.ensures) c.in_ok-names.ensures.once c.count_shared.ensures
