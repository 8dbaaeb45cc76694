use Rattle.std.proofs.Common.{◌≡◌, ◌<◌, length, arith, rules}
use Rattle.set_object.specs.Strings.{set_of}
use Rattle.plain_model.specs.declared.set_command.SetJoin.TheVariants.{Inter}
use Rattle.keyspace.specs.Commands.{visible}
use Rattle.cmd_sets.proofs.Gathered.{if_as}
use Rattle.cmd_sets.proofs.Joined.{has_none, no_once, none_joined, inter_of}
use Rattle.cmd_sets.proofs.joining.inter.Goals as goal

pub returns-then-is_empty-clause-join : goal.returns-then-is_empty-clause-join
returns-then-is_empty-clause-join g c =
    let world = visible g.B.BlockStore.blocks c.args.keyspace.now c.args.at.now in
    let none : length c.args.keys.now ≡ 0 = search rules in
    none_joined Inter world c.args.keys.now (set_of c.new.result.items) none (λ q. has_none q c.new.result.items c.new.ensures.items)

pub returns-then-is_empty-clause-once : goal.returns-then-is_empty-clause-once
returns-then-is_empty-clause-once g c = no_once c.new.result.items c.new.ensures.items

pub returns-clause-join : goal.returns-clause-join
returns-clause-join g c =
    let world = visible g.B.BlockStore.blocks c.args.keyspace.now c.args.at.now in
    let some : 0 < length c.args.keys.now = omega (arith, c.smallest-least.ensures) in
    if_as c.share_names.result (λ names shared. inter_of world c.args.keys.now (set_of names.items) some shared) c.share_names.ensures.shared
