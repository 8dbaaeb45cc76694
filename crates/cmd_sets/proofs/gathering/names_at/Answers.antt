use Rattle.std.proofs.Common.{sym, subst}
use Rattle.set_object.specs.Strings.{IsOnce}
use Rattle.set_object.proofs.Listed.{arranged}
use Rattle.keyspace.specs.Forms.{set_at}
use Rattle.keyspace.specs.Commands.{visible}
use Rattle.cmd_sets.proofs.Gathered.{if_as}
use Rattle.cmd_sets.proofs.Joined.{missing_at, other_at, no_names, no_once, all_names}
use Rattle.cmd_sets.proofs.gathering.names_at.Goals as goal

pub returns-in-Missing-clause-members : goal.returns-in-Missing-clause-members
returns-in-Missing-clause-members g c =
    let world = visible g.B.BlockStore.blocks c.args.keyspace.now c.args.at.now in
    no_names (set_at world c.args.key.now) c.new.result.items (missing_at world c.args.key.now (rw c.in-Missing.is at c.set_at.ensures)) c.new.ensures.items

pub returns-in-Other-clause-members : goal.returns-in-Other-clause-members
returns-in-Other-clause-members g c =
    let world = visible g.B.BlockStore.blocks c.args.keyspace.now c.args.at.now in
    no_names (set_at world c.args.key.now) c.new-in-Other.result.items (other_at world c.args.key.now c.in-Other.ensures) c.new-in-Other.ensures.items

pub returns-in-There-clause-members : goal.returns-in-There-clause-members
returns-in-There-clause-members g c =
    let world = visible g.B.BlockStore.blocks c.args.keyspace.now c.args.at.now in
    let m = g.B.BlockStore.blocks c.args.keyspace.now.store in
    if_as c.names_of.result (λ names is. all_names world m c.args.key.now _ names.items c.in-There.ensures is) c.names_of.ensures

pub returns-in-Missing-clause-once : goal.returns-in-Missing-clause-once
returns-in-Missing-clause-once g c = no_once c.new.result.items c.new.ensures.items

pub returns-in-Other-clause-once : goal.returns-in-Other-clause-once
returns-in-Other-clause-once g c = no_once c.new-in-Other.result.items c.new-in-Other.ensures.items

pub returns-in-There-clause-once : goal.returns-in-There-clause-once
returns-in-There-clause-once g c =
    let m = g.B.BlockStore.blocks c.args.keyspace.now.store in
    if_as c.names_of.result (λ names is. subst IsOnce (sym is) (arranged m _ c.in-There.ensures.sound).once) c.names_of.ensures
