use Rattle.held.proofs.Relocating.{alone_relocates, alone_passes, with_relocates, with_passes}
use Rattle.held.proofs.keyspace.Keyspace.move_name.Goals as goal

pub returns-in-None-clause-relocates : goal.returns-in-None-clause-relocates
returns-in-None-clause-relocates g c =
    alone_relocates g.V.Stored.refs_of g.V.Stored.value_of g.met.V.Stored.reads_own c.args.self.now.bases c.swap_name.new.self c.args.db c.args.at
    (g.B.BlockStore.blocks c.args.self.now.store) (g.B.BlockStore.blocks c.settle-new.new.store) c.requires.intact
    c.key-name.result c.settle-new.result c.key-name.ensures c.settle-new.ensures.bytes c.settle-new.ensures.changes c.swap_name.ensures.changes c.swap_name.ensures.renames
    c.bytes-key.result.now c.bytes-key.ensures c.in-None.ensures.none

pub returns-in-None-clause-passes : goal.returns-in-None-clause-passes
returns-in-None-clause-passes g c =
    alone_passes g.V.Stored.refs_of g.V.Stored.value_of g.met.V.Stored.reads_own c.args.self.now.bases c.swap_name.new.self c.args.db c.args.at
    (g.B.BlockStore.blocks c.args.self.now.store) (g.B.BlockStore.blocks c.settle-new.new.store) c.requires.intact
    c.key-name.result c.settle-new.result c.key-name.ensures c.settle-new.ensures.bytes c.settle-new.ensures.changes c.swap_name.ensures.changes c.swap_name.ensures.renames
    (g.B.BlockStore.heap c.settle-new.new.store) c.settle-new.ensures.calm

pub returns-in-Some-clause-relocates : goal.returns-in-Some-clause-relocates
returns-in-Some-clause-relocates g c =
    with_relocates g.V.Stored.refs_of g.V.Stored.value_of g.met.V.Stored.reads_own c.args.self.now.bases c.swap_name.new.self c.swap_timed.new.self c.args.db c.args.at
    (g.B.BlockStore.blocks c.args.self.now.store) (g.B.BlockStore.blocks c.settle-new.new.store) c.requires.intact
    c.key-name.result c.settle-new.result c.key-name.ensures c.settle-new.ensures.bytes c.settle-new.ensures.changes c.swap_name.ensures.changes c.swap_name.ensures.renames
    c.swap_timed.ensures.changes
    c.bytes-key.result.now c.in-Some.number c.bytes-key.ensures c.in-Some.ensures.found c.swap_timed.ensures.renames c.swap_timed.ensures.cursor

pub returns-in-Some-clause-passes : goal.returns-in-Some-clause-passes
returns-in-Some-clause-passes g c =
    with_passes g.V.Stored.refs_of g.V.Stored.value_of g.met.V.Stored.reads_own c.args.self.now.bases c.swap_name.new.self c.swap_timed.new.self c.args.db c.args.at
    (g.B.BlockStore.blocks c.args.self.now.store) (g.B.BlockStore.blocks c.settle-new.new.store) c.requires.intact
    c.key-name.result c.settle-new.result c.key-name.ensures c.settle-new.ensures.bytes c.settle-new.ensures.changes c.swap_name.ensures.changes c.swap_name.ensures.renames
    c.swap_timed.ensures.changes
    (g.B.BlockStore.heap c.settle-new.new.store) c.settle-new.ensures.calm
