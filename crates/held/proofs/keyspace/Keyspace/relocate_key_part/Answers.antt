use Rattle.std.proofs.Common.{arith}
use Rattle.blocks.proofs.Sweeps.{calmer_next}
use Rattle.held.proofs.Relocating.{relocates_then, element_passes}
use Rattle.held.proofs.keyspace.Keyspace.relocate_key_part.Goals as goal

pub returns-in_default-clause-relocates : goal.returns-in_default-clause-relocates
returns-in_default-clause-relocates g c =
    relocates_then g.V.Stored.refs_of g.V.Stored.value_of g.met.V.Stored.reads_own c.args.self.now.bases c.pass_name.new.self.bases c.pass_value-moved.new.self.bases
    (g.B.BlockStore.blocks c.args.self.now.store) (g.B.BlockStore.blocks c.pass_name.new.self.store) (g.B.BlockStore.blocks c.pass_value-moved.new.self.store)
    c.pass_name.ensures.relocates c.pass_value-moved.ensures.relocates

pub returns-in_default-clause-passes : goal.returns-in_default-clause-passes
returns-in_default-clause-passes g c =
    element_passes g.V.Stored.refs_of g.V.Stored.marks g.V.Stored.tables g.V.Stored.encoding g.met.V.Stored.reads_own.refs g.met.V.Stored.marks_own
    (g.B.BlockStore.blocks c.args.self.now.store) (g.B.BlockStore.blocks c.pass_name.new.self.store) (g.B.BlockStore.blocks c.pass_value-moved.new.self.store)
    (g.B.BlockStore.heap c.pass_name.new.self.store) (g.B.BlockStore.heap c.pass_value-moved.new.self.store) c.args.self.now.bases c.pass_name.new.self.bases
    c.pass_value-moved.new.self.bases c.args.db c.args.at
    c.args.mark c.args.room c.pass_value-moved.result c.in_default.is (omega (arith, c.requires.room)) c.pass_name.ensures.passes c.pass_value-moved.ensures.passes c.pass_value-moved.ensures.calmer
    (let p = c.pass_name.ensures.passes in g.met.V.Stored.tables_own c.args.self.now.bases.limits c.args.self.now.bases.seed (g.B.BlockStore.blocks c.args.self.now.store)
    (g.B.BlockStore.blocks c.pass_name.new.self.store) p.was.value p.stays (c.requires.intact.arranged.values c.args.db c.args.at p.was p.replaces.found))

pub returns-in_default-clause-calmer : goal.returns-in_default-clause-calmer
returns-in_default-clause-calmer g c = calmer_next (g.B.BlockStore.heap c.args.self.now.store) (g.B.BlockStore.heap c.pass_name.new.self.store)
    (g.B.BlockStore.heap c.pass_value-moved.new.self.store) c.pass_name.ensures.calmer c.pass_value-moved.ensures.calmer
