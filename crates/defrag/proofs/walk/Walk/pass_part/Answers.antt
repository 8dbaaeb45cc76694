use Rattle.std.proofs.Common.{subst}
use Rattle.defrag.specs.Ways.{shapes, behind, Leg}
use Rattle.defrag.proofs.Walking.{told_same, leg_inside, swept_on, swept_over}
use Rattle.defrag.proofs.walk.Walk.pass_part.Goals as goal

pub returns-in-None-clause-swept : goal.returns-in-None-clause-swept
returns-in-None-clause-swept g c s =
    swept_over g.V.Stored.refs_of g.V.Stored.marks g.V.Stored.tables g.V.Stored.encoding g.met.V.Stored.reads_own.refs g.met.V.Stored.marked
    (g.B.BlockStore.blocks c.args.keyspace.now.store) (g.B.BlockStore.blocks c.relocate_key_part-moved.new.self.store) c.args.keyspace.now.bases
    c.relocate_key_part-moved.new.self.bases (g.B.BlockStore.heap c.args.keyspace.now.store) (g.B.BlockStore.heap c.relocate_key_part-moved.new.self.store)
    c.args.self.now c.args.left c.relocate_key_part-moved.result c.relocate_key_part-moved.ensures.passes c.relocate_key_part-moved.ensures.calmer s c.in-None.is

pub returns-in-None-clause-leg : goal.returns-in-None-clause-leg
returns-in-None-clause-leg g c =
    subst
    (λ o. Leg (shapes (g.V.Stored.marks (g.B.BlockStore.blocks c.args.keyspace.now.store)) c.args.keyspace.now.bases) c.args.self.now c.relocate_key_part-moved.result.used
    (behind c.args.self.now o)) c.in-None.is
    (leg_inside g.V.Stored.refs_of g.V.Stored.marks g.V.Stored.tables g.V.Stored.encoding g.met.V.Stored.reads_own.refs g.met.V.Stored.marked
    (g.B.BlockStore.blocks c.args.keyspace.now.store) (g.B.BlockStore.blocks c.relocate_key_part-moved.new.self.store) c.args.keyspace.now.bases
    c.relocate_key_part-moved.new.self.bases (g.B.BlockStore.heap c.args.keyspace.now.store) (g.B.BlockStore.heap c.relocate_key_part-moved.new.self.store)
    c.args.self.now c.args.left c.relocate_key_part-moved.result c.relocate_key_part-moved.ensures.passes)

pub returns-in-Some-clause-swept : goal.returns-in-Some-clause-swept
returns-in-Some-clause-swept g c s =
    swept_on g.V.Stored.refs_of g.V.Stored.marks g.V.Stored.tables g.V.Stored.encoding g.met.V.Stored.reads_own.refs g.met.V.Stored.marked (g.B.BlockStore.blocks c.args.keyspace.now.store)
    (g.B.BlockStore.blocks c.relocate_key_part-moved.new.self.store) c.args.keyspace.now.bases c.relocate_key_part-moved.new.self.bases (g.B.BlockStore.heap c.args.keyspace.now.store)
    (g.B.BlockStore.heap c.relocate_key_part-moved.new.self.store)
    c.args.self.now c.args.left c.relocate_key_part-moved.result c.relocate_key_part-moved.ensures.passes c.relocate_key_part-moved.ensures.calmer s c.in-Some.next c.in-Some.is

pub returns-in-Some-clause-leg : goal.returns-in-Some-clause-leg
returns-in-Some-clause-leg g c =
    subst
    (λ o. Leg (shapes (g.V.Stored.marks (g.B.BlockStore.blocks c.args.keyspace.now.store)) c.args.keyspace.now.bases) c.args.self.now c.relocate_key_part-moved.result.used
    (behind c.args.self.now o)) c.in-Some.is
    (leg_inside g.V.Stored.refs_of g.V.Stored.marks g.V.Stored.tables g.V.Stored.encoding g.met.V.Stored.reads_own.refs g.met.V.Stored.marked
    (g.B.BlockStore.blocks c.args.keyspace.now.store) (g.B.BlockStore.blocks c.relocate_key_part-moved.new.self.store) c.args.keyspace.now.bases
    c.relocate_key_part-moved.new.self.bases (g.B.BlockStore.heap c.args.keyspace.now.store) (g.B.BlockStore.heap c.relocate_key_part-moved.new.self.store)
    c.args.self.now c.args.left c.relocate_key_part-moved.result c.relocate_key_part-moved.ensures.passes)

pub returns-in-None-clause-shapes : goal.returns-in-None-clause-shapes
returns-in-None-clause-shapes g c =
    let p = c.relocate_key_part-moved.ensures.passes in
    told_same g.V.Stored.refs_of g.V.Stored.marks g.V.Stored.tables g.V.Stored.encoding g.met.V.Stored.reads_own.refs g.met.V.Stored.marked
    (g.B.BlockStore.blocks c.args.keyspace.now.store) (g.B.BlockStore.blocks c.relocate_key_part-moved.new.self.store) c.args.keyspace.now.bases
    c.relocate_key_part-moved.new.self.bases (g.B.BlockStore.heap c.args.keyspace.now.store) (g.B.BlockStore.heap c.relocate_key_part-moved.new.self.store)
    c.args.self.now c.args.left c.relocate_key_part-moved.result c.relocate_key_part-moved.ensures.passes g.V.Stored.marks p.same_marks
    (λ number at e off found. g.met.V.Stored.marks_own (g.B.BlockStore.blocks c.args.keyspace.now.store) (g.B.BlockStore.blocks c.relocate_key_part-moved.new.self.store) e.value
    (p.apart number at e off found))

pub returns-in-None-clause-tables : goal.returns-in-None-clause-tables
returns-in-None-clause-tables g c =
    let p = c.relocate_key_part-moved.ensures.passes in
    told_same g.V.Stored.refs_of g.V.Stored.marks g.V.Stored.tables g.V.Stored.encoding g.met.V.Stored.reads_own.refs g.met.V.Stored.marked
    (g.B.BlockStore.blocks c.args.keyspace.now.store) (g.B.BlockStore.blocks c.relocate_key_part-moved.new.self.store) c.args.keyspace.now.bases
    c.relocate_key_part-moved.new.self.bases (g.B.BlockStore.heap c.args.keyspace.now.store) (g.B.BlockStore.heap c.relocate_key_part-moved.new.self.store)
    c.args.self.now c.args.left c.relocate_key_part-moved.result c.relocate_key_part-moved.ensures.passes g.V.Stored.tables p.same_tables
    (λ number at e off found. g.met.V.Stored.tables_own c.args.keyspace.now.bases.limits c.args.keyspace.now.bases.seed (g.B.BlockStore.blocks c.args.keyspace.now.store)
    (g.B.BlockStore.blocks c.relocate_key_part-moved.new.self.store) e.value (p.apart number at e off found) (c.requires.intact.arranged.values number at e found))

pub returns-in-Some-clause-shapes : goal.returns-in-Some-clause-shapes
returns-in-Some-clause-shapes g c =
    let p = c.relocate_key_part-moved.ensures.passes in
    told_same g.V.Stored.refs_of g.V.Stored.marks g.V.Stored.tables g.V.Stored.encoding g.met.V.Stored.reads_own.refs g.met.V.Stored.marked
    (g.B.BlockStore.blocks c.args.keyspace.now.store) (g.B.BlockStore.blocks c.relocate_key_part-moved.new.self.store) c.args.keyspace.now.bases
    c.relocate_key_part-moved.new.self.bases (g.B.BlockStore.heap c.args.keyspace.now.store) (g.B.BlockStore.heap c.relocate_key_part-moved.new.self.store)
    c.args.self.now c.args.left c.relocate_key_part-moved.result c.relocate_key_part-moved.ensures.passes g.V.Stored.marks p.same_marks
    (λ number at e off found. g.met.V.Stored.marks_own (g.B.BlockStore.blocks c.args.keyspace.now.store) (g.B.BlockStore.blocks c.relocate_key_part-moved.new.self.store) e.value
    (p.apart number at e off found))

pub returns-in-Some-clause-tables : goal.returns-in-Some-clause-tables
returns-in-Some-clause-tables g c =
    let p = c.relocate_key_part-moved.ensures.passes in
    told_same g.V.Stored.refs_of g.V.Stored.marks g.V.Stored.tables g.V.Stored.encoding g.met.V.Stored.reads_own.refs g.met.V.Stored.marked
    (g.B.BlockStore.blocks c.args.keyspace.now.store) (g.B.BlockStore.blocks c.relocate_key_part-moved.new.self.store) c.args.keyspace.now.bases
    c.relocate_key_part-moved.new.self.bases (g.B.BlockStore.heap c.args.keyspace.now.store) (g.B.BlockStore.heap c.relocate_key_part-moved.new.self.store)
    c.args.self.now c.args.left c.relocate_key_part-moved.result c.relocate_key_part-moved.ensures.passes g.V.Stored.tables p.same_tables
    (λ number at e off found. g.met.V.Stored.tables_own c.args.keyspace.now.bases.limits c.args.keyspace.now.bases.seed (g.B.BlockStore.blocks c.args.keyspace.now.store)
    (g.B.BlockStore.blocks c.relocate_key_part-moved.new.self.store) e.value (p.apart number at e off found) (c.requires.intact.arranged.values number at e found))
