use Rattle.std.proofs.Common.{ap, refl, sym, ◌∙◌, subst, arith}
use Rattle.held.specs.Table.{Table, item}
use Rattle.held.specs.Databases.{table_at}
use Rattle.held.proofs.Releases.{no_item}
use Rattle.defrag.specs.Ways.{shapes, shape_of, Way, vacant, ended}
use Rattle.defrag.proofs.Walking.{none_above, swept_vacant, swept_ended, way_of}
use Rattle.defrag.proofs.walk.Walk.pass.Goals as goal

pub returns-then-self-top-clause-swept : goal.returns-then-self-top-clause-swept
returns-then-self-top-clause-swept g c s =
    swept_ended (g.V.Stored.refs_of (g.B.BlockStore.blocks c.args.keyspace.now.store)) (g.V.Stored.marks (g.B.BlockStore.blocks c.args.keyspace.now.store)) c.args.keyspace.now.bases
    (g.B.BlockStore.heap c.args.keyspace.now.store) c.args.self.now
    (none_above c.table-table.result.now (table_at c.args.keyspace.now.bases c.args.self.now.database) c.top.result c.args.self.now.item c.table-table.ensures c.top.ensures.above c.if-self-top.true) s

pub returns-then-self-top-clause-way : goal.returns-then-self-top-clause-way
returns-then-self-top-clause-way g c =
    way_of (shapes (g.V.Stored.marks (g.B.BlockStore.blocks c.args.keyspace.now.store)) c.args.keyspace.now.bases) c.args.self.now _ 1
    (ended (let top = ap (λ (t : Table _). t.top) c.table-table.ensures in omega (arith, c.if-self-top.true, c.top.ensures.value, top)) refl refl)

pub returns-then-not-is_entry-clause-swept : goal.returns-then-not-is_entry-clause-swept
returns-then-not-is_entry-clause-swept g c s =
    swept_vacant (g.V.Stored.refs_of (g.B.BlockStore.blocks c.args.keyspace.now.store)) (g.V.Stored.marks (g.B.BlockStore.blocks c.args.keyspace.now.store)) c.args.keyspace.now.bases
    (g.B.BlockStore.heap c.args.keyspace.now.store) c.args.self.now
    (ap (λ t. item t c.args.self.now.item) (sym c.table-table.ensures) ∙ no_item c.table-table.result.now c.args.self.now.item c.is_entry.result c.if-not-is_entry.true c.is_entry.ensures) s

pub returns-then-not-is_entry-clause-way : goal.returns-then-not-is_entry-clause-way
returns-then-not-is_entry-clause-way g c =
    way_of (shapes (g.V.Stored.marks (g.B.BlockStore.blocks c.args.keyspace.now.store)) c.args.keyspace.now.bases) c.args.self.now _ 1
    (vacant
    (ap (shape_of (g.V.Stored.marks (g.B.BlockStore.blocks c.args.keyspace.now.store)))
    (ap (λ t. item t c.args.self.now.item) (sym c.table-table.ensures)
    ∙ no_item c.table-table.result.now c.args.self.now.item c.is_entry.result c.if-not-is_entry.true c.is_entry.ensures))
    (let top = ap (λ (t : Table _). t.top) c.table-table.ensures in omega (arith, c.if-self-top.false, c.top.ensures.value, top)) refl refl)

pub returns-then-is_some-clause-way : goal.returns-then-is_some-clause-way
returns-then-is_some-clause-way g c = way_of (shapes (g.V.Stored.marks (g.B.BlockStore.blocks c.args.keyspace.now.store)) c.args.keyspace.now.bases) c.args.self.now c.pass_part.new.self
    c.pass_part.result c.pass_part.ensures.leg

pub returns-clause-way : goal.returns-clause-way
returns-clause-way g c =
    subst (λ walk. Way (shapes (g.V.Stored.marks (g.B.BlockStore.blocks c.args.keyspace.now.store)) c.args.keyspace.now.bases) walk c.pass_part-2.result c.pass_part-2.new.self)
    (c.pass_calm-calm.ensures.none (omega (arith, c.if-calm-gt0.false)))
    (way_of (shapes (g.V.Stored.marks (g.B.BlockStore.blocks c.args.keyspace.now.store)) c.args.keyspace.now.bases) c.pass_calm-calm.new.self c.pass_part-2.new.self c.pass_part-2.result
    c.pass_part-2.ensures.leg)
