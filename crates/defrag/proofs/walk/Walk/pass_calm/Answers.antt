use Rattle.std.proofs.Common.{◌≡◌, ◌+◌, ◌-◌, ◌<◌, ℕ, refl, subst, arith}
use Rattle.std.specs.Prelude.{min}
use Rattle.std.proofs.lemmas.Grind.{common_steps}
use Rattle.std.proofs.Common.{Some}
use Rattle.held.specs.Table.{Element, item}
use Rattle.held.specs.Databases.{table_at}
use Rattle.defrag.specs.declared.walk.Walk.{Walk}
use Rattle.defrag.specs.Ways.{shapes, Way, here, further}
use Rattle.defrag.proofs.Walking.{calm_swept, calm_leg}
use Rattle.defrag.proofs.walk.Walk.pass_calm.Goals as goal

-- an answer below the greatest number is exact
exactly : (result all : ℕ) → result ≡ min all 4294967295 → result < 4294967295 → result ≡ all
exactly result all is below = grind (arith, common_steps, is, below)

pub returns-then-not-is_calm-clause-way : goal.returns-then-not-is_calm-clause-way
returns-then-not-is_calm-clause-way g c = here

pub keys-init : goal.keys-init
keys-init g c = record {
  swept = λ s. s;
  way = subst (λ n. Way (shapes (g.V.Stored.marks (g.B.BlockStore.blocks c.args.keyspace.now.store)) c.args.keyspace.now.bases) c.args.self.now n c.args.self.now) (omega arith) here;
  few = omega arith;
  none = λ same. refl;
}

pub keys-preserved : goal.keys-preserved
keys-preserved g c =
    let inv = c.keys.invariant in
    let bases = c.args.keyspace.now.bases in
    let heap = g.B.BlockStore.heap c.args.keyspace.now.store in
    let place : Walk = record c.args.self.now { item = c.keys.item } in
    let next : Walk = record c.args.self.now { item = c.keys.item + 1 } in
    let element : Element g.row.V.Denot = record { key = c.entry.result.0; hash = c.entry.ensures.hash; value = c.entry.result.1.now } in
    let stands : item (table_at bases c.args.self.now.database) c.keys.item ≡ Some element = rw c.table-table.ensures at c.entry.ensures.found in
    let sound = c.requires.intact.arranged.values c.args.self.now.database c.keys.item element stands in
    let counted = exactly c.units-units.result _ (c.units-units.ensures bases.limits bases.seed (g.B.BlockStore.blocks c.args.keyspace.now.store) sound)
    (omega (arith, c.if-units-left.false, inv.few, c.ranges.room.fits)) in
    let sum : (c.args.room - c.keys.left) + (c.units-units.result + 1) ≡ c.args.room - (c.keys.left - (c.units-units.result + 1)) = omega (arith, inv.few, c.if-units-left.false) in
    record {
      swept = λ s. calm_swept g.V.Stored.refs_of g.V.Stored.marks g.V.Stored.tables g.V.Stored.encoding g.met.V.Stored.reads_own.refs g.met.V.Stored.marked
          (g.B.BlockStore.blocks c.args.keyspace.now.store) bases heap place c.keys.left c.units-units.result c.requires.start element stands c.if-not-is_calm.ensures counted
          c.if-units-left.false (inv.swept s);
      way = subst (λ n. Way (shapes (g.V.Stored.marks (g.B.BlockStore.blocks c.args.keyspace.now.store)) bases) c.args.self.now n next) sum
          (further (c.args.room - c.keys.left) (c.units-units.result + 1) place next inv.way
          (calm_leg g.V.Stored.refs_of g.V.Stored.marks g.V.Stored.tables g.V.Stored.encoding g.met.V.Stored.reads_own.refs g.met.V.Stored.marked
          (g.B.BlockStore.blocks c.args.keyspace.now.store) bases heap place c.keys.left c.units-units.result c.requires.start element stands c.if-not-is_calm.ensures counted
          c.if-units-left.false));
      few = omega (arith, inv.few);
      none = λ same. absurd (omega (arith, same, inv.few, c.if-units-left.false));
    }
