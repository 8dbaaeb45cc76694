use Rattle.std.proofs.Common.{◌∙◌, ◌≡◌, ◌+◌, ◌-◌, [], refl, sym, subst, arith}
use Rattle.blocks.specs.Slabs.{slabs_of, needed}
use Rattle.blocks.proofs.Sweeps.{swept_ends}
use Rattle.held.specs.Sound.{Sound}
use Rattle.held.proofs.Bases.{sound_kept}
use Rattle.defrag.specs.Swept.{HasPassed}
use Rattle.held.proofs.Relocating.{relocates_then}
use Rattle.defrag.specs.Ways.{shapes, Way, here}
use Rattle.defrag.proofs.Walking.{relocates_none, shapes_then, all_passed, way_then, way_same, way_forward}
use Rattle.defrag.proofs.walk.Walk.step.Goals as goal

pub legs-init : goal.legs-init
legs-init g c = record {
  relocates = relocates_none g.V.Stored.refs_of g.V.Stored.value_of g.met.V.Stored.reads_own c.args.keyspace.now.bases (g.B.BlockStore.blocks c.args.keyspace.now.store) c.requires.intact;
  same = λ number at. refl;
  tops = λ number. refl;
  encodings = λ number at. refl;
  tables = λ number at. refl;
  swept = λ s. s;
  way = here;
  few = omega arith;
  inside = omega (arith, c.requires.place);
}

pub legs-preserved : goal.legs-preserved
legs-preserved g c =
    let was = c.args.keyspace.now.bases in
    let inv = c.legs.invariant in
    let sum : (64 - c.legs.left) + c.pass-left.result ≡ 64 - (c.legs.left - c.pass-left.result) = omega (arith, inv.few, c.pass-left.ensures.few) in
    record {
      relocates = relocates_then g.V.Stored.refs_of g.V.Stored.value_of g.met.V.Stored.reads_own was c.legs.keyspace.bases c.pass-left.new.keyspace.bases
          (g.B.BlockStore.blocks c.args.keyspace.now.store) (g.B.BlockStore.blocks c.legs.keyspace.store) (g.B.BlockStore.blocks c.pass-left.new.keyspace.store) inv.relocates
          c.pass-left.ensures.relocates;
      same = shapes_then (g.V.Stored.marks (g.B.BlockStore.blocks c.args.keyspace.now.store)) (g.V.Stored.marks (g.B.BlockStore.blocks c.legs.keyspace.store))
          (g.V.Stored.marks (g.B.BlockStore.blocks c.pass-left.new.keyspace.store)) was c.legs.keyspace.bases c.pass-left.new.keyspace.bases inv.same c.pass-left.ensures.shapes;
      tops = λ number. c.pass-left.ensures.tops number ∙ inv.tops number;
      encodings = shapes_then g.V.Stored.encoding g.V.Stored.encoding g.V.Stored.encoding was c.legs.keyspace.bases c.pass-left.new.keyspace.bases inv.encodings c.pass-left.ensures.encodings;
      tables = shapes_then (g.V.Stored.tables (g.B.BlockStore.blocks c.args.keyspace.now.store)) (g.V.Stored.tables (g.B.BlockStore.blocks c.legs.keyspace.store))
          (g.V.Stored.tables (g.B.BlockStore.blocks c.pass-left.new.keyspace.store)) was c.legs.keyspace.bases c.pass-left.new.keyspace.bases inv.tables c.pass-left.ensures.tables;
      swept = λ s. c.pass-left.ensures.swept (inv.swept s);
      way = subst (λ n. Way (shapes (g.V.Stored.marks (g.B.BlockStore.blocks c.args.keyspace.now.store)) was) c.args.self.now n c.pass-left.new.self) sum
          (way_then (shapes (g.V.Stored.marks (g.B.BlockStore.blocks c.args.keyspace.now.store)) was) c.args.self.now c.legs.self c.pass-left.new.self (64 - c.legs.left) c.pass-left.result
          inv.way
          (way_same (g.V.Stored.marks (g.B.BlockStore.blocks c.args.keyspace.now.store)) (g.V.Stored.marks (g.B.BlockStore.blocks c.legs.keyspace.store)) was c.legs.keyspace.bases
          c.legs.self c.pass-left.new.self c.pass-left.result inv.same inv.tops c.pass-left.ensures.way));
      few = omega (arith, inv.few);
      inside = c.pass-left.ensures.inside;
    }

pub returns-clause-least : goal.returns-clause-least
returns-clause-least g c done sound swept class below =
    let inv = c.legs.invariant in
    let whole : Sound g.V.Stored.refs_of g.V.Stored.IsSound c.legs.keyspace.bases (g.B.BlockStore.blocks c.legs.keyspace.store) =
    sound_kept g.V.Stored.refs_of g.V.Stored.value_of g.met.V.Stored.reads_own c.args.keyspace.now.bases c.legs.keyspace.bases (g.B.BlockStore.blocks c.args.keyspace.now.store)
    (g.B.BlockStore.blocks c.legs.keyspace.store) inv.relocates.changes inv.relocates.arranged [] sound in
    subst (λ h. slabs_of h class ≡ needed h class) (sym c.end_pass.ensures.ended)
    (swept_ends (g.B.BlockStore.blocks c.legs.keyspace.store) (g.B.BlockStore.heap c.legs.keyspace.store)
    (HasPassed (g.V.Stored.refs_of (g.B.BlockStore.blocks c.legs.keyspace.store)) (g.V.Stored.marks (g.B.BlockStore.blocks c.legs.keyspace.store)) c.legs.keyspace.bases c.legs.self)
    (g.met.B.BlockStore.sound c.legs.keyspace.store) (inv.swept swept)
    (all_passed (g.V.Stored.refs_of (g.B.BlockStore.blocks c.legs.keyspace.store)) (g.V.Stored.marks (g.B.BlockStore.blocks c.legs.keyspace.store)) c.legs.keyspace.bases
    (g.B.BlockStore.blocks c.legs.keyspace.store) c.legs.self (λ r. omega (arith, whole.owns r)) whole.arranged.sixteen (omega (arith, inv.inside, c.if-self-lt-DATABASES.false))) class
    below)

pub returns-then-self-lt-DATABASES-clause-forward : goal.returns-then-self-lt-DATABASES-clause-forward
returns-then-self-lt-DATABASES-clause-forward g c = way_forward (shapes (g.V.Stored.marks (g.B.BlockStore.blocks c.args.keyspace.now.store)) c.args.keyspace.now.bases) c.args.self.now
    c.legs.self (64 - c.legs.left) c.legs.invariant.way

pub returns-clause-forward : goal.returns-clause-forward
returns-clause-forward g c = way_forward (shapes (g.V.Stored.marks (g.B.BlockStore.blocks c.args.keyspace.now.store)) c.args.keyspace.now.bases) c.args.self.now c.legs.self
    (64 - c.legs.left) c.legs.invariant.way

pub returns-then-self-lt-DATABASES-clause-encodings : goal.returns-then-self-lt-DATABASES-clause-encodings
returns-then-self-lt-DATABASES-clause-encodings g c = c.legs.invariant.encodings

pub returns-clause-encodings : goal.returns-clause-encodings
returns-clause-encodings g c = c.legs.invariant.encodings
