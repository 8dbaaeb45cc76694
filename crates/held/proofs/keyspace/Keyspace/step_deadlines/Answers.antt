use Rattle.std.proofs.Common.{ap, sym, subst}
use Rattle.held.specs.Databases.{Bases}
use Rattle.held.specs.Sound.{IsArranged}
use Rattle.held.specs.Rehash.{Preserves}
use Rattle.held.proofs.Rehashing.{deadlines_stepped, preserves_deadlines}
use Rattle.held.proofs.keyspace.Keyspace.step_deadlines.Goals as goal

pub returns-then-step_deadlines-clause-steps : goal.returns-then-step_deadlines-clause-steps
returns-then-step_deadlines-clause-steps g c found =
    let m = g.B.BlockStore.blocks c.args.self.now.store in
    let same = ap (λ k. k.bases) c.loop-db.invariant.same in
    let a = subst (λ (b : Bases _). IsArranged g.V.Stored.IsSound b m) (sym same) c.requires.arranged in
    deadlines_stepped m c.args.self.now.bases c.loop-db.self.bases c.step_deadlines.new.self c.loop-db.db same c.requires.still c.loop-db.invariant.none c.if-step_deadlines.ensures.value
    c.step_deadlines.ensures.changes (c.step_deadlines.ensures.steps m ((a.timed c.loop-db.db).keyed)) c.step_deadlines.ensures.cursor

pub returns-then-step_deadlines-clause-kept : goal.returns-then-step_deadlines-clause-kept
returns-then-step_deadlines-clause-kept g c =
    let m = g.B.BlockStore.blocks c.args.self.now.store in
    let same = ap (λ k. k.bases) c.loop-db.invariant.same in
    let a = subst (λ (b : Bases _). IsArranged g.V.Stored.IsSound b m) (sym same) c.requires.arranged in
    subst (λ (b : Bases _). Preserves g.V.Stored.refs_of g.V.Stored.value_of g.V.Stored.IsSound m b c.step_deadlines.new.self) same
    (preserves_deadlines g.V.Stored.refs_of g.V.Stored.value_of g.met.V.Stored.reads_own m c.loop-db.self.bases c.step_deadlines.new.self c.loop-db.db a c.step_deadlines.ensures.changes
    c.step_deadlines.ensures.items (c.step_deadlines.ensures.keyed m ((a.timed c.loop-db.db).keyed)) c.step_deadlines.ensures.seed)
