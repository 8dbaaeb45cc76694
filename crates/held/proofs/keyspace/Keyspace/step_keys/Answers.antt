use Rattle.std.proofs.Common.{ap, sym, subst}
use Rattle.held.specs.Databases.{Bases}
use Rattle.held.specs.Sound.{IsArranged}
use Rattle.held.specs.Rehash.{Preserves}
use Rattle.held.proofs.Rehashing.{keys_stepped, preserves_keys}
use Rattle.held.proofs.keyspace.Keyspace.step_keys.Goals as goal

pub returns-then-step_keys-clause-steps : goal.returns-then-step_keys-clause-steps
returns-then-step_keys-clause-steps g c found =
    let m = g.B.BlockStore.blocks c.args.self.now.store in
    let same = ap (λ k. k.bases) c.loop-db.invariant.same in
    let a = subst (λ (b : Bases _). IsArranged g.V.Stored.IsSound b m) (sym same) c.requires.arranged in
    keys_stepped m c.args.self.now.bases c.loop-db.self.bases c.step_keys.new.self c.loop-db.db same c.loop-db.invariant.none c.if-step_keys.ensures.value c.step_keys.ensures.changes
    (c.step_keys.ensures.steps m (a.keyed c.loop-db.db))

pub returns-then-step_keys-clause-kept : goal.returns-then-step_keys-clause-kept
returns-then-step_keys-clause-kept g c =
    let m = g.B.BlockStore.blocks c.args.self.now.store in
    let same = ap (λ k. k.bases) c.loop-db.invariant.same in
    let a = subst (λ (b : Bases _). IsArranged g.V.Stored.IsSound b m) (sym same) c.requires.arranged in
    subst (λ (b : Bases _). Preserves g.V.Stored.refs_of g.V.Stored.value_of g.V.Stored.IsSound m b c.step_keys.new.self) same
    (preserves_keys g.V.Stored.refs_of g.V.Stored.value_of g.met.V.Stored.reads_own m c.loop-db.self.bases c.step_keys.new.self c.loop-db.db a c.step_keys.ensures.changes
    c.step_keys.ensures.items (c.step_keys.ensures.keyed m (a.keyed c.loop-db.db)) c.step_keys.ensures.seed)
