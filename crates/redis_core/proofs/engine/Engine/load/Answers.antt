use Rattle.std.proofs.Common.{sym, subst, ◌∙◌}
use Rattle.keyspace.specs.Databases.{means}
use Rattle.rdb_reader.proofs.Living.{loads_live, loads_none}
use Rattle.keyspace.specs.Scopes.{anything, Within}
use Rattle.keyspace.proofs.Serving.{unmoved}
use Rattle.redis_core.specs.Engines.{State, Keeps}
use Rattle.redis_core.proofs.Steps.{observed_keeps, observed_served}
use Rattle.redis_core.proofs.engine.Engine.load.Goals as goal

pub returns-then-self-clause-keeps : goal.returns-then-self-clause-keeps
returns-then-self-clause-keeps g c =
    subst (Keeps g.B.BlockStore.blocks c.args.self.now) c.self.view_is (observed_keeps _ c.args.self.now _ _ (c.self.view_is ∙ c.observe.ensures) c.self.invariant.sound)

pub returns-then-self-clause-served : goal.returns-then-self-clause-served
returns-then-self-clause-served g c = observed_served g.B.BlockStore.step c.args.self.now c.observe.new.self _ c.observe.ensures

-- what was loaded is live
pub returns-clause-loads : goal.returns-clause-loads
returns-clause-loads g c alive =
    let new = c.load-loaded.new.keyspace in
    loads_live c.self.inside.last (g.H.Host.seen c.args.host.now).files c.args.name.now c.args.limit (means 0 new.bases (g.B.BlockStore.blocks new.store)) c.load-loaded.result
    c.load-loaded.ensures.loads

pub returns-then-self-clause-within : goal.returns-then-self-clause-within
returns-then-self-clause-within g c =
    let blocks = g.B.BlockStore.blocks in
    let old = c.args.self.now in
    subst (λ (x : State g.row.B.Denot). Within anything old.bases x.bases (blocks old.store) (blocks x.store)) (sym c.observe.ensures) (unmoved anything old.bases (blocks old.store))

-- after a fault nothing is left
pub returns-clause-none : goal.returns-clause-none
returns-clause-none g c alive =
    let new = c.load-loaded.new.keyspace in
    loads_none (g.H.Host.seen c.args.host.now).files c.args.name.now c.args.limit c.self.inside.last (means 0 new.bases (g.B.BlockStore.blocks new.store)) c.load-loaded.result
    c.load-loaded.ensures.loads
