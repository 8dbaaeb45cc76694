use Rattle.std.proofs.Common.{ap}
use Rattle.blocks.specs.Blocks.{Blocks}
use Rattle.held.specs.Databases.{Bases}
use Rattle.held.specs.Table.{Keyed}
use Rattle.held.specs.Rehash.{StepsTable}
use Rattle.held.proofs.Tables.{in_place}
use Rattle.held.proofs.databases.Databases.step_deadlines.Goals as goal

pub returns-clause-keyed : goal.returns-clause-keyed
returns-clause-keyed g c =
    in_place c.self.inside.bases.items c.args.self.now c.args.db c.index_mut.result.now _ (λ old new. (blocks : Blocks) → Keyed blocks old.deadlines.table → Keyed blocks new.deadlines.table)
    (ap (λ (b : Bases _). b.bases) c.self.view_is) c.requires c.index_mut.ensures.value c.rehash_step.ensures.keyed

pub returns-clause-steps : goal.returns-clause-steps
returns-clause-steps g c =
    in_place c.self.inside.bases.items c.args.self.now c.args.db c.index_mut.result.now _
    (λ old new. (blocks : Blocks) → Keyed blocks old.deadlines.table → StepsTable blocks old.deadlines.table new.deadlines.table)
    (ap (λ (b : Bases _). b.bases) c.self.view_is) c.requires c.index_mut.ensures.value
    (λ blocks k. record { tables = c.rehash_step.ensures.tables blocks k; items = c.rehash_step.ensures.items; top = c.rehash_step.ensures.top })
