use Rattle.std.specs.Prelude.{◌≡◌, OnOk, OnErr}
use Rattle.rehash_dict.specs.Tables.{shrunk}
use Rattle.rehash_dict.specs.Keyed.{key_tables}
use Rattle.std.proofs.Common.{◌<◌, length, refl, sym, ap, subst}
use Rattle.blocks.specs.Blocks.{Blocks}
use Rattle.held.specs.Databases.{Bases}
use Rattle.expiry.specs.Timed.{Grows}
use Rattle.held.specs.Table.{Keyed}
use Rattle.held.proofs.Tables.{in_place}
use Rattle.held.proofs.Stirring.{going_shrunk, still_set}
use Rattle.held.proofs.databases.Databases.shrink_deadlines.Goals as goal

pub returns-clause-keyed : goal.returns-clause-keyed
returns-clause-keyed g c =
    in_place c.self.inside.bases.items c.args.self.now c.args.db c.index_mut.result.now _ (λ old new. (blocks : Blocks) → Keyed blocks old.deadlines.table → Keyed blocks new.deadlines.table)
    (ap (λ (b : Bases _). b.bases) c.self.view_is) c.requires.db c.index_mut.ensures.value c.shrink-began.ensures.keyed

pub returns-clause-grown : goal.returns-clause-grown
returns-clause-grown g c =
    in_place c.self.inside.bases.items c.args.self.now c.args.db c.index_mut.result.now _ (λ old new. (blocks : Blocks) → Grows blocks old.deadlines new.deadlines)
    (ap (λ (b : Bases _). b.bases) c.self.view_is) c.requires.db c.index_mut.ensures.value c.shrink-began.ensures.grown

pub invariant_of-self : goal.invariant_of-self
invariant_of-self g c none =
    let calm = c.stirs_behind-self-inside.ensures none in
    let was : Bases g.row.V.Denot = record { bases = c.self.inside.bases.items; limits = c.self.inside.limits; seed = c.self.inside.seed; turn = c.self.inside.turn } in
    still_set was _ c.args.db c.index_mut.result.now _ refl (subst (λ (b : Bases _). c.args.db < length b.bases) (sym c.self.view_is) c.requires.db) c.index_mut.ensures.value
    refl
    (going_shrunk c.index_mut.result.now.deadlines.table c.shrink-began.new.self.table c.shrink-began.result c.shrink-began.ensures.value c.shrink-began.ensures.tables calm.1)
    (c.self.invariant calm.0)

pub returns-clause-tables : goal.returns-clause-tables
returns-clause-tables g c =
    in_place c.self.inside.bases.items c.args.self.now c.args.db c.index_mut.result.now _
    (λ old new. (blocks : Blocks) → OnOk c.shrink-began.result (key_tables blocks new.deadlines.table ≡ shrunk (key_tables blocks old.deadlines.table)))
    (ap (λ (b : Bases _). b.bases) c.self.view_is) c.requires.db c.index_mut.ensures.value c.shrink-began.ensures.tables

pub returns-clause-err : goal.returns-clause-err
returns-clause-err g c =
    in_place c.self.inside.bases.items c.args.self.now c.args.db c.index_mut.result.now _ (λ old new. OnErr c.shrink-began.result (new.deadlines ≡ old.deadlines))
    (ap (λ (b : Bases _). b.bases) c.self.view_is) c.requires.db c.index_mut.ensures.value c.shrink-began.ensures.err
