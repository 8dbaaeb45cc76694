use Rattle.std.proofs.Common.{◌≡◌, ap}
use Rattle.rehash_dict.specs.Keyed.{key_tables}
use Rattle.blocks.specs.Blocks.{Blocks}
use Rattle.held.specs.Databases.{Bases}
use Rattle.held.specs.Table.{Keyed}
use Rattle.held.proofs.Tables.{in_place}
use Rattle.held.proofs.databases.Databases.swap_value.Goals as goal

pub returns-clause-keyed : goal.returns-clause-keyed
returns-clause-keyed g c =
    in_place c.self.inside.bases.items c.args.self.now c.args.db c.index_mut.result.now _ (λ old new. (blocks : Blocks) → Keyed blocks old.keys → Keyed blocks new.keys)
    (ap (λ (b : Bases _). b.bases) c.self.view_is) c.requires.db c.index_mut.ensures.value c.swap_value.ensures.keyed

pub returns-clause-tables : goal.returns-clause-tables
returns-clause-tables g c =
    in_place c.self.inside.bases.items c.args.self.now c.args.db c.index_mut.result.now _ (λ old new. (blocks : Blocks) → key_tables blocks new.keys ≡ key_tables blocks old.keys)
    (ap (λ (b : Bases _). b.bases) c.self.view_is) c.requires.db c.index_mut.ensures.value c.swap_value.ensures.tables
