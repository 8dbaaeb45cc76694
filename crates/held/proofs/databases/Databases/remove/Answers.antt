use Rattle.std.proofs.Common.{◌≡◌, IfSome, ap}
use Rattle.rehash_dict.specs.Tables.{removed}
use Rattle.rehash_dict.specs.Keyed.{same_key, key_tables}
use Rattle.held.specs.Databases.{Bases}
use Rattle.held.proofs.Tables.{in_place}
use Rattle.held.proofs.databases.Databases.remove.Goals as goal

pub returns-clause-tables : goal.returns-clause-tables
returns-clause-tables g c =
    in_place c.self.inside.bases.items c.args.self.now c.args.db c.index_mut.result.now _
    (λ old new. IfSome c.remove_hashed.result
    (λ _. key_tables (g.B.BlockStore.blocks c.args.store.now) new.keys ≡ removed same_key (key_tables (g.B.BlockStore.blocks c.args.store.now) old.keys) c.args.key.now))
    (ap (λ (b : Bases _). b.bases) c.self.view_is) c.requires.db c.index_mut.ensures.value c.remove_hashed.ensures.tables
