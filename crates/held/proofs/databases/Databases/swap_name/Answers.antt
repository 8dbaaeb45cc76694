use Rattle.std.proofs.Common.{ap}
use Rattle.rehash_dict.specs.Steps.{Renames}
use Rattle.held.specs.Databases.{Bases}
use Rattle.held.proofs.Tables.{in_place}
use Rattle.held.proofs.databases.Databases.swap_name.Goals as goal

pub returns-clause-renames : goal.returns-clause-renames
returns-clause-renames g c =
    in_place c.self.inside.bases.items c.args.self.now c.args.db c.index_mut.result.now _ (λ old new. Renames old.keys new.keys c.args.at c.args.new)
    (ap (λ (b : Bases _). b.bases) c.self.view_is) c.requires.db c.index_mut.ensures.value c.swap_ref.ensures
