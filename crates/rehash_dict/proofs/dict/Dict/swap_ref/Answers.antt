use Rattle.std.proofs.Common.{subst}
use Rattle.rehash_dict.specs.Steps.{Renames}
use Rattle.rehash_dict.proofs.Edited.{table_of, renames}
use Rattle.rehash_dict.proofs.dict.Dict.swap_ref.Goals as goal

pub returns : goal.returns
returns g c =
    subst (λ old. Renames old (table_of c.swap_key.new.self c.self.inside.position c.self.inside.seed c.self.inside.top) c.args.at c.args.new) c.self.view_is
    (renames c.self.inside.chains c.swap_key.new.self c.self.inside.position c.self.inside.seed c.self.inside.top c.args.at c.args.new c.self.invariant c.swap_key.ensures)
