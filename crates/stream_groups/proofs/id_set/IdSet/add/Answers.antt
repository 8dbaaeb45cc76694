use Rattle.std.proofs.Common.{not, is_some, ap, ◌∙◌}
use Rattle.std.specs.FinMap as map
use Rattle.stream_groups.proofs.Uses.{numbered_insert}
use Rattle.stream_groups.proofs.IdSets.{id_found, said_of_other}
use Rattle.stream_groups.proofs.id_set.IdSet.add.Goals as goal

pub returns-clause-fresh : goal.returns-clause-fresh
returns-clause-fresh c = said_of_other _ _ c.is_none.ensures
    ∙ ap (λ o. not (is_some o)) (c.in_ok-insert.ensures.old ∙ id_found c.self.inside.ids.entries c.args.self.now c.self.invariant c.self.view_is c.args.id)

pub returns-clause-ok : goal.returns-clause-ok
returns-clause-ok c = numbered_insert (λ (u : Unit {0}). u) c.self.inside.ids.entries c.self.invariant c.insert.new.self.entries c.in_ok-insert.ensures.ordered c.args.id tt c.in_ok-insert.ensures.entries
    ∙ ap (λ m. map.insert m c.args.id tt) c.self.view_is
