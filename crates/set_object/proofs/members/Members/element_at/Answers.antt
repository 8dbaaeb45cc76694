use Rattle.std.proofs.Common.{◌∙◌, sym, subst, ap, unwrap_or, [], List, ℕ, Option}
use Rattle.set_object.specs.Members.{IsBody}
use Rattle.set_object.proofs.Ranks.{table_element}
use Rattle.set_object.proofs.members.Members.element_at.Goals as goal

pub bytes-requires-in-Table : goal.bytes-requires-in-Table
bytes-requires-in-Table g c =
    let self = c.args.self.now in
    (subst (IsBody (g.B.BlockStore.blocks c.args.store.now) self.limits self.seed) c.in-Table.is c.requires.sound.body).keyed.live c.args.place _ c.entry.ensures.found

pub returns-in-Table : goal.returns-in-Table
returns-in-Table g c = λ i at.
    sym (ap (λ (o : Option (List ℕ)). unwrap_or o []) c.bytes-in-Table.ensures)
    ∙ table_element (g.B.BlockStore.blocks c.args.store.now) c.args.self.now.body c.in-Table.table c.in-Table.is i c.args.place _ c.entry.ensures.found at
