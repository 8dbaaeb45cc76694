use Rattle.std.proofs.Common.{List, ℕ, [], Option, unwrap_or, sym, ap, ◌∙◌, subst}
use Rattle.blocks.specs.Blocks.{Owned}
use Rattle.hash_object.specs.declared.fields.Body.{Body}
use Rattle.hash_object.specs.Fields.{IsBody, refs_of_body}
use Rattle.hash_object.proofs.Tables.{value_live}
use Rattle.hash_object.proofs.Ranks.{table_pair}
use Rattle.hash_object.proofs.fields.Fields.pair.Goals as goal

pub bytes-requires-in-Table : goal.bytes-requires-in-Table
bytes-requires-in-Table g c =
    let self = c.args.self.now in
    (subst (IsBody (g.B.BlockStore.blocks c.args.store.now) self.limits self.seed) c.in-Table.is c.requires.sound.body).keyed.live c.args.cursor.place _ c.entry.ensures.found

pub bytes-requires-in-Table-2 : goal.bytes-requires-in-Table-2
bytes-requires-in-Table-2 g c =
    let m = g.B.BlockStore.blocks c.args.store.now in
    value_live m c.in-Table.table c.args.cursor.place _ (subst (λ (b : Body). Owned (refs_of_body b) m) c.in-Table.is c.requires.sound.owned) c.entry.ensures.found

pub returns-in-Table : goal.returns-in-Table
returns-in-Table g c =
    (λ j. (sym (ap (λ (o : Option (List ℕ)). unwrap_or o []) c.bytes-in-Table.ensures) j, sym (ap (λ (o : Option (List ℕ)). unwrap_or o []) c.bytes-in-Table-2.ensures) j))
    ∙ table_pair (g.B.BlockStore.blocks c.args.store.now) c.args.self.now.body c.in-Table.table c.in-Table.is c.args.cursor.index c.args.cursor.place _ c.entry.ensures.found c.requires.cursor
