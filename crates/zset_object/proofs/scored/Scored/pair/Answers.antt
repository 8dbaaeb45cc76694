use Rattle.std.proofs.Common.{ℕ, List, [], Option, Some, unwrap_or, w64, sym, ap, ◌∙◌}
use Rattle.std.proofs.lemmas.Int.{to_z-of_z}
use Rattle.zset_object.proofs.Walks.{linked_names}
use Rattle.zset_object.proofs.scored.Scored.pair.Goals as goal

pub bytes-requires-in-Linked-place : goal.bytes-requires-in-Linked-place
bytes-requires-in-Linked-place g c =
    let m = g.B.BlockStore.blocks c.args.store.now in
    let self = c.args.self.now in
    (linked_names m self.limits self.seed self.body c.args.cursor.now.rank c.args.cursor.now.place c.requires.sound.body c.requires.cursor c.in-Table.field-0 c.in-Linked-place.link
    c.in-Table.is c.in-Linked-place.is c.get-score.result c.get-score.ensures).live

pub returns-in-Linked-place : goal.returns-in-Linked-place
returns-in-Linked-place g c =
    let m = g.B.BlockStore.blocks c.args.store.now in
    let self = c.args.self.now in
    let names = linked_names m self.limits self.seed self.body c.args.cursor.now.rank c.args.cursor.now.place c.requires.sound.body c.requires.cursor c.in-Table.field-0
    c.in-Linked-place.link c.in-Table.is c.in-Linked-place.is c.get-score.result c.get-score.ensures in
    let range = c.get-score.type_inv in
    names.same ∙ (λ j. Some (sym (to_z-of_z w64 c.get-score.result.0 (record { sfits = range.1.1.0.1 })) j, ap (λ (o : Option (List ℕ)). unwrap_or o []) c.bytes-in-Linked-place.ensures j))
