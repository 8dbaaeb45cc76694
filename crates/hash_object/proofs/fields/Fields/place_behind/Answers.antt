use Rattle.std.proofs.Common.{subst, arith}
use Rattle.hash_object.specs.Items.{IsPlace}
use Rattle.hash_object.proofs.Ranks.{behind_in}
use Rattle.hash_object.proofs.fields.Fields.place_behind.Goals as goal

pub overflow_add-place : goal.overflow_add-place
overflow_add-place g c =
    let at = subst (λ b. IsPlace (g.B.BlockStore.blocks c.args.store.now) b c.requires.place.0 c.args.place) c.in-Table.is c.requires.place.1 in
    let below = c.top-top.ensures.above c.args.place at.0 in
    omega (arith, below)

pub returns-in-Table : goal.returns-in-Table
returns-in-Table g c = λ i at. behind_in (g.B.BlockStore.blocks c.args.store.now) c.args.self.now.body c.in-Table.table c.in-Table.is c.args.place i c.next_item.result c.next_item.ensures at
