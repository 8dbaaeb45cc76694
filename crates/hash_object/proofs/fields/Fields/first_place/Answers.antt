use Rattle.hash_object.proofs.Ranks.{first_in}
use Rattle.hash_object.proofs.fields.Fields.first_place.Goals as goal

pub returns-in-Table : goal.returns-in-Table
returns-in-Table g c = first_in (g.B.BlockStore.blocks c.args.store.now) c.args.self.now.body c.in-Table.table c.in-Table.is c.next_item.result c.next_item.ensures
